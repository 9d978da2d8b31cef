use Rattle.std.proofs.Common.{slice_index_or, subst}
use Rattle.headend_jobs.specs.declared.views.ViewJob.{ViewJob}
use Rattle.headend_jobs.specs.Views.{ViewDid}
use Rattle.headend_jobs.proofs.views.run_views.Goals as goal

pub returns-then-count-gt0-clause-each : goal.returns-then-count-gt0-clause-each
returns-then-count-gt0-clause-each g c = λ i d less.
    let at = (c.for_each_mut.ensures i d less).1 in
    let did : ViewDid at.argument.now at.after_call.now = at.call in
    subst (λ (x : ViewJob). ViewDid x (slice_index_or c.for_each_mut.new.s i d)) at.argument_is (subst (λ (y : ViewJob). ViewDid at.argument.now y) at.left did)
