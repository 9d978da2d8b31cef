use Rattle.std.proofs.Common.{rules, subst, slice_index_or}
use Rattle.desk_hall.specs.Reads.{stream}
use Rattle.headend_jobs.specs.Jobs.{FeedDid}
use Rattle.headend_jobs.proofs.Joining.{zip_of}
use Rattle.headend_jobs.proofs.jobs.run_feeds.Goals as goal

pub returns-then-count-gt0 : goal.returns-then-count-gt0
returns-then-count-gt0 g c =
    let st = stream g.F.Source.left g.F.Source.faults g.F.Source.same in
    zip_of (FeedDid st) c.args.jobs.now c.for_each_mut.new.s (search rules) (λ i d less.
    let at = (c.for_each_mut.ensures i d less).1 in
    let did : FeedDid st at.argument.now at.after_call.now = at.call in
    subst (λ x. FeedDid st x (slice_index_or c.for_each_mut.new.s i d)) at.argument_is (subst (λ y. FeedDid st at.argument.now y) at.left did))
