use Rattle.headend_jobs.specs.Views.{Asked}
use Rattle.headend_jobs.proofs.views.run_view.Given as goal

abbrev pub invariant-loop : goal.invariant-loop
invariant-loop l = Asked l.counter l.fn.job l.job
