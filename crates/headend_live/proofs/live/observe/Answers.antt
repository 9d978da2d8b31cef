use Rattle.std.proofs.Common.{true, refl, sym, ◌∙◌}
use Rattle.headend_jobs.specs.declared.live.LiveStop.TheVariants as live
use Rattle.headend_live.proofs.Watching.{not_told, told_all}
use Rattle.headend_live.proofs.live.observe.Goals as goal

pub returns-in-Some-clause-told : goal.returns-in-Some-clause-told
returns-in-Some-clause-told c = not_told c.args.log.now c.args.stop c.in-Some.stop c.args.log.now.wanting c.stopped.result (λ e. e) (sym c.watched_stop.ensures ∙ c.in-Some.is) c.stopped.ensures

pub returns-in-Err-clause-told : goal.returns-in-Err-clause-told
returns-in-Err-clause-told c = not_told c.args.log.now c.args.stop live.Memory true c.stopped-in-Err.result (λ e. refl) refl c.stopped-in-Err.ensures

pub returns-in-Ok-clause-told : goal.returns-in-Ok-clause-told
returns-in-Ok-clause-told c = told_all c.args.log.now c.args.stop c.in-Ok.told (sym c.watched_stop.ensures ∙ c.in-None.is) c.in-Ok.ensures.told
