use Rattle.cycle_timing.proofs.Leading.{leads_more}
use Rattle.cycle_timing.proofs.leads.leads_within.Goals as goal

pub loop-place-preserved : goal.loop-place-preserved
loop-place-preserved c = leads_more c.args.largest c.often_of-often.result c.loop-place.place c.args.groups.now _ _ _ c.often_of-often.ensures c.loop-place.invariant c.in_ok-lead_of.ensures c.in_ok-push.ensures.items
