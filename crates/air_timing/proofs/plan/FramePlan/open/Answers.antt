use Rattle.std.proofs.Common.{sym, subst}
use Rattle.air_timing.specs.PaceView.{place_of}
use Rattle.air_timing.specs.PlanView.{planned, CanCount}
use Rattle.air_timing.proofs.Courses.{begins_whole}
use Rattle.air_timing.proofs.plan.FramePlan.open.Goals as goal

pub returns : goal.returns
returns c = begins_whole (planned c.args.sections.items c.args.leads.items c.args.body.items c.args.pace.spacing c.args.span) c.requires.some (place_of c.args.pace)

pub invariant_of-result : goal.invariant_of-result
invariant_of-result c =
    let whole = begins_whole (planned c.args.sections.items c.args.leads.items c.args.body.items c.args.pace.spacing c.args.span) c.requires.some (place_of c.args.pace) in
    record { plan = c.requires.plan; lead = c.requires.some; count = subst (CanCount c.args.pace.packing.closed) (sym whole) c.requires.count }
