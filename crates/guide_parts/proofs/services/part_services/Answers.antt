use Rattle.std.proofs.Common.{◌≡◌, ◌∙◌, ap, arith}
use Rattle.std.proofs.lemmas.Grind.{common_steps}
use Rattle.guide_parts.specs.PartScreen.{service_on, part_service}
use Rattle.guide_parts.proofs.services.part_services.Goals as goal

pub loop-one-preserved : goal.loop-one-preserved
loop-one-preserved c = λ part keeps.
    let shown : c.in_ok-service_on.field-0 ≡ part_service part c.args.programs.now c.args.home c.in-Some.one =
    c.in_ok-service_on.ensures part keeps
    ∙ ap (service_on part c.args.home c.in-Some.one) (c.pmt_pid-pid.ensures c.args.programs.now c.in_ok-pids.ensures) in
    grind (arith, common_steps, shown, c.loop-one.invariant part keeps)
