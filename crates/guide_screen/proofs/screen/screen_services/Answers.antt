use Rattle.std.proofs.Common.{◌≡◌, ◌∙◌, ap, arith}
use Rattle.std.proofs.lemmas.Grind.{common_steps}
use Rattle.guide_screen.specs.Screen.{service_on, screen_service}
use Rattle.guide_screen.proofs.screen.screen_services.Goals as goal

pub loop-service-preserved : goal.loop-service-preserved
loop-service-preserved c = λ content keeps.
    let shown : c.in_ok-service_on.field-0 ≡ screen_service content c.args.programs.now c.args.sdt c.in-Some.service =
    c.in_ok-service_on.ensures content keeps
    ∙ ap (service_on content c.args.sdt c.in-Some.service) (c.pmt_pid-pid.ensures c.args.programs.now c.in_ok-pids.ensures) in
    grind (arith, common_steps, shown, c.loop-service.invariant content keeps)
