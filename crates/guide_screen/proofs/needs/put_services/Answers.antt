use Rattle.std.proofs.Common.{◌+◌, take, flat_map, ap, ◌∙◌}
use Rattle.guide_screen.specs.Needs.{want_service}
use Rattle.guide_screen.proofs.Lists.{take-next, flat_map-push, needs-next}
use Rattle.guide_screen.proofs.needs.put_services.Goals as goal

pub loop-service-preserved : goal.loop-service-preserved
loop-service-preserved c content keeps =
    let services = c.args.services.now in
    let i = c.loop-service.service-index in
    let s = c.service-item.result in
    let wants = want_service content c.in-Some.sdt in
    needs-next content (flat_map wants (take i services)) (wants s)
    (flat_map wants (take (i + 1) services)) c.args.needs.now.items c.loop-service.needs.items c.put_service.new.needs.items
    (ap (flat_map wants) (take-next services i s c.loop-service-test.true c.service-item.is) ∙ flat_map-push wants (take i services) s)
    (c.loop-service.invariant content keeps) (c.in_ok-put_service.ensures content keeps)
