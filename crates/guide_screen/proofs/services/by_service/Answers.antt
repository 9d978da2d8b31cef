use Rattle.std.proofs.Common.{◌≡◌, ◌++◌, ◌∙◌, length, List, ap₂, sym}
use Rattle.table_bodies.specs.declared.sdt.SdtService.{SdtService}
use Rattle.guide_screen.proofs.Ordering.{one_taken, all_taken}
use Rattle.guide_screen.proofs.services.by_service.Goals as goal

pub loop-service-preserved : goal.loop-service-preserved
loop-service-preserved c =
    one_taken c.args.services.items c.loop-service.services.items c.pop.new.self.items c.pop.result
    c.in-Some.service c.loop-service.by_id.entries c.put_service.new.by_id.entries
    c.loop-service.invariant c.pop.ensures.items c.in-Some.is c.in_ok-put_service.ensures

pub loop-service-2-init : goal.loop-service-2-init
loop-service-2-init c =
    let none : length c.loop-service.services.items ≡ 0 = sym c.loop-service.services.ok.0 ∙ c.in_default.ensures.cases.0 in
    ap₂ (λ (xs ys : List SdtService). xs ++ ys) c.in_ok-ordered.ensures.items
    (c.into_iter-service-iterator.ensures.into_iter_gives ∙ c.into_values-service-items.ensures.rest)
    ∙ all_taken c.args.services.items c.loop-service.services.items c.loop-service.by_id.entries c.loop-service.invariant none
