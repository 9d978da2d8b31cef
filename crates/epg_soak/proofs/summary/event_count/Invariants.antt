use Rattle.std.proofs.Common.{◌≡◌, length, take}
use Rattle.std.specs.List.{sum_by}
use Rattle.guide_model.specs.declared.screen.ScreenService.{ScreenService}
use Rattle.epg_soak.proofs.summary.event_count.Given as goal

abbrev pub invariant-loop-service : goal.invariant-loop-service
invariant-loop-service l = l.count ≡ sum_by (λ (s : ScreenService). length s.events) (take l.service-index l.service-items)
