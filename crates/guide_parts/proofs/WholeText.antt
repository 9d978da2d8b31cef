-- A whole screen has one text.
use Rattle.std.proofs.Common.{◌≡◌, ℕ, Bool, List, [], ◌∷◌, ◌++◌, map, flat_map, refl, ap}
use Rattle.std.specs.Prelude.{codes}
use Rattle.guide_model.specs.declared.screen.ScreenService.{ScreenService}
use Rattle.guide_text.specs.Guides.{line, clock_line, local_line, network_text, stream_text, service_text, other_text}
use Rattle.guide_parts.specs.Laws.{service_as_part}
use Rattle.guide_parts.specs.PartTexts.{part_service_text, WholeTextIsListen}

services_same : (details : Bool) (ss : List ScreenService) → flat_map (part_service_text details) (map service_as_part ss) ≡ flat_map (service_text details) ss
services_same details [] = refl
services_same details (s ∷ ss) = ap (λ (l : List ℕ). service_text details s ++ l) (services_same details ss)

pub whole_text : WholeTextIsListen
whole_text details s =
    let clock = clock_line s.clock.0 in
    let locals = flat_map (local_line s.clock.0) s.offsets in
    let others = flat_map (other_text details) s.others in
    ap (λ (l : List ℕ). ((((clock ++ locals) ++ network_text details s) ++ stream_text details s) ++ l) ++ others ++ line (codes "end" ∷ [])) (services_same details s.services)
