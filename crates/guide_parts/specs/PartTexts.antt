-- The text of a guide of parts: the table of its lines.
use Rattle.std.specs.Prelude.{◌≡◌, ℕ, ◌++◌, List, [], ◌∷◌, Bool, false, Option, codes, decimal, flat_map}
use Rattle.si_time.specs.declared.moment.Moment.{Moment}
use Rattle.guide_model.specs.declared.offset.Offset.{Offset}
use Rattle.guide_model.specs.declared.screen.Screen.{Screen}
use Rattle.guide_screen.specs.declared.need.Heard.TheVariants.{Whole}
use Rattle.guide_parts.specs.declared.part_screen.PartNetwork.{PartNetwork}
use Rattle.guide_parts.specs.declared.part_screen.PartService.{PartService}
use Rattle.guide_parts.specs.declared.part_screen.PartScreen.{PartScreen}
use Rattle.guide_parts.specs.declared.part_screen.PartGuide.{PartGuide}
use Rattle.guide_parts.specs.Laws.{screen_as_part}
use Rattle.guide_text.specs.Fields.{shown_text, optional}
use Rattle.guide_text.specs.Guides.{line, need_line, details_text, event_text, component_text, service_details, clock_line, local_line, cable_line, other_text, guide_text_with}

-- service_id, service_type, provider, name, and the PIDs of its PMT and its PCR
abbrev pub part_service_line : PartService → List ℕ
part_service_line s =
    line (codes "service" ∷ decimal s.service ∷ optional decimal s.kind ∷ shown_text s.provider ∷ shown_text s.name
    ∷ optional decimal s.pmt_pid ∷ optional decimal s.pcr_pid ∷ [])

-- a service, its components, and its events
abbrev pub part_service_text : Bool → PartService → List ℕ
part_service_text details s =
    part_service_line s ++ service_details details s.descriptors s.program_descriptors ++ flat_map (component_text details) s.components
    ++ optional (event_text details (codes "now")) s.now ++ optional (event_text details (codes "next")) s.next
    ++ flat_map (event_text details (codes "event")) s.events

-- the last moment, and the local times at it
abbrev pub clock_lines : List Offset → Moment → List ℕ
clock_lines offsets at = clock_line at.0 ++ flat_map (local_line at.0) offsets

-- network_id and name
abbrev pub part_network_line : PartNetwork → List ℕ
part_network_line n = line (codes "network" ∷ decimal n.id ∷ shown_text n.name ∷ [])

abbrev pub part_network_text : Bool → PartNetwork → List ℕ
part_network_text details n = part_network_line n ++ details_text details (codes "descriptor") n.descriptors

-- transport_stream_id and original_network_id
abbrev pub part_stream_line : Option ℕ → ℕ → List ℕ
part_stream_line original stream = line (codes "stream" ∷ decimal stream ∷ optional decimal original ∷ [])

abbrev pub part_stream_text : Bool → PartScreen → List ℕ
part_stream_text details s =
    optional (part_stream_line s.original) s.stream ++ optional cable_line s.cable
    ++ details_text details (codes "descriptor") s.stream_descriptors

-- the lines of a whole screen, without those of what was not heard
abbrev pub part_screen_text : Bool → PartScreen → List ℕ
part_screen_text details s =
    optional (clock_lines s.offsets) s.clock ++ optional (part_network_text details) s.network ++ part_stream_text details s
    ++ flat_map (part_service_text details) s.services ++ flat_map (other_text details) s.others

-- the needs that are not met, what is shown all the same, with details or without, and then `end`
abbrev pub part_text_with : Bool → PartGuide → List ℕ
part_text_with details g = flat_map need_line g.wanting ++ part_screen_text details g.shown ++ line (codes "end" ∷ [])

abbrev pub part_text : PartGuide → List ℕ
part_text g = part_text_with false g

-- A whole screen with nothing wanting has the text that it has as a guide, with details and without.
abbrev pub WholeTextIsListen : Type 0
WholeTextIsListen = (details : Bool) (shown : Screen)
    → part_text_with details (record { wanting = []; shown = screen_as_part shown }) ≡ guide_text_with details (Whole shown)
