-- What the bodies of event information say.
use Rattle.std.proofs.Common.{◌≡◌, ℕ, ◌-◌, ◌<◌, List, [], ◌∷◌, ◌++◌, Option, Some, None, map, refl, sym, ap, ap₂, ◌∙◌, arith, drop}
use Rattle.std.specs.Prelude.{flat_map, option_map, option_and_then, unwrap_or}
use Rattle.std.specs.List.{All}
use Rattle.std.proofs.lemmas.List.{map-append}
use Rattle.std.proofs.lemmas.List.Elements.{All-from_recursion, All-take, All-drop}
use Rattle.guide_model.specs.declared.event.Event.{Event}
use Rattle.guide_model.specs.declared.screen.ScreenEvent.{ScreenEvent}
use Rattle.table_bodies.specs.declared.eit.Eit.{Eit}
use Rattle.table_bodies.specs.Eit.{IsCodable, IsTyped, eit_body, eit_in, shown_event}
use Rattle.table_bodies.proofs.ReadBack.{eit-reads_back}
use Rattle.eit_segments.specs.declared.piece.Piece.{Piece}
use Rattle.eit_segments.specs.Schedule.{section_events}
use Rattle.publication.specs.Eit.{Bearer, eit_head}
use Rattle.publication.specs.Present.{event_at as events_at_place, present_event, following_event, present_sections}
use Rattle.publication.specs.Schedule.{schedule_section}
use Rattle.guide_screen.specs.Reading.{events_in}
use Rattle.guide_screen.specs.Screen.{first_of, event_at}
use Rattle.journal_air.specs.Screen.{first_shown}

-- the ids of the stream have 16 bits
pub record HasIds (b : Bearer) : Type 0 where
  pub stream : b.stream < 65536
  pub original : b.original < 65536

body_said : (b : Bearer) → HasIds b → (segment_last last_table status : ℕ) → status < 8 → (part : List Event) → All IsCodable part → All IsTyped part
    → eit_in (eit_body (eit_head b segment_last last_table) status part) ≡ Some (record { head = eit_head b segment_last last_table; events = map shown_event part })
body_said b ids segment_last last_table status small part codable typed =
    eit-reads_back (eit_head b segment_last last_table) status part (record { stream = ids.stream; original = ids.original }) small codable typed

-- ---- present and following

first_said : (es : List Event) → first_of (map shown_event es) ≡ first_shown es
first_said [] = refl
first_said (e ∷ es) = refl

at_place : (P : Event → Type 0) (place : Option ℕ) (es : List Event) → All P es → All P (events_at_place place es)
at_place P None es all = All-from_recursion P [] tt
at_place P (Some i) es all = All-take P 1 (drop i es) (All-drop P i es all)

module _ (b : Bearer) (ids : HasIds b) (es : List Event) (codable : All IsCodable es) (typed : All IsTyped es) where
  abbrev event_of : Option Eit → Option ScreenEvent
  event_of o = option_and_then (λ (eit : Eit). first_of eit.events) o

  pub now_said : (moment : ℕ) → event_at 0 (present_sections b moment es) ≡ first_shown (present_event moment es)
  now_said moment =
      ap event_of (body_said b ids 1 b.present 4 (omega arith) (present_event moment es) (at_place IsCodable _ es codable) (at_place IsTyped _ es typed))
      ∙ first_said (present_event moment es)

  pub next_said : (moment : ℕ) → event_at 1 (present_sections b moment es) ≡ first_shown (following_event moment es)
  next_said moment =
      ap event_of (body_said b ids 1 b.present 1 (omega arith) (following_event moment es) (at_place IsCodable _ es codable) (at_place IsTyped _ es typed))
      ∙ first_said (following_event moment es)

  -- ---- sections of a schedule

  part_of : (P : Event → Type 0) (p : Piece) → All P es → All P (section_events p es)
  part_of P p all = All-take P (p.to - p.from) (drop p.from es) (All-drop P p.from es all)

  pub pieces_said : (last : ℕ) (ps : List Piece) → events_in (map (schedule_section b es last) ps) ≡ map shown_event (flat_map (λ (p : Piece). section_events p es) ps)
  pieces_said last [] = refl
  pieces_said last (p ∷ ps) =
      let said = body_said b ids p.segment_last last 0 (omega arith) (section_events p es) (part_of IsCodable p codable) (part_of IsTyped p typed) in
      ap₂ (λ (o : Option Eit) (l : List ScreenEvent). unwrap_or (option_map (λ (eit : Eit). eit.events) o) [] ++ l) said (pieces_said last ps)
      ∙ sym (map-append shown_event (section_events p es) (flat_map (λ (q : Piece). section_events q es) ps))
