-- Present and following of a service (EN 300 468, 5.2.4).
use Rattle.std.specs.Prelude.{ℕ, List, [], ◌∷◌, take, drop, map, Option, Some, None}
use Rattle.guide_model.specs.declared.event.Event.{Event}
use Rattle.guide_model.specs.declared.guide.ServiceGuide.{ServiceGuide}
use Rattle.mux_model.specs.declared.mux.Mux.{Mux}
use Rattle.section_codec.specs.declared.table.NumberedBody.{NumberedBody}
use Rattle.section_codec.specs.declared.table.SubTable.{SubTable}
use Rattle.section_codec.specs.Tables.{tier_of}
use Rattle.table_bodies.specs.Eit.{eit_body}
use Rattle.eit_segments.specs.Placement.{present_at, following_at}
use Rattle.eit_segments.specs.Laws.{at_of}
use Rattle.publication.specs.Eit.{Bearer, own, bearer_key, eit_head}

-- the event at a place, or none
abbrev pub event_at : Option ℕ → List Event → List Event
event_at None events = []
event_at (Some place) events = take 1 (drop place events)

-- the event that is on at a moment, and the next one that starts after it
abbrev pub present_event : ℕ → List Event → List Event
present_event moment events = event_at (present_at moment (map at_of events)) events

abbrev pub following_event : ℕ → List Event → List Event
following_event moment events = event_at (following_at moment (map at_of events)) events

-- section 0 has the present event with running_status 4 (running), section 1 the following one with 1 (not running); without one
-- the section is empty. Both have segment_last_section_number 1 and their own table_id as last_table_id.
abbrev pub present_sections : Bearer → ℕ → List Event → List NumberedBody
present_sections b moment events =
    record { number = 0; body = eit_body (eit_head b 1 b.present) 4 (present_event moment events) }
    ∷ record { number = 1; body = eit_body (eit_head b 1 b.present) 1 (following_event moment events) }
    ∷ []

-- present and following of a service of a stream at a moment
abbrev pub present_of : Bearer → ℕ → ServiceGuide → SubTable
present_of b moment service = record {
  key = bearer_key b b.present service.service;
  tier = tier_of b.present;
  sections = present_sections b moment service.events;
}

-- present and following of a service of this multiplex
abbrev pub present_table : Mux → ℕ → ServiceGuide → SubTable
present_table mux = present_of (own mux)
