-- The schedule of a service, table by table (EN 300 468, 5.2.4).
use Rattle.std.specs.Prelude.{ℕ, ◌+◌, ◌-◌, List, map, min}
use Rattle.std.specs.List.{range_with_len}
use Rattle.guide_model.specs.declared.event.Event.{Event}
use Rattle.guide_model.specs.declared.guide.ServiceGuide.{ServiceGuide}
use Rattle.mux_model.specs.declared.mux.Mux.{Mux}
use Rattle.section_codec.specs.Tables.{tier_of}
use Rattle.section_codec.specs.declared.table.NumberedBody.{NumberedBody}
use Rattle.section_codec.specs.declared.table.SubTable.{SubTable}
use Rattle.table_bodies.specs.Eit.{eit_body}
use Rattle.eit_segments.specs.declared.piece.Piece.{Piece}
use Rattle.eit_segments.specs.Schedule.{last_table, sections_in_table, section_events}
use Rattle.eit_segments.specs.Laws.{at_of}
use Rattle.publication.specs.Eit.{Bearer, own, bearer_key, eit_head}

-- last_table_id of the schedule of the 64 days from a midnight on
abbrev pub last_table_of : ℕ → List Event → ℕ
last_table_of day events = last_table day (map at_of events)

-- a section: its section_number, and its events with running_status 0 (undefined)
abbrev pub schedule_section : Bearer → List Event → ℕ → Piece → NumberedBody
schedule_section b events last_table piece =
    record { number = piece.number; body = eit_body (eit_head b piece.segment_last last_table) 0 (section_events piece events) }

-- a table 0x50 to 0x5F of the schedule of a service of a stream, which is sent under that stream's table_id
abbrev pub schedule_of : Bearer → ℕ → ServiceGuide → ℕ → SubTable
schedule_of b day service table = record {
  key = bearer_key b (b.sent table) service.service;
  tier = tier_of (b.sent table);
  sections = map (schedule_section b service.events (b.sent (last_table_of day service.events))) (sections_in_table day table (map at_of service.events));
}

-- such a table of a service of this multiplex
abbrev pub schedule_table : Mux → ℕ → ServiceGuide → ℕ → SubTable
schedule_table mux = schedule_of (own mux)

-- its tables from one of these up to and without another
abbrev pub schedules_of : Bearer → ℕ → ServiceGuide → ℕ → ℕ → List SubTable
schedules_of b day service from to = map (schedule_of b day service) (range_with_len from (to - from))

abbrev pub schedule_tables : Mux → ℕ → ServiceGuide → ℕ → ℕ → List SubTable
schedule_tables mux = schedules_of (own mux)

-- those of the first eight days, 0x50 and 0x51, and those of the later days, up to last_table_id
abbrev pub near_tables : Mux → ℕ → ServiceGuide → List SubTable
near_tables mux day service = schedule_tables mux day service 0x50 (1 + min 0x51 (last_table_of day service.events))

abbrev pub far_tables : Mux → ℕ → ServiceGuide → List SubTable
far_tables mux day service = schedule_tables mux day service 0x52 (1 + last_table_of day service.events)

-- all tables of the schedule of a service of another stream, up to the last: 0x60 to 0x6F
abbrev pub remote_tables : Bearer → ℕ → ServiceGuide → List SubTable
remote_tables b day service = schedules_of b day service 0x50 (1 + last_table_of day service.events)
