-- The sections that count (ISO/IEC 13818-1, 2.4.4; EN 300 468, 5.1.3, 5.2.1, 5.2.3 and 5.2.4): those of the PAT and the PMTs, of the NIT
-- of the actual network, and of the SDT and the event information of this stream and of others.
use Rattle.std.specs.Prelude.{ℕ, Bool, false, ◌&&◌, ◌||◌, ◌==◌, if◌then◌else◌, nat_le, List, filter_map, Option, Some, None, option_map, Result, Ok, Err}
use Rattle.section_codec.specs.declared.section.LongHeader.{LongHeader}
use Rattle.section_codec.specs.declared.section.Section.{Section}
use Rattle.section_codec.specs.declared.section.Section.TheVariants.{Long, Short}
use Rattle.section_codec.specs.declared.section.BadSection.{BadSection}
use Rattle.section_codec.specs.Tables.{is_eit, is_counted}
use Rattle.section_codec.specs.Section.{section_in}
use Rattle.section_codec.specs.Keys.{key_in}
use Rattle.section_codec.specs.Segments.{segment_last_in}
use Rattle.table_bodies.specs.Pat.{is_pat_body}
use Rattle.table_bodies.specs.Pmt.{is_pmt_body}
use Rattle.table_bodies.specs.Nit.{is_nit_body}
use Rattle.table_bodies.specs.Sdt.{is_sdt_body}
use Rattle.table_bodies.specs.Eit.{is_eit_body}
use Rattle.ts_demux.specs.declared.section.RawSection.{RawSection}
use Rattle.sub_collect.specs.Runs.{Counted, counted}

-- a segment's last number is known, and is not above that of the table
abbrev pub is_last_within : Option ℕ → ℕ → Bool
is_last_within None last = false
is_last_within (Some n) last = nat_le n last

-- A body of event information is read as such, and its segment_last_section_number is of the section's own segment and not above
-- last_section_number.
abbrev pub is_event_body : LongHeader → List ℕ → Bool
is_event_body h body = is_eit_body body && is_last_within (segment_last_in h.number body) h.last

-- The body is one of its table, by table_id. Tables beside these have none.
abbrev pub is_body_of_table : LongHeader → List ℕ → Bool
is_body_of_table h body =
    if is_eit h.table then is_event_body h body
    else if h.table == 0x00 then is_pat_body body
    else if h.table == 0x02 then is_pmt_body body
    else if h.table == 0x40 then is_nit_body body
    else (h.table == 0x42 || h.table == 0x46) && is_sdt_body body

-- A section counts where it has the long form with current_next_indicator 1, its PID and its table are those that count, its body is one
-- of its table, and begins with what its key needs.
abbrev pub counted_of : ℕ → Section → Option Counted
counted_of pid (Long h body) = if h.current && is_counted pid h.table && is_body_of_table h body then option_map (λ k. counted k h body) (key_in pid h body) else None
counted_of pid (Short table body) = None

-- bytes that are no section count for nothing
abbrev pub counted_by : ℕ → Result Section BadSection → Option Counted
counted_by pid (Ok section) = counted_of pid section
counted_by pid (Err bad) = None

abbrev pub counted_in : RawSection → Option Counted
counted_in raw = counted_by raw.pid (section_in raw.bytes)

-- those of these sections that count, in order
abbrev pub counted_among : List RawSection → List Counted
counted_among sections = filter_map counted_in sections
