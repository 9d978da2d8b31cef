-- What was heard last: of the tables that come once, the key that was completed last, the SDTs of other streams, and the moment of the last
-- time and date table and the offsets of the last time offset table (ISO/IEC 13818-1, 2.4.4.3; EN 300 468, 5.2.1, 5.2.3, 5.2.5 and 5.2.6).
use Rattle.std.specs.Prelude.{◌≡◌, ℕ, Bool, ◌&&◌, ◌==◌, if◌then◌else◌, List, [], ◌∷◌, map, filter, filter_map, Option, Some, None, option_map, unwrap_or, Result, Ok, Err}
use Rattle.std.specs.Option.{option_or}
use Rattle.si_time.specs.declared.moment.Moment.{Moment}
use Rattle.section_codec.specs.declared.table.Key.{Key}
use Rattle.section_codec.specs.KeyOrder.{in_order}
use Rattle.section_codec.specs.declared.section.Section.{Section}
use Rattle.section_codec.specs.declared.section.Section.TheVariants.{Long, Short}
use Rattle.section_codec.specs.declared.section.BadSection.{BadSection}
use Rattle.section_codec.specs.Section.{section_in}
use Rattle.guide_model.specs.declared.offset.Offset.{Offset}
use Rattle.time_tables.specs.declared.tot.Tot.{Tot}
use Rattle.time_tables.specs.Tdt.{tdt_in}
use Rattle.time_tables.specs.Tot.{tot_in}
use Rattle.ts_demux.specs.declared.section.RawSection.{RawSection}
use Rattle.sub_collect.specs.Runs.{Counted}
use Rattle.sub_collect.specs.Completions.{dones}
use Rattle.sub_collect.specs.Marks.{Taken, dones_over}
use Rattle.sub_collect.specs.declared.completed.Completed.{Completed}
use Rattle.guide_receiver.specs.declared.latest_keys.LatestKeys.{LatestKeys}

-- the last of a list
abbrev pub last_of : {X : Type 0} → List X → Option X
last_of [] = None
last_of (x ∷ xs) = option_or (last_of xs) (Some x)

-- ---- keys

-- the keys of the completions that these sections show, in order
abbrev pub keys_shown : List Counted → List Key
keys_shown heard = map (λ (d : Completed). d.key) (dones [] heard)

-- the keys of the completions that these sections and marks show, in order
abbrev pub keys_shown_over : List Taken → List Key
keys_shown_over taken = map (λ (d : Completed). d.key) (dones_over [] taken)

abbrev pub is_pat_key : Key → Bool
is_pat_key k = k.table == 0x00

abbrev pub is_nit_key : Key → Bool
is_nit_key k = k.table == 0x40

-- the SDT of a transport_stream_id, of any network
abbrev pub is_sdt_key : ℕ → Key → Bool
is_sdt_key ext k = k.table == 0x42 && k.ext == ext

-- an SDT of another stream
abbrev pub is_other_sdt_key : Key → Bool
is_other_sdt_key k = k.table == 0x46

-- the SDTs of other streams among these, in their order: by transport_stream_id, and then original_network_id
abbrev pub other_sdts : List Key → List Key
other_sdts keys = in_order (filter is_other_sdt_key keys)

-- ---- sections in the short form

-- the body of a section of this table in the short form
abbrev pub short_of : ℕ → Section → Option (List ℕ)
short_of table (Long h body) = None
short_of table (Short told body) = if told == table then Some body else None

abbrev pub short_by : ℕ → Result Section BadSection → Option (List ℕ)
short_by table (Ok section) = short_of table section
short_by table (Err bad) = None

-- ---- the clock

-- UTC_time of a TDT, which has table_id 0x70 in the short form
abbrev pub moment_of : Section → Option ℕ
moment_of (Long h body) = None
moment_of (Short table body) = if table == 0x70 then tdt_in body else None

abbrev pub moment_by : Result Section BadSection → Option ℕ
moment_by (Ok section) = moment_of section
moment_by (Err bad) = None

-- TDTs come on PID 0x0014
abbrev pub moment_in : RawSection → Option ℕ
moment_in raw = if raw.pid == 0x0014 then moment_by (section_in raw.bytes) else None

-- the last moment that these sections tell
abbrev pub clock_of : List RawSection → Option ℕ
clock_of sections = last_of (filter_map moment_in sections)

-- ---- local time

-- the offsets of a TOT, which has table_id 0x73 in the short form
abbrev pub offsets_of : Section → Option (List Offset)
offsets_of (Long h body) = None
offsets_of (Short table body) = if table == 0x73 then option_map (λ (tot : Tot). tot.offsets) (tot_in body) else None

abbrev pub offsets_by : Result Section BadSection → Option (List Offset)
offsets_by (Ok section) = offsets_of section
offsets_by (Err bad) = None

-- TOTs come on the PID of the TDTs
abbrev pub offsets_in : RawSection → Option (List Offset)
offsets_in raw = if raw.pid == 0x0014 then offsets_by (section_in raw.bytes) else None

-- the offsets that these sections tell last; none before a TOT was heard
abbrev pub offsets_heard : List RawSection → List Offset
offsets_heard sections = unwrap_or (last_of (filter_map offsets_in sections)) []

-- ---- what is kept

-- the keys of the PAT and of the NIT, by transport_stream_id those of the SDTs, and those of the SDTs of other streams
pub record LatestKept : Type 0 where
  pub pat : Option Key
  pub nit : Option Key
  pub sdts : List (ℕ × Key)
  pub others : List Key

abbrev pub kept_keys : LatestKeys → LatestKept
kept_keys keys = record { pat = keys.pat; nit = keys.nit; sdts = keys.sdts.entries; others = keys.others.keys }

-- the SDT that is kept of a transport_stream_id
abbrev pub sdt_in : ℕ → List (ℕ × Key) → Option Key
sdt_in ext [] = None
sdt_in ext (entry ∷ entries) = if ext == entry.0 then Some entry.1 else sdt_in ext entries

-- These are the latest of the keys that were completed, in this order.
pub record AreLatest (keys : List Key) (latest : LatestKept) : Type 0 where
  pub pat : latest.pat ≡ last_of (filter is_pat_key keys)
  pub nit : latest.nit ≡ last_of (filter is_nit_key keys)
  pub sdts : (ext : ℕ) → sdt_in ext latest.sdts ≡ last_of (filter (is_sdt_key ext) keys)
  pub others : latest.others ≡ other_sdts keys

-- This is the moment that these sections tell last.
abbrev pub IsClock : List RawSection → Option Moment → Type 0
IsClock sections clock = option_map (λ (at : Moment). at.0) clock ≡ clock_of sections
