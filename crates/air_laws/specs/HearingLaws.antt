-- Laws of hearing what is sent.
use Rattle.std.specs.Prelude.{◌≡◌, ℕ, ◌<◌, List, [], if◌then◌else◌, filter, map, filter_map}
use Rattle.std.specs.List.{AllByRecursion}
use Rattle.section_codec.specs.declared.table.Key.{Key}
use Rattle.section_codec.specs.declared.table.SubTable.{SubTable}
use Rattle.version_book.specs.Airings.{AiredTables}
use Rattle.ts_packets.specs.Bytes.{bytes_of_packet}
use Rattle.ts_demux.specs.Sections.{sections_on}
use Rattle.sub_collect.specs.Completions.{of_key}
use Rattle.sub_collect.specs.Laws.{sections_with}
use Rattle.section_codec.specs.Tables.{is_counted}
use Rattle.guide_receiver.specs.Counting.{counted_among}
use Rattle.guide_receiver.specs.Dones.{DoneAt, counted_heard, dones_of}
use Rattle.air_model.specs.Air.{Aired, IsAirOf, air, sent_on, sections_of, CanBeSent}
use Rattle.section_codec.specs.SubTables.{IsFit}
use Rattle.air_model.specs.Repeating.{IsRepeatingAirOf}
use Rattle.air_laws.specs.Sending.{sections_sent}
use Rattle.air_laws.specs.Counting.{IsReadable, CanBeHeard, raw_of}
use Rattle.air_laws.specs.Changes.{changes_of, is_done_key}

-- Of an air just the sections of the cycles are heard, on each PID those that are sent on it.
abbrev pub AirIsHeard : Type 0
AirIsHeard =
    (airings : List AiredTables) (xs : List Aired) → IsAirOf airings xs → CanBeSent airings
    → (pid : ℕ) → pid < 8191 → sections_on pid (map bytes_of_packet (air xs)) ≡ filter_map (sent_on pid) (sections_sent [] airings)

-- Of each key just those of its sections count that are sent and count, in the order in which they are sent.
abbrev pub KeyIsHeard : Type 0
KeyIsHeard =
    (airings : List AiredTables) (xs : List Aired) → IsAirOf airings xs → CanBeSent airings
    → (k : Key) → k.pid < 8191 → of_key k (counted_heard (map bytes_of_packet (air xs))) ≡ of_key k (counted_among (map raw_of (sections_sent [] airings)))

-- Where the receiver counts sections of this table, each section of the sub-table counts, with its key, version, number and body.
abbrev pub TableCounts : Type 0
TableCounts =
    (t : SubTable) → IsFit t → IsReadable t → (version : ℕ) → version < 32
    → counted_among (map raw_of (sections_of version t)) ≡ (if is_counted t.key.pid t.key.table then sections_with t.key version t.sections else [])

-- Of the air of any airings that can be heard, however densely sections share packets, and where cycles repeat sections as they like: the
-- completions that are shown of a key are the version changes of this key, where the receiver counts it.
abbrev pub ChangesAreHeard : Type 0
ChangesAreHeard =
    (airings : List AiredTables) (xs : List Aired) → IsRepeatingAirOf airings xs → AllByRecursion CanBeHeard airings → (k : Key) → k.pid < 8191
    → filter (is_done_key k) (map (λ (d : DoneAt). d.done) (dones_of (map bytes_of_packet (air xs))))
    ≡ (if is_counted k.pid k.table then changes_of k [] airings else [])
