-- Laws of what a journal puts on air.
use Rattle.std.specs.Prelude.{◌≡◌, ◌≤◌, true, List}
use Rattle.std.specs.List.{AllByRecursion}
use Rattle.std.specs.Set.{distinct_count}
use Rattle.section_codec.specs.KeyOrder.{is_key}
use Rattle.section_codec.specs.declared.table.SubTable.{SubTable}
use Rattle.version_book.specs.Airings.{AiredTables}
use Rattle.mux_model.specs.declared.mux.Mux.{Mux}
use Rattle.mux_model.specs.Sound.{IsSound, IsSoundWithIds}
use Rattle.journal_model.specs.Edits.{IsTypedEdit}
use Rattle.journal_model.specs.declared.step.Entry.{Entry}
use Rattle.desk_core.specs.Journal.{accepted, Legal}
use Rattle.section_codec.specs.Tables.{is_counted}
use Rattle.air_laws.specs.Counting.{CanBeHeard}
use Rattle.air_laws.specs.Sending.{carried_keys}
use Rattle.journal_air.specs.Air.{airings}

-- The accepted edits of a journal have numbers as wide as their fields, and texts that may be kept, as all edits that are read.
abbrev pub HasTypedEdits : List Entry → Type 0
HasTypedEdits journal = AllByRecursion IsTypedEdit (accepted journal)

-- Each airing of a legal journal can be sent and heard.
abbrev pub AiringsCanBeHeard : Type 0
AiringsCanBeHeard =
    (mux : Mux) (journal : List Entry) → IsSoundWithIds mux → HasTypedEdits journal → Legal mux journal
    → AllByRecursion CanBeHeard (airings mux journal)

-- Receivers count all tables that it carries, where the multiplex is sound: the PIDs of its PMTs are such.
abbrev pub AiringsAreCounted : Type 0
AiringsAreCounted =
    (mux : Mux) (journal : List Entry) → IsSound mux
    → AllByRecursion (λ (a : AiredTables). AllByRecursion (λ (t : SubTable). is_counted t.key.pid t.key.table ≡ true) a.tables) (airings mux journal)

-- All airings of a journal together carry at most 2,258 keys: PAT, NIT and SDT, and of each of at most 64 services its PMT, present and following,
-- and sixteen tables of its schedule; of at most 15 other streams their SDTs, and of each of at most 64 services of these present and following,
-- and sixteen tables.
abbrev pub AiringsHaveFewKeys : Type 0
AiringsHaveFewKeys = (mux : Mux) (journal : List Entry) → IsSound mux → distinct_count is_key (carried_keys (airings mux journal)) ≤ 2258
