-- What a run of `live` leaves.
use Rattle.std.specs.Prelude.{◌≡◌, ◌⊎◌, ◌≤◌, ℕ, List, [], ◌++◌, length, take, flat_map, Option, Some, None}
use Rattle.journal_model.specs.declared.step.Entry.{Entry}
use Rattle.desk_core.specs.Desks.{DeskState}
use Rattle.journal_text.specs.Entries.{journal_text}
use Rattle.guide_receiver.specs.declared.done.DoneKey.{DoneKey}
use Rattle.guide_receiver.specs.Dones.{at_packet}
use Rattle.guide_receiver.specs.Texts.{done_line}
use Rattle.guide_text.specs.Fields.{optional}
use Rattle.guide_text.specs.Guides.{guide_text}
use Rattle.air_monitor.specs.declared.done_line.DoneLine.{DoneLine}
use Rattle.epg_report.specs.declared.status.Status.{Status}
use Rattle.epg_report.specs.declared.status.Status.TheVariants.{BadMux, OpenFault, ReadFault, TooLong, Memory, NoView}
use Rattle.epg_report.specs.declared.status.Origin.TheVariants.{Input}
use Rattle.epg_live.specs.declared.reporting.Observed.{Observed}
use Rattle.epg_live.specs.Opened.{HasTried}
use Rattle.epg_live.specs.Views.{views_text}
use Rattle.epg_live.specs.Runs.{LiveCall, NoJobs, Ran, rate_text}

-- ---- the report

-- the key and the version of a completion
abbrev pub line_done : DoneLine → DoneKey
line_done line = record { key = line.key; version = line.version }

-- the lines of completions
abbrev pub done_text : List DoneLine → List ℕ
done_text dones = flat_map (λ (line : DoneLine). done_line (at_packet line.packet (line_done line))) dones

-- those lines, then those of the views, and the text of the guide, where there is one; last the
-- line on the bit rate, where there is one
abbrev pub observed_text : Observed → List ℕ
observed_text observed =
    done_text observed.dones ++ views_text observed.views ++ optional guide_text observed.guide
    ++ rate_text observed

-- the journal, and what was observed
abbrev pub run_text : List Entry → Observed → List ℕ
run_text journal observed = journal_text journal ++ observed_text observed

-- ---- the whole run

-- what was met, and done until then: want of memory; or no job started; or they ran
abbrev pub HasMet : LiveCall → List Entry → Observed → Status → Type 0
HasMet call journal observed met = (met ≡ Memory) ⊎ (NoJobs call journal observed met ⊎ Ran call journal observed met)

-- how many paths were asked for where no job started: those up to one that was not opened, and else none
abbrev pub asked_before : Status → ℕ
asked_before (OpenFault f) = f
asked_before status = 0

-- what was met, and which of the paths an opener was asked for: all where jobs ran, and else the first `asked_before`
abbrev pub HasMetAsking : LiveCall → Option (List (List ℕ)) → Option (List (List ℕ)) → List Entry → Observed → Status → Type 0
HasMetAsking call tried_before tried_now journal observed met =
    (met ≡ Memory)
    ⊎ ((NoJobs call journal observed met × HasTried tried_before tried_now (take (asked_before met) call.paths))
    ⊎ (Ran call journal observed met × HasTried tried_before tried_now call.paths))

-- ---- inside a run

abbrev pub entries_of : Option DeskState → List Entry
entries_of None = []
entries_of (Some desk) = desk.entries

-- how many paths of so many were asked for
abbrev pub AskedFor : ℕ → ℕ → Status → Type 0
AskedFor n k (OpenFault f) = (k ≡ f) × (1 ≤ f) × (f ≤ n)
AskedFor n k (BadMux fault) = k ≡ 0
AskedFor n k (NoView service) = k ≡ 0
AskedFor n k (TooLong Input) = (k ≡ 0) ⊎ (k ≡ n)
AskedFor n k (ReadFault Input) = (k ≡ 0) ⊎ (k ≡ n)
AskedFor n k Memory = Unit {0}
AskedFor n k status = k ≡ n

-- An opener was asked for the first of these paths, in order: all of them where jobs started.
abbrev pub HasAsked : List (List ℕ) → Option (List (List ℕ)) → Option (List (List ℕ)) → Status → Type 0
HasAsked paths old new status = (k : ℕ) × HasTried old new (take k paths) × AskedFor (length paths) k status
