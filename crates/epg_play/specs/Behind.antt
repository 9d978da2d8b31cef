-- What a run leaves that goes on after a journal and an air of it.
use Rattle.std.specs.Prelude.{◌≡◌, ◌<◌, ◌^◌, ℕ, List, [], ◌∷◌, ◌++◌, length, map, take, Bool, true, false, Some}
use Rattle.std.specs.Io.KnownBytes.{Appends}
use Rattle.si_causes.specs.Causes.{AppendsFront}
use Rattle.input_lines.specs.Ahead.{Ahead}
use Rattle.ts_packets.specs.Bytes.{bytes_of_packet}
use Rattle.air_model.specs.Air.{Aired, air, air_bytes, airings_of}
use Rattle.mux_model.specs.declared.mux.Mux.{Mux}
use Rattle.journal_model.specs.declared.step.Step.TheVariants.{Swap}
use Rattle.journal_model.specs.declared.step.Entry.{Entry}
use Rattle.journal_model.specs.Steps.{Command}
use Rattle.desk_core.specs.Journal.{Legal, journal_after, publishes}
use Rattle.script_lines.specs.Script.{items_ahead}
use Rattle.journal_text.specs.Entries.{journal_text}
use Rattle.journal_air.specs.Air.{airings}
use Rattle.journal_air.specs.Heard.{IsHeardAs}
use Rattle.journal_air.specs.OnAir.{cycle_bytes}
use Rattle.journal_air.specs.SentAir.{SentAir}
use Rattle.epg_report.specs.declared.status.Status.{Status}
use Rattle.epg_report.specs.declared.status.Status.TheVariants.{BadScript, Disagrees, Done, Memory, OpenFault, ReadFault, TooLong as PastLimit, WriteFault}
use Rattle.epg_report.specs.declared.status.Origin.TheVariants.{Input, Recording}
use Rattle.epg_report.specs.declared.status.Outlet.TheVariants.{Air, Report}
use Rattle.epg_report.specs.Rates.{rate_line}
use Rattle.epg_report.specs.Texts.{fault_lines}
use Rattle.epg_report.specs.Told.{ReportTaken, Reported}
use Rattle.epg_play.specs.Leaves.{script_status}
use Rattle.epg_play.specs.Script.{Stop, Ended, played_items}
use Rattle.epg_play.specs.NeverRefused.{HasShortMoment}
use Rattle.epg_play.specs.Checkpointed.{HasRun, IsCheckpoint}
use Rattle.cycle_player.specs.Airs.{AreMadeAt, IsAirAt}
use Rattle.cycle_player.specs.Tallies.{tally_of}

-- of the script ahead, what is played after a journal, and why no more is
abbrev pub played_behind : Mux → List Entry → Ahead → List Command × Stop
played_behind mux journal lines = played_items mux journal (items_ahead false lines)

-- After earlier cycles the air took these bytes. Where the earlier cycles are made as those of a
-- player are, all bytes together are an air of the journal or the first bytes of one, and that is
-- coherent, exact and spaced, or keeps time at a bit rate. Without earlier cycles they are the
-- only the bytes taken.
abbrev pub IsSentBehind : Mux → List Entry → List Aired → List ℕ → Type 0
IsSentBehind mux journal earlier taken =
    AreMadeAt mux.rate [] earlier → SentAir mux journal (Some []) (Some (air_bytes earlier ++ taken))

-- After earlier cycles the air took cycles that make with them an air of the journal with more
-- entries; without a bit rate neighbours of one PID share packets. So who hears both parts hears
-- one airing at a time, and is shown the guide of what stays on air.
pub record AirOn (mux : Mux) (journal more : List Entry) (earlier : List Aired) (air_took : ReportTaken) : Type 0 where
  pub cycles : List Aired
  pub is_air : IsAirAt mux.rate (airings mux (journal ++ more)) (earlier ++ cycles)
  pub made : AreMadeAt mux.rate earlier cycles
  pub bytes : Appends air_took.old air_took.new (air_bytes cycles)
  pub heard : IsHeardAs mux (journal ++ more) (map bytes_of_packet (air (earlier ++ cycles)))
  pub sent : IsSentBehind mux (journal ++ more) earlier (air_bytes cycles)

-- The last entry is a swap, and of such cycles the air took all but the last, and a proper front of that.
pub record CutAirOn (mux : Mux) (journal more : List Entry) (earlier : List Aired) (air_took : ReportTaken) : Type 0 where
  pub front : List Entry
  pub last : Entry
  pub entries : more ≡ front ++ last ∷ []
  pub is_swap : last.step ≡ Swap
  pub whole : List Aired
  pub cut : Aired
  pub is_air : IsAirAt mux.rate (airings mux (journal ++ more)) (earlier ++ (whole ++ cut ∷ []))
  pub made : AreMadeAt mux.rate earlier (whole ++ cut ∷ [])
  pub taken : ℕ
  pub proper : taken < length (cycle_bytes cut)
  pub bytes : Appends air_took.old air_took.new (air_bytes whole ++ take taken (cycle_bytes cut))
  pub sent : IsSentBehind mux (journal ++ more) earlier (air_bytes whole ++ take taken (cycle_bytes cut))

-- What is said of new entries and of the cycles that were begun for them: the text of the entries,
-- and at a bit rate the line that says whether these cycles repeat in time what is frequent.
abbrev pub new_text : Mux → List Entry → List Aired → List ℕ
new_text mux more cycles =
    journal_text more ++ rate_line mux.rate (tally_of mux.rate (airings_of cycles))

-- The whole report of more entries, with these cycles after earlier ones: what is said of the new
-- entries and cycles, or with `--fold` the checkpoint of all.
abbrev pub IsReport :
    Bool → Mux → List Entry → List Entry → List Aired → List Aired → List ℕ → Type 0
IsReport false mux journal more earlier cycles text = text ≡ new_text mux more cycles
IsReport true mux journal more earlier cycles text =
    IsCheckpoint mux (journal ++ more) (earlier ++ cycles) text

-- what the report has before the line of a fault
abbrev pub before_fault : Bool → Mux → List Entry → List Aired → List ℕ
before_fault false mux more cycles = new_text mux more cycles
before_fault true mux more cycles = []

module _ (fold : Bool) (mux : Mux) (journal : List Entry) (earlier : List Aired) (air_took report : ReportTaken) where
  -- The script was played to its end: its journal goes on with the one before, its air with the one
  -- before, and the whole report is `text`. It can be gone on from again, at a bit rate while the
  -- clock's moment has at most 18 digits.
  pub record WentOn (rest : List Command × Stop) (text : List ℕ) : Type 0 where
    pub ended : rest.1 ≡ Ended
    pub legal : Legal mux (journal ++ journal_after mux journal rest.0)
    pub air_is : AirOn mux journal (journal_after mux journal rest.0) earlier air_took
    pub text_is :
        IsReport fold mux journal (journal_after mux journal rest.0) earlier air_is.cycles text
    pub goes_on : publishes (journal ++ journal_after mux journal rest.0) < 10 ^ 18
        → HasShortMoment mux.rate (earlier ++ air_is.cycles)
        → HasRun mux (journal ++ journal_after mux journal rest.0) (earlier ++ air_is.cycles)

  -- the fault to which the script leads ended it after its commands
  pub record StoppedOn (rest : List Command × Stop) (status : Status) : Type 0 where
    pub stopped : status ≡ script_status rest.1
    pub legal : Legal mux (journal ++ journal_after mux journal rest.0)
    pub air_is : AirOn mux journal (journal_after mux journal rest.0) earlier air_took
    pub report_is : Reported report
        (before_fault fold mux (journal_after mux journal rest.0) air_is.cycles
        ++ fault_lines status)

  -- The air failed in the cycle of the last of the first k commands. The report counts it too.
  pub record CutOn (rest : List Command × Stop) : Type 0 where
    pub k : ℕ
    pub legal : Legal mux (journal ++ journal_after mux journal (take k rest.0))
    pub air_is : CutAirOn mux journal (journal_after mux journal (take k rest.0)) earlier air_took
    pub report_is : Reported report
        (before_fault fold mux (journal_after mux journal (take k rest.0))
        (air_is.whole ++ air_is.cut ∷ [])
        ++ fault_lines (WriteFault Air))

  -- What a run leaves with each status, of what is ahead of it after the description of its multiplex.
  abbrev pub LeavesBehind : Ahead → Status → Type 0
  LeavesBehind lines Done = (text : List ℕ) × WentOn (played_behind mux journal lines) text × Appends report.old report.new text
  LeavesBehind lines (BadScript n) = StoppedOn (played_behind mux journal lines) (BadScript n)
  LeavesBehind lines (Disagrees n kept found) = StoppedOn (played_behind mux journal lines) (Disagrees n kept found)
  LeavesBehind lines (PastLimit Input) = StoppedOn (played_behind mux journal lines) (PastLimit Input)
  LeavesBehind lines (ReadFault Input) = StoppedOn (played_behind mux journal lines) (ReadFault Input)
  LeavesBehind lines (WriteFault Air) = CutOn (played_behind mux journal lines)
  LeavesBehind lines (WriteFault Report) = (text : List ℕ) × WentOn (played_behind mux journal lines) text × AppendsFront report.old report.new text
  LeavesBehind lines (OpenFault n) = Unit {0}
  LeavesBehind lines (ReadFault Recording) = Unit {0}
  LeavesBehind lines Memory = Unit {0}
  LeavesBehind lines status = ⊥
