-- What a run of `play` leaves, for each status, and all that it promises.
use Rattle.std.specs.Prelude.{◌≡◌, ◌⊎◌, ℕ, List, [], ◌∷◌, ◌++◌, take, Option, Some, None, Ok, Err, Result}
use Rattle.std.specs.Io.KnownBytes.{Appends, IsAtEnd}
use Rattle.si_causes.specs.Causes.{Rose, AppendsFront}
use Rattle.si_causes.specs.Text.{text_limit}
use Rattle.si_causes.specs.declared.stop.ReadStop.TheVariants.{Failed, TooLong as Overlong}
use Rattle.mux_model.specs.declared.mux.Mux.{Mux}
use Rattle.mux_config.specs.declared.stop.MuxStop.{MuxStop}
use Rattle.mux_config.specs.declared.stop.MuxStop.TheVariants as mux
use Rattle.journal_model.specs.declared.step.Step.TheVariants.{Swap}
use Rattle.journal_model.specs.declared.step.Entry.{Entry}
use Rattle.desk_core.specs.Journal.{journal_of}
use Rattle.journal_model.specs.Steps.{Command}
use Rattle.journal_text.specs.Entries.{journal_text}
use Rattle.journal_air.specs.AirOf.{AirOf, CutAirOf}
use Rattle.journal_air.specs.SentAir.{SentAir}
use Rattle.epg_play.specs.declared.stop.PlayStop.{PlayStop}
use Rattle.epg_play.specs.declared.stop.PlayStop.TheVariants.{NoMux as Undescribed, NoCommand as Refused, Disagrees as Differs, Read, Air as OnAir, Memory as NoMemory}
use Rattle.epg_report.specs.declared.status.Status.{Status}
use Rattle.epg_report.specs.declared.status.Status.TheVariants.{Done, BadScript, Disagrees, BadMux, TooLong as PastLimit, ReadFault, WriteFault, Memory}
use Rattle.epg_report.specs.declared.status.Origin.TheVariants.{Input}
use Rattle.epg_report.specs.declared.status.Outlet.TheVariants.{Air, Report}
use Rattle.epg_play.specs.Script.{Script, Stop, Ended, NoMux, NoCommand, Disagreed, TooLong, Unread, script_taken, script_within}
use Rattle.epg_report.specs.Rates.{rate_lines}
use Rattle.epg_report.specs.Texts.{fault_line, fault_lines, fault_text}
use Rattle.epg_report.specs.Told.{ReportTaken, Reported, SourceGave, gave, told}

-- ---- journals of a script

abbrev pub journal_for : Option Mux → List Command → List Entry
journal_for None commands = []
journal_for (Some mux) commands = journal_of mux commands

-- the legal journal of all commands of a script, and of its first k
abbrev pub whole_journal : Script → List Entry
whole_journal script = journal_for script.mux script.commands

abbrev pub first_journal : ℕ → Script → List Entry
first_journal k script = journal_for script.mux (take k script.commands)

-- ---- reports of a script

-- the line on the bit rate, where a multiplex is described that has one
abbrev pub rates_for : Option Mux → List Entry → List ℕ
rates_for None journal = []
rates_for (Some mux) journal = rate_lines mux journal

-- the report of a journal: its text, and after that the line on the bit rate
abbrev pub report_text : Option Mux → List Entry → List ℕ
report_text described journal = journal_text journal ++ rates_for described journal

-- that of all commands of a script, and of its first k
abbrev pub whole_report : Script → List ℕ
whole_report script = report_text script.mux (whole_journal script)

abbrev pub first_report : ℕ → Script → List ℕ
first_report k script = report_text script.mux (first_journal k script)

-- ---- airs of a script

-- an air of this journal was appended; nothing, where no multiplex is described
abbrev pub IsAired : Option Mux → List Entry → ReportTaken → Type 0
IsAired None journal air = Appends air.old air.new []
IsAired (Some mux) journal air = AirOf mux journal air.old air.new

-- The journal ends with a swap, and of an air of it all cycles but the last were appended, and a proper front of that one.
pub record IsAiredFront (described : Option Mux) (journal : List Entry) (air : ReportTaken) : Type 0 where
  pub mux : Mux
  pub is_described : described ≡ Some mux
  pub front : List Entry
  pub last : Entry
  pub entries : journal ≡ front ++ last ∷ []
  pub is_swap : last.step ≡ Swap
  pub cut : CutAirOf mux journal air.old air.new

-- and who hears it hears one airing at a time, whole and often enough
abbrev pub IsSent : Option Mux → List Entry → ReportTaken → Type 0
IsSent None journal air = Appends air.old air.new []
IsSent (Some mux) journal air = SentAir mux journal air.old air.new

-- ---- faults

-- the status of a stop
abbrev pub status_for : PlayStop → Status
status_for (Undescribed fault) = BadMux fault
status_for (Refused n) = BadScript n
status_for (Differs n kept found) = Disagrees n kept found
status_for (Read Overlong) = PastLimit Input
status_for (Read Failed) = ReadFault Input
status_for OnAir = WriteFault Air
status_for NoMemory = Memory

-- the status of a script that was played so
abbrev pub met_by : Result (Unit {0}) PlayStop → Status
met_by (Ok u) = Done
met_by (Err stop) = status_for stop

-- the status to which a script leads, by why no more of it is played
abbrev pub script_status : Stop → Status
script_status Ended = Done
script_status (NoMux fault) = BadMux fault
script_status (NoCommand n) = BadScript n
script_status (Disagreed n kept found) = Disagrees n kept found
script_status TooLong = PastLimit Input
script_status Unread = ReadFault Input

-- the stop of a call that reads the description
abbrev pub mux_stop : MuxStop → PlayStop
mux_stop (mux.Fault fault) = Undescribed fault
mux_stop (mux.Read stop) = Read stop
mux_stop mux.Memory = NoMemory

-- the fault line of a run, where there is one
abbrev pub ending_text : Option PlayStop → List ℕ
ending_text None = []
ending_text (Some stop) = fault_line (fault_text (status_for stop))

-- ---- what is left

-- with Done: the script is whole, and the air and the report are those of its journal
pub record LeavesDone (script : Script) (air report : ReportTaken) : Type 0 where
  pub ended : script.stop ≡ Ended
  pub air_is : IsAired script.mux (whole_journal script) air
  pub sent : IsSent script.mux (whole_journal script) air
  pub report_is : Appends report.old report.new (whole_report script)

-- with the fault to which the script leads after all its commands: the air is that of their journal,
-- and the report is the journal's and the fault line
pub record LeavesAll (script : Script) (air report : ReportTaken) (status : Status) : Type 0 where
  pub stopped : status ≡ script_status script.stop
  pub air_is : IsAired script.mux (whole_journal script) air
  pub sent : IsSent script.mux (whole_journal script) air
  pub report_is : Reported report (whole_report script ++ fault_lines status)

-- With a failed read: these bytes were taken from the input, and the others are left. The commands are exactly those whose lines all
-- ended in the bytes taken.
pub record LeavesUnread (text : List ℕ) (left : Option (List ℕ)) (air report : ReportTaken) : Type 0 where
  pub taken : List ℕ
  pub behind : List ℕ
  pub text_is : text ≡ taken ++ behind
  pub left_is : left ≡ Some behind
  pub leaves : LeavesAll (script_taken taken) air report (ReadFault Input)

-- with a fault of the air in the cycle of the last of the first k commands
pub record LeavesCut (script : Script) (air report : ReportTaken) : Type 0 where
  pub k : ℕ
  pub air_is : IsAiredFront script.mux (first_journal k script) air
  pub sent : IsSent script.mux (first_journal k script) air
  pub report_is : Reported report (first_report k script ++ fault_lines (WriteFault Air))

-- with a fault in the report of a whole script: a proper front of the journal's report
pub record LeavesUnreported (script : Script) (air report : ReportTaken) : Type 0 where
  pub ended : script.stop ≡ Ended
  pub air_is : IsAired script.mux (whole_journal script) air
  pub sent : IsSent script.mux (whole_journal script) air
  pub report_is : AppendsFront report.old report.new (whole_report script)

-- What a run of `play` leaves of a script with each status. No other status comes, since a script leads to no other.
abbrev pub LeavesOf : Script → ReportTaken → ReportTaken → Status → Type 0
LeavesOf script air report Done = LeavesDone script air report
LeavesOf script air report (WriteFault Air) = LeavesCut script air report
LeavesOf script air report (WriteFault Report) = LeavesUnreported script air report
LeavesOf script air report Memory = Unit {0}
LeavesOf script air report status = LeavesAll script air report status

-- and of a text of which so many bytes may be taken, and of what is left of it
abbrev pub Leaves : ℕ → List ℕ → Option (List ℕ) → ReportTaken → ReportTaken → Status → Type 0
Leaves limit text left air report (ReadFault Input) = LeavesUnread text left air report
Leaves limit text left air report status = LeavesOf (script_within limit text) air report status

-- the statuses of `play`
abbrev pub IsOfPlay : Status → Type 0
IsOfPlay Done = Unit {0}
IsOfPlay (BadMux fault) = Unit {0}
IsOfPlay (BadScript n) = Unit {0}
IsOfPlay (Disagrees n kept found) = Unit {0}
IsOfPlay (PastLimit Input) = Unit {0}
IsOfPlay (ReadFault Input) = Unit {0}
IsOfPlay (WriteFault outlet) = Unit {0}
IsOfPlay Memory = Unit {0}
IsOfPlay status = ⊥

-- What a run answers where neither the input nor a sink fails: the stop of the script decides, but for want of memory.
abbrev pub Completes : Stop → Status → Type 0
Completes stop Memory = Unit {0}
Completes stop (ReadFault Input) = ⊥
Completes stop status = status ≡ script_status stop

-- A run of `play` whose script may have so many bytes: what its input gave, what its air and its report took, and its status.
pub record PlayRunWithin (limit : ℕ) (input : SourceGave) (air report : ReportTaken) (status : Status) : Type 0 where
  -- what is left with each status: the journal that the report has, its air, and how that can be heard
  pub leaves : (text : List ℕ) → input.old ≡ Some text → Leaves limit text input.new air report status
  -- where neither the input nor a sink fails, the script decides the status, but for want of memory
  pub completes : (text : List ℕ) → input.old ≡ Some text → ¬ (Rose input.faults_old input.faults_new) → ¬ (Rose air.faults_old air.faults_new)
      → ¬ (Rose report.faults_old report.faults_new) → Completes (script_within limit text).stop status
  -- and so a script that is whole is played to its end
  pub whole : (text : List ℕ) → input.old ≡ Some text → (script_within limit text).stop ≡ Ended → ¬ (Rose input.faults_old input.faults_new)
      → ¬ (Rose air.faults_old air.faults_new) → ¬ (Rose report.faults_old report.faults_new) → (status ≡ Done) ⊎ (status ≡ Memory)
  -- no other status comes
  pub known : IsOfPlay status
  -- with Done the input was read to its end
  pub end : status ≡ Done → IsAtEnd input.new
  -- each fault of the input or of a sink has its cause
  pub input_cause : status ≡ ReadFault Input → Rose input.faults_old input.faults_new
  pub air_cause : status ≡ WriteFault Air → Rose air.faults_old air.faults_new
  pub report_cause : status ≡ WriteFault Report → Rose report.faults_old report.faults_new

-- a run with the limit of a text
abbrev pub PlayRun : SourceGave → ReportTaken → ReportTaken → Status → Type 0
PlayRun = PlayRunWithin text_limit

-- So a call ran with this input, this air and this report: of each what tells its bytes and its faults, and how it was before and after.
abbrev pub PlayRanWithin : {S A R : Type 0} → ℕ → (S → Option (List ℕ)) → (S → ℕ) → S → S → (A → Option (List ℕ)) → (A → ℕ) → A → A
    → (R → Option (List ℕ)) → (R → ℕ) → R → R → Status → Type 0
PlayRanWithin limit left read_faults input input_then sent air_faults air air_then taken report_faults report report_then status =
    PlayRunWithin limit (gave left read_faults input input_then) (told sent air_faults air air_then) (told taken report_faults report report_then) status

abbrev pub PlayRan : {S A R : Type 0} → (S → Option (List ℕ)) → (S → ℕ) → S → S → (A → Option (List ℕ)) → (A → ℕ) → A → A
    → (R → Option (List ℕ)) → (R → ℕ) → R → R → Status → Type 0
PlayRan left read_faults input input_then sent air_faults air air_then taken report_faults report report_then status =
    PlayRanWithin text_limit left read_faults input input_then sent air_faults air air_then taken report_faults report report_then status
