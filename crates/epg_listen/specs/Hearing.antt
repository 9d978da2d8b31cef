-- What was heard, and how its report ends.
use Rattle.std.specs.Prelude.{◌≡◌, ℕ, ◌⊎◌, List, Bool, length, Option, Ok, Err, Result}
use Rattle.std.specs.Io.KnownBytes.{Appends}
use Rattle.si_causes.specs.Causes.{Rose, AppendsFront}
use Rattle.packet_reader.specs.Recordings.{RecordingEnd.AtEnd, RecordingEnd.Broken, RecordingEnd.PastLimit}
use Rattle.packet_reader.specs.declared.stop.PacketStop.TheVariants as packet
use Rattle.packet_finder.specs.Pieces.{Piece}
use Rattle.packet_finder.specs.Laws.{packets_of}
use Rattle.packet_finder.specs.declared.found.Found.{Found}
use Rattle.packet_finder.specs.declared.found.Found.TheVariants as was
use Rattle.sub_collect.specs.KeyCounts.{HaveTooManyKeys}
use Rattle.command_words.specs.Grammar.{ListenOptions}
use Rattle.epg_listen.specs.declared.listen.ListenStop.{ListenStop}
use Rattle.epg_listen.specs.declared.listen.ListenStop.TheVariants as stop
use Rattle.epg_report.specs.declared.status.Status.{Status}
use Rattle.epg_report.specs.declared.status.Status.TheVariants.{Done, BadStream, TooLong, ReadFault, WriteFault, Memory, TooMany}
use Rattle.epg_report.specs.declared.status.Outlet.TheVariants.{Report}
use Rattle.epg_report.specs.declared.status.Origin.TheVariants.{Input}
use Rattle.epg_report.specs.Texts.{fault_line, fault_text}
use Rattle.epg_report.specs.Told.{ReportTaken, Reported}
use Rattle.epg_listen.specs.Pieces.{pieces_in, pieces_taken}
use Rattle.epg_listen.specs.Lines.{History, counted_in, heard_of, heard_text, heard_guide}
use Rattle.epg_listen.specs.Leaves.{packet_stop_status, HasRoom, IsKeyTooMany, WasTaken, WereTaken}

-- what reporting some lines leaves
abbrev pub ReportsLines : Option (List ℕ) → Option (List ℕ) → List ℕ → Result (Unit {0}) ListenStop → Type 0
ReportsLines old new text (Ok u) = Appends old new text
ReportsLines old new text (Err stop.Report) = AppendsFront old new text
ReportsLines old new text (Err stop.Memory) = Unit {0}
ReportsLines old new text (Err (stop.TooMany n)) = old ≡ new
ReportsLines old new text (Err (stop.Read s)) = ⊥

-- a stop by a key too many names this piece, which is a packet, and with it the sections of what was heard have a key too many
abbrev pub IsTooManyAt : Found → History → Result (Unit {0}) ListenStop → Type 0
IsTooManyAt (was.Packet number) h (Err (stop.TooMany n)) = (n ≡ number) × HaveTooManyKeys (counted_in h)
IsTooManyAt (was.Junk count) h (Err (stop.TooMany n)) = ⊥
IsTooManyAt found h result = Unit {0}

-- What hearing a recording leaves in the report. Where it was heard to its end, what hears stands for all its pieces.
abbrev pub HasHeard : Bool → Bool → List ℕ → Option (List ℕ) → (History → Type 0) → Option (List ℕ) → Option (List ℕ) → Result (Unit {0}) ListenStop → Type 0
HasHeard resync strict bytes left stands old new (Ok u) =
    ((pieces_in resync bytes).1 ≡ AtEnd) × Appends old new (heard_text strict (pieces_in resync bytes).0)
    × stands (heard_of strict (pieces_in resync bytes).0) × HasRoom strict (pieces_in resync bytes).0
HasHeard resync strict bytes left stands old new (Err (stop.Read (packet.Broken n))) =
    ((pieces_in resync bytes).1 ≡ Broken) × (n ≡ length (packets_of (pieces_in resync bytes).0))
    × Appends old new (heard_text strict (pieces_in resync bytes).0) × HasRoom strict (pieces_in resync bytes).0
HasHeard resync strict bytes left stands old new (Err (stop.Read packet.TooLong)) =
    ((pieces_in resync bytes).1 ≡ PastLimit) × Appends old new (heard_text strict (pieces_in resync bytes).0)
    × HasRoom strict (pieces_in resync bytes).0
HasHeard resync strict bytes left stands old new (Err (stop.Read packet.Failed)) =
    (taken : List ℕ) × WasTaken resync bytes left taken × Appends old new (heard_text strict (pieces_taken resync taken))
    × HasRoom strict (pieces_taken resync taken)
HasHeard resync strict bytes left stands old new (Err (stop.TooMany n)) =
    (first : IsKeyTooMany strict (pieces_in resync bytes).0 n) × Appends old new (heard_text strict first.front)
HasHeard resync strict bytes left stands old new (Err stop.Report) =
    (front : List Piece) × WereTaken resync bytes left front × AppendsFront old new (heard_text strict front)
HasHeard resync strict bytes left stands old new (Err stop.Memory) = Unit {0}

-- a stop by a failed read, and one by a failed write, have their causes
abbrev pub HasReadCause : ℕ → ℕ → Result (Unit {0}) ListenStop → Type 0
HasReadCause before now (Err (stop.Read packet.Failed)) = Rose before now
HasReadCause before now result = Unit {0}

-- a stop after a piece that came is none of the input
abbrev pub IsNoReadStop : Result (Unit {0}) ListenStop → Type 0
IsNoReadStop (Err (stop.Read s)) = ⊥
IsNoReadStop result = Unit {0}

abbrev pub HasReportCause : ℕ → ℕ → Result (Unit {0}) ListenStop → Type 0
HasReportCause before now (Err stop.Report) = Rose before now
HasReportCause before now result = Unit {0}

-- the faults of a recording
abbrev pub IsOfRecording : Status → Type 0
IsOfRecording (BadStream n) = Unit {0}
IsOfRecording (TooMany n) = Unit {0}
IsOfRecording (TooLong Input) = Unit {0}
IsOfRecording (ReadFault Input) = Unit {0}
IsOfRecording status = ⊥

-- how the report ends where a fault of the recording was met: by its line
abbrev pub EndsBy : Status → ReportTaken → Status → Type 0
EndsBy fault report status = (status ≡ Memory) ⊎ ((status ≡ fault) × Reported report (fault_line (fault_text fault)))

-- How the report ends, by why the recording was not heard on, and the status. Where it was heard to its end, the guide of what was heard was
-- reported, or a proper front of it.
abbrev pub EndsHeard : ListenOptions → Bool → (History → Type 0) → Result (Unit {0}) ListenStop → ReportTaken → Status → Type 0
EndsHeard how strict stands (Ok u) report Done = (h : History) → stands h → Appends report.old report.new (heard_guide how strict h)
EndsHeard how strict stands (Ok u) report (WriteFault Report) =
    ((h : History) → stands h → AppendsFront report.old report.new (heard_guide how strict h))
    × Rose report.faults_old report.faults_new
EndsHeard how strict stands (Ok u) report Memory = Unit {0}
EndsHeard how strict stands (Ok u) report status = ⊥
EndsHeard how strict stands (Err (stop.Read s)) report status = EndsBy (packet_stop_status s) report status
EndsHeard how strict stands (Err (stop.TooMany n)) report status = EndsBy (TooMany n) report status
EndsHeard how strict stands (Err stop.Report) report status = (status ≡ WriteFault Report) × (report.old ≡ report.new)
EndsHeard how strict stands (Err stop.Memory) report status = status ≡ Memory
