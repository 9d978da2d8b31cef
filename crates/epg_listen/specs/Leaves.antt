-- What a run of `listen` leaves, for each status, and all that it promises, by the options with which it hears. With `--resync` the pieces of
-- the recording are those that are found in it, and else its packets; with `--strict` their lines are also breaks; with `--partial` the guide
-- shows what is held, with `--details` also the descriptors that no other line shows whole.
use Rattle.std.specs.Prelude.{◌≡◌, ℕ, ◌/◌, ◌⊎◌, ◌++◌, List, [], ◌∷◌, Bool, false, length, Option, Some}
use Rattle.std.specs.Io.KnownBytes.{Appends, IsAtEnd}
use Rattle.si_causes.specs.Causes.{Rose, AppendsFront}
use Rattle.packet_reader.specs.Recordings.{RecordingEnd.AtEnd, RecordingEnd.Broken, RecordingEnd.PastLimit, recording}
use Rattle.packet_reader.specs.declared.stop.PacketStop.{PacketStop}
use Rattle.packet_reader.specs.declared.stop.PacketStop.TheVariants as packet
use Rattle.packet_finder.specs.Pieces.{Findings, Piece, Piece.Packet}
use Rattle.packet_finder.specs.Laws.{packets_of}
use Rattle.sub_collect.specs.KeyCounts.{HaveFewKeys, HaveTooManyKeys}
use Rattle.command_words.specs.Grammar.{ListenOptions}
use Rattle.epg_report.specs.declared.status.Status.{Status}
use Rattle.epg_report.specs.declared.status.Status.TheVariants.{Done, BadStream, TooLong, ReadFault, WriteFault, Memory, TooMany}
use Rattle.epg_report.specs.declared.status.Origin.TheVariants.{Input}
use Rattle.epg_report.specs.declared.status.Outlet.TheVariants.{Report}
use Rattle.epg_report.specs.Texts.{fault_line, fault_text}
use Rattle.epg_report.specs.Told.{ReportTaken, Reported, SourceGave, gave, told}
use Rattle.epg_listen.specs.Pieces.{pieces_in, pieces_taken}
use Rattle.epg_listen.specs.Lines.{counted_in, heard_of, heard_text, heard_guide}

-- the whole report of a recording of these pieces
abbrev pub report_of : ListenOptions → List Piece → List ℕ
report_of how pieces = heard_text how.strict pieces ++ heard_guide how how.strict (heard_of how.strict pieces)

-- the status of a stop
abbrev pub packet_stop_status : PacketStop → Status
packet_stop_status (packet.Broken n) = BadStream n
packet_stop_status packet.TooLong = TooLong Input
packet_stop_status packet.Failed = ReadFault Input

-- what the line of a stop says
abbrev pub packet_stop_text : PacketStop → List ℕ
packet_stop_text stop = fault_text (packet_stop_status stop)

-- none of these pieces brings a key too many
abbrev pub HasRoom : Bool → List Piece → Type 0
HasRoom strict pieces = HaveFewKeys (counted_in (heard_of strict pieces))

-- Of these pieces packet n, which comes after the front, is the first in which a section that counts ends and brings a key more than a
-- receiver keeps.
pub record IsKeyTooMany (strict : Bool) (pieces : List Piece) (n : ℕ) : Type 0 where
  pub front : List Piece
  pub packet : List ℕ
  pub rest : List Piece
  pub pieces_are : pieces ≡ front ++ Packet packet ∷ rest
  pub number : n ≡ length (packets_of front)
  pub few : HasRoom strict front
  pub many : HaveTooManyKeys (counted_in (heard_of strict (front ++ Packet packet ∷ [])))

-- with Done: the recording stops at its end, and the report is the lines of all its pieces and the guide
pub record HeardWhole (how : ListenOptions) (recording : Findings) (report : ReportTaken) : Type 0 where
  pub ended : recording.1 ≡ AtEnd
  pub few : HasRoom how.strict recording.0
  pub report_is : Appends report.old report.new (report_of how recording.0)

-- with a fault after all pieces of the recording
pub record HeardAll (strict : Bool) (recording : Findings) (fault : List ℕ) (report : ReportTaken) : Type 0 where
  pub few : HasRoom strict recording.0
  pub report_is : Reported report (heard_text strict recording.0 ++ fault_line fault)

-- With a key too many in packet n: the lines of the pieces before it, and the fault.
pub record HeardFront (strict : Bool) (recording : Findings) (n : ℕ) (report : ReportTaken) : Type 0 where
  pub first : IsKeyTooMany strict recording.0 n
  pub report_is : Reported report (heard_text strict first.front ++ fault_line (fault_text (TooMany n)))

-- These bytes were taken from the input, and the others are left; without `--resync` each whole piece that was taken is a packet.
pub record WasTaken (resync : Bool) (bytes : List ℕ) (left : Option (List ℕ)) (taken : List ℕ) : Type 0 where
  pub behind : List ℕ
  pub bytes_are : bytes ≡ taken ++ behind
  pub left_is : left ≡ Some behind
  pub whole : resync ≡ false → length (recording taken).0 ≡ length taken / 188

-- with a failed read: the lines of the pieces that are settled in the bytes taken, and the fault
pub record HeardTaken (how : ListenOptions) (bytes : List ℕ) (left : Option (List ℕ)) (report : ReportTaken) : Type 0 where
  pub taken : List ℕ
  pub is_taken : WasTaken how.resync bytes left taken
  pub few : HasRoom how.strict (pieces_taken how.resync taken)
  pub report_is : Reported report (heard_text how.strict (pieces_taken how.resync taken) ++ fault_line (packet_stop_text packet.Failed))

-- These are the first pieces of the recording of these bytes, and they were taken from the input: some bytes were taken and the others are
-- left, and those taken are all, or the pieces are settled in them.
pub record WereTaken (resync : Bool) (bytes : List ℕ) (left : Option (List ℕ)) (front : List Piece) : Type 0 where
  pub rest : List Piece
  pub pieces_are : (pieces_in resync bytes).0 ≡ front ++ rest
  pub taken : List ℕ
  pub behind : List ℕ
  pub bytes_are : bytes ≡ taken ++ behind
  pub left_is : left ≡ Some behind
  pub settled : (behind ≡ []) ⊎ ((more : List Piece) × (pieces_taken resync taken ≡ front ++ more))

-- With a fault of the report no fault of the recording was met: the report has a proper front of the lines of the first pieces, which were
-- taken; or, where the recording was heard to its end, of all lines and the guide.
abbrev pub HeardUnreported : ListenOptions → List ℕ → Option (List ℕ) → ReportTaken → Type 0
HeardUnreported how bytes left report =
    ((front : List Piece) × WereTaken how.resync bytes left front × AppendsFront report.old report.new (heard_text how.strict front))
    ⊎ (((pieces_in how.resync bytes).1 ≡ AtEnd)
    × AppendsFront report.old report.new (report_of how (pieces_in how.resync bytes).0))

-- What a run of `listen` leaves with each status, of the bytes of a recording, and of what is left of them. No other status comes.
abbrev pub LeavesHeard : ListenOptions → List ℕ → Option (List ℕ) → ReportTaken → Status → Type 0
LeavesHeard how bytes left report Done = HeardWhole how (pieces_in how.resync bytes) report
LeavesHeard how bytes left report (BadStream n) =
    ((pieces_in how.resync bytes).1 ≡ Broken) × (n ≡ length (packets_of (pieces_in how.resync bytes).0))
    × HeardAll how.strict (pieces_in how.resync bytes) (packet_stop_text (packet.Broken n)) report
LeavesHeard how bytes left report (TooLong Input) =
    ((pieces_in how.resync bytes).1 ≡ PastLimit) × HeardAll how.strict (pieces_in how.resync bytes) (packet_stop_text packet.TooLong) report
LeavesHeard how bytes left report (TooMany n) = HeardFront how.strict (pieces_in how.resync bytes) n report
LeavesHeard how bytes left report (ReadFault Input) = HeardTaken how bytes left report
LeavesHeard how bytes left report (WriteFault Report) = HeardUnreported how bytes left report
LeavesHeard how bytes left report Memory = Unit {0}
LeavesHeard how bytes left report status = ⊥

-- the statuses of `listen`
abbrev pub IsOfListen : Status → Type 0
IsOfListen Done = Unit {0}
IsOfListen (BadStream n) = Unit {0}
IsOfListen (TooMany n) = Unit {0}
IsOfListen (TooLong Input) = Unit {0}
IsOfListen (ReadFault Input) = Unit {0}
IsOfListen (WriteFault Report) = Unit {0}
IsOfListen Memory = Unit {0}
IsOfListen status = ⊥

-- What a run answers where neither the input nor the report fails: the first key too many decides, or else the end of the recording, but for
-- want of memory. So a recording that stops at its end, whose counted sections have at most 65,536 keys, is heard to its end.
abbrev pub HearsThrough : Bool → Findings → Status → Type 0
HearsThrough strict recording Done = (recording.1 ≡ AtEnd) × HasRoom strict recording.0
HearsThrough strict recording (BadStream n) = (recording.1 ≡ Broken) × (n ≡ length (packets_of recording.0)) × HasRoom strict recording.0
HearsThrough strict recording (TooMany n) = IsKeyTooMany strict recording.0 n
HearsThrough strict recording (TooLong Input) = (recording.1 ≡ PastLimit) × HasRoom strict recording.0
HearsThrough strict recording Memory = Unit {0}
HearsThrough strict recording status = ⊥

-- A run of `listen` with these options: what its input gave, what its report took, and its status.
pub record ListenRun (how : ListenOptions) (input : SourceGave) (report : ReportTaken) (status : Status) : Type 0 where
  -- what is left with each status: the lines and the guide that the report has
  pub leaves : (bytes : List ℕ) → input.old ≡ Some bytes → LeavesHeard how bytes input.new report status
  -- where neither the input nor the report fails, the recording decides the status, but for want of memory
  pub completes : (bytes : List ℕ) → input.old ≡ Some bytes → ¬ (Rose input.faults_old input.faults_new)
      → ¬ (Rose report.faults_old report.faults_new) → HearsThrough how.strict (pieces_in how.resync bytes) status
  -- so one that stops at its end, and whose counted sections have at most 65,536 keys, is heard to its end
  pub whole : (bytes : List ℕ) → input.old ≡ Some bytes → (pieces_in how.resync bytes).1 ≡ AtEnd
      → HasRoom how.strict (pieces_in how.resync bytes).0 → ¬ (Rose input.faults_old input.faults_new)
      → ¬ (Rose report.faults_old report.faults_new) → (status ≡ Done) ⊎ (status ≡ Memory)
  -- no other status comes
  pub known : IsOfListen status
  -- with Done the input was read to its end
  pub end : status ≡ Done → IsAtEnd input.new
  -- a fault of the input and of the report has its cause
  pub input_cause : status ≡ ReadFault Input → Rose input.faults_old input.faults_new
  pub report_cause : status ≡ WriteFault Report → Rose report.faults_old report.faults_new

-- So a call ran with these options, this input and this report: of each what tells its bytes and its faults, and how it was before and after.
abbrev pub ListenRan : ListenOptions → {S R : Type 0} → (S → Option (List ℕ)) → (S → ℕ) → S → S → (R → Option (List ℕ)) → (R → ℕ) → R → R → Status → Type 0
ListenRan how left read_faults input input_then taken report_faults report report_then status =
    ListenRun how (gave left read_faults input input_then) (told taken report_faults report report_then) status

-- `listen` without a word
abbrev pub without_options : ListenOptions
without_options = record { details = false; partial = false; resync = false; strict = false }
