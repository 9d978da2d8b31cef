-- How far an audit has come with a script and a recording, and why it stops.
use Rattle.std.specs.Prelude.{◌≡◌, ◌⊎◌, ℕ, Bool, true, List, [], ◌++◌, length, Option, Some, None, Ok, Err, Result}
use Rattle.si_causes.specs.Causes.{Rose}
use Rattle.si_causes.specs.Reading.{Reading}
use Rattle.packet_reader.specs.Reading.{PacketReading, bytes_left}
use Rattle.journal_model.specs.declared.step.Outcome.{Outcome}
use Rattle.mux_model.specs.declared.mux.Mux.{Mux}
use Rattle.desk_core.specs.Desks.{DeskState, fresh}
use Rattle.air_audit.specs.CycleChecking.{Auditing, IsOf, StandsAt, form_of}
use Rattle.journal_air.specs.Air.{airings, mux_form}
use Rattle.version_book.specs.Airings.{AiredTables}
use Rattle.ts_packets.specs.WholePackets.{whole_packets}
use Rattle.air_model.specs.Air.{CanBeSent}
use Rattle.epg_report.specs.declared.status.Status.{Status}
use Rattle.epg_report.specs.declared.status.Status.TheVariants.{Memory, ReadFault}
use Rattle.epg_report.specs.declared.status.Origin.TheVariants.{Input, Recording}
use Rattle.epg_play.specs.declared.stop.PlayStop.{PlayStop}
use Rattle.epg_play.specs.declared.desk.ScriptDesk.{ScriptDesk}
use Rattle.epg_play.specs.Items.{IsAt, IsReady, Stops, Went}
use Rattle.epg_play.specs.Leaves.{status_for}
use Rattle.epg_play.specs.Played.{IsItemStop}
use Rattle.epg_audit.specs.declared.cycles.AirCount.{AirCount}
use Rattle.epg_audit.specs.Checks.{IsBetweenCycles}
use Rattle.epg_audit.specs.Recorded.{BeginsWithAir, IsFaulty, IsRecordedAir, passed_over}

-- what a desk has put on air
abbrev pub desk_airings : DeskState → List AiredTables
desk_airings desk = airings desk.mux desk.entries

module _ {S F : Type 0} (nulls : Bool) (left : S → Option (List ℕ)) (gives : F → Option (List ℕ)) (old now : Reading S) (start : PacketReading F) (before desk : DeskState) where
  -- of what the recording has, where it tells it
  abbrev pub OfRecording : (List ℕ → Type 0) → Type 0
  OfRecording Is = (bytes : List ℕ) → bytes_left gives start ≡ Some bytes → Is bytes

  -- the script stops, and what its commands put on air is in the recording
  pub record ScriptStops (status : Status) : Type 0 where
    pub stop : PlayStop
    pub is : status ≡ status_for stop
    pub of_script : IsItemStop stop
    pub stops : Stops 0 left old now before desk (Err stop)
    pub behind : OfRecording (BeginsWithAir desk.mux.rate nulls (desk_airings desk))

  -- the recording is at fault in the cycle of the last command that was done, whatever airings follow
  pub record CycleStops (status : Status) : Type 0 where
    pub made : Option Outcome
    pub went : Went 0 left old now before desk made
    pub faulty : OfRecording (λ bytes. (others : List AiredTables) → CanBeSent others
        → IsFaulty desk.mux.rate nulls (desk_airings desk ++ others) bytes status)

  -- the recording is at fault after the last cycle of a script that is whole
  pub record EndStops (status : Status) : Type 0 where
    pub ended : Stops 0 left old now before desk (Ok tt)
    pub faulty : OfRecording (λ bytes. IsFaulty desk.mux.rate nulls (desk_airings desk) bytes
        status)

  -- an audit of the rest of a script goes through, or stops
  abbrev pub AuditDid : Result (Unit {0}) Status → Type 0
  AuditDid (Ok u) = Stops 0 left old now before desk (Ok tt)
      × OfRecording (IsRecordedAir desk.mux.rate nulls (desk_airings desk))
  AuditDid (Err Memory) = Unit {0}
  AuditDid (Err status) = ScriptStops status ⊎ (CycleStops status ⊎ EndStops status)

-- A script begins at the desk, which was asked nothing yet, keeps the entries that it makes, and whose publications have their own numbers.
pub record IsBegun (desk : ScriptDesk) : Type 0 where
  pub ready : IsReady desk
  pub at : IsAt (fresh desk.desk.mux) (fresh desk.desk.mux) desk
  pub first : desk.last ≡ None
  pub shift : desk.shift ≡ 0
  pub keeps : desk.keeps ≡ true

-- An audit begins: no packet was read, the checker of the desk's multiplex has accepted none, and a script begins at the desk.
pub record CanAudit {F : Type 0} (packets : PacketReading F) (checker : Auditing) (passed : Option ℕ) (desk : ScriptDesk) : Type 0 where
  pub between : IsBetweenCycles packets checker
  pub first : packets.number ≡ 0
  pub stands : StandsAt [] [] checker
  pub kind : (nulls : Bool) → passed ≡ passed_over nulls [] → IsOf desk.desk.mux.rate nulls checker
  pub form : form_of checker ≡ mux_form desk.desk.mux
  pub begun : IsBegun desk

-- The recording was audited by such a script, and the desk has the entries that were made.
pub record DeskAudited {S F : Type 0} (nulls : Bool) (left : S → Option (List ℕ)) (gives : F → Option (List ℕ)) (old now : Reading S) (start : PacketReading F) (before desk : ScriptDesk) (result : Result (Unit {0}) Status) : Type 0 where
  pub state : DeskState
  pub made : desk.made.items ≡ state.entries
  pub did : AuditDid nulls left gives old now start (fresh before.desk.mux) state result

-- the packets of a recording were counted, and the swaps; and where null packets may stand, these
abbrev pub IsCounted : Bool → List ℕ → List AiredTables → AirCount → Type 0
IsCounted nulls bytes aired count =
    (count.packets ≡ length (whole_packets bytes)) × (count.swaps ≡ length aired) × (count.nulls ≡ passed_over nulls (whole_packets bytes))

-- a failed read has its cause: of the input, or of the recording
abbrev pub HasAuditCause : {T : Type 0} → ℕ → ℕ → ℕ → ℕ → Result T Status → Type 0
HasAuditCause input_before input_now before now (Err (ReadFault Input)) = Rose input_before input_now
HasAuditCause input_before input_now before now (Err (ReadFault Recording)) = Rose before now
HasAuditCause input_before input_now before now result = Unit {0}

-- an audit of a recording by the script after the description of a multiplex
abbrev pub RecordingAudited : {S F : Type 0} → Bool → (S → Option (List ℕ)) → (F → Option (List ℕ)) → Reading S → Reading S → PacketReading F → Mux → Result AirCount Status → Type 0
RecordingAudited nulls left gives old now start mux (Ok count) =
    (desk : DeskState) × AuditDid nulls left gives old now start (fresh mux) desk (Ok tt) × ((bytes : List ℕ) → bytes_left gives start ≡ Some bytes → IsCounted nulls bytes (desk_airings desk) count)
RecordingAudited nulls left gives old now start mux (Err status) = (desk : DeskState) × AuditDid nulls left gives old now start (fresh mux) desk (Err status)
