-- What an audit finds of the text of its input and of the file of its recording.
use Rattle.std.specs.Prelude.{◌≡◌, ◌⊎◌, ℕ, Bool, List, ◌++◌, Option, Some, None, IfSome, IsSome, Ok, Err, Result}
use Rattle.si_causes.specs.Causes.{Rose}
use Rattle.si_causes.specs.Opening.{Files, Tries, file_at}
use Rattle.mux_model.specs.declared.mux.Mux.{Mux}
use Rattle.ts_packets.specs.WholePackets.{whole_packets}
use Rattle.version_book.specs.Airings.{AiredTables}
use Rattle.air_model.specs.Air.{CanBeSent}
use Rattle.journal_air.specs.Air.{airings}
use Rattle.journal_air.specs.Heard.{IsHeardAs}
use Rattle.epg_report.specs.declared.status.Status.{Status}
use Rattle.epg_report.specs.declared.status.Status.TheVariants.{BadMux, BadScript, BadStream, Disagrees, Done, Memory, NotAir, OpenFault, ReadFault, Short, TooLong as PastLimit}
use Rattle.epg_report.specs.declared.status.Origin.TheVariants.{Input, Recording}
use Rattle.epg_report.specs.Asked.{AtPath}
use Rattle.epg_report.specs.Told.{OpenerAsked}
use Rattle.epg_play.specs.Script.{Script, Ended, script_in, script_taken}
use Rattle.epg_play.specs.Leaves.{script_status, whole_journal}
use Rattle.epg_audit.specs.declared.cycles.AirCount.{AirCount}
use Rattle.epg_audit.specs.Audits.{IsCounted}
use Rattle.epg_audit.specs.Checks.{IsOfCheck}
use Rattle.epg_audit.specs.Recorded.{BeginsWithAir, IsFaulty, IsRecordedAir, rate_in, script_airings}
use Rattle.air_audit.specs.TimedAirs.{seen}

-- The script is whole, and the recording is an air of its journal, of so many packets and swaps. At
-- a bit rate it is the air of the player.
pub record IsAccepted (path : List ℕ) (nulls : Bool) (files : Files) (script : Script) (count : AirCount) : Type 0 where
  pub ended : script.stop ≡ Ended
  pub mux : Mux
  pub described : script.mux ≡ Some mux
  pub bytes : List ℕ
  pub file : file_at path files ≡ Some bytes
  pub air : IsRecordedAir mux.rate nulls (airings mux (whole_journal script)) bytes
  pub heard : IsHeardAs mux (whole_journal script) (seen nulls (whole_packets bytes))
  pub counts : IsCounted nulls bytes (airings mux (whole_journal script)) count

-- The opener was asked for the path where a multiplex is described, and for none where the description ended the run.
abbrev pub AskedOnceDescribed : Option Mux → List ℕ → OpenerAsked → Type 0
AskedOnceDescribed None path opener = opener.tried_new ≡ opener.tried_old
AskedOnceDescribed (Some mux) path opener = Tries opener.tried_old opener.tried_new path

-- The script leads to this status; and where a multiplex is described, the recording begins with an air of what its commands put on air.
pub record StopsBehind (path : List ℕ) (nulls : Bool) (files : Files) (opener : OpenerAsked) (script : Script) (status : Status) : Type 0 where
  pub stopped : status ≡ script_status script.stop
  pub begins : IfSome script.mux
      (λ mux. AtPath path files (BeginsWithAir (rate_in script.mux) nulls (script_airings script)))
  pub asked : AskedOnceDescribed script.mux path opener

-- A read of the input failed: the script of the lines that were whole in the bytes taken.
pub record StopsUnread (path : List ℕ) (nulls : Bool) (files : Files) (opener : OpenerAsked) (text : List ℕ) (left : Option (List ℕ)) : Type 0 where
  pub taken : List ℕ
  pub behind : List ℕ
  pub text_is : text ≡ taken ++ behind
  pub left_is : left ≡ Some behind
  pub stops : StopsBehind path nulls files opener (script_taken taken) (ReadFault Input)

-- The recording is at fault, before what the commands of a script put on air has ended, or after it where the script is whole: so whatever
-- airings follow, or none do.
pub record IsAtFault (nulls : Bool) (script : Script) (status : Status) (bytes : List ℕ) : Type 0 where
  pub faulty : IsFaulty (rate_in script.mux) nulls (script_airings script) bytes status
  pub first : (script.stop ≡ Ended)
      ⊎ ((others : List AiredTables) → CanBeSent others
      → IsFaulty (rate_in script.mux) nulls (script_airings script ++ others) bytes status)

-- What is at fault, by the status: the script, or the recording, or a file that was not opened or read.
abbrev pub IsFound : List ℕ → Bool → Files → OpenerAsked → List ℕ → Option (List ℕ) → Status → Type 0
IsFound path nulls files opener text left Done = ⊥
IsFound path nulls files opener text left (ReadFault Input) = StopsUnread path nulls files opener text left
IsFound path nulls files opener text left (OpenFault n) = (n ≡ 0) × IsSome (script_in text).mux
IsFound path nulls files opener text left (ReadFault Recording) = IsSome (script_in text).mux
IsFound path nulls files opener text left (PastLimit Recording) = AtPath path files (IsAtFault nulls (script_in text) (PastLimit Recording))
IsFound path nulls files opener text left (BadStream n) = AtPath path files (IsAtFault nulls (script_in text) (BadStream n))
IsFound path nulls files opener text left (NotAir n rule) = AtPath path files (IsAtFault nulls (script_in text) (NotAir n rule))
IsFound path nulls files opener text left (Short n) = AtPath path files (IsAtFault nulls (script_in text) (Short n))
IsFound path nulls files opener text left Memory = Unit {0}
IsFound path nulls files opener text left status = StopsBehind path nulls files opener (script_in text) status

abbrev pub FindsIn : List ℕ → Bool → Files → OpenerAsked → List ℕ → Option (List ℕ) → Result AirCount Status → Type 0
FindsIn path nulls files opener text left (Ok count) = IsAccepted path nulls files (script_in text) count
FindsIn path nulls files opener text left (Err status) = IsFound path nulls files opener text left status

-- where the source and the opener tell what they have
abbrev pub Finds : {S : Type 0} → List ℕ → Bool → OpenerAsked → (S → Option (List ℕ)) → S → S → Result AirCount Status → Type 0
Finds path nulls opener left old new result =
    (text : List ℕ) → left old ≡ Some text → (files : Files) → opener.files ≡ Some files → FindsIn path nulls files opener text (left new) result

-- a fault of the outside has its cause
abbrev pub HasMetCause : ℕ → ℕ → OpenerAsked → Status → Type 0
HasMetCause input_before input_now opener (ReadFault Input) = Rose input_before input_now
HasMetCause input_before input_now opener (ReadFault Recording) = Rose opener.read_old opener.read_new
HasMetCause input_before input_now opener (OpenFault n) = Rose opener.faults_old opener.faults_new
HasMetCause input_before input_now opener status = Unit {0}

-- the statuses that may be met after the description, once the recording is open
abbrev pub IsMetBehind : Status → Type 0
IsMetBehind (BadScript n) = Unit {0}
IsMetBehind (Disagrees n kept found) = Unit {0}
IsMetBehind (PastLimit Input) = Unit {0}
IsMetBehind (ReadFault Input) = Unit {0}
IsMetBehind status = IsOfCheck status

-- and those that an audit may have met before it reports
abbrev pub IsMetByAudit : Status → Type 0
IsMetByAudit (BadMux fault) = Unit {0}
IsMetByAudit (OpenFault n) = Unit {0}
IsMetByAudit status = IsMetBehind status
