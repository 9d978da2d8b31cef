-- How far an audit has come with a recording.
use Rattle.std.specs.Prelude.{◌≡◌, ◌≤◌, ◌<◌, ℕ, Bool, false, List, [], ◌++◌, length, take, flat_map, Option, Some, None, Ok, Err, Result, OnOk, if◌then◌else◌, nat_lt}
use Rattle.si_causes.specs.Causes.{Rose}
use Rattle.packet_reader.specs.declared.stop.PacketStop.{PacketStop}
use Rattle.packet_reader.specs.declared.stop.PacketStop.TheVariants as stop
use Rattle.packet_reader.specs.Reading.{PacketReading, bytes_left}
use Rattle.packet_reader.specs.Recordings.{packet_limit}
use Rattle.version_book.specs.Airings.{AiredTables}
use Rattle.ts_packets.specs.WholePackets.{AreWhole}
use Rattle.air_model.specs.Air.{CanBeSent}
use Rattle.air_model.specs.declared.rule.Rule.{Rule}
use Rattle.air_model.specs.declared.rule.Rule.TheVariants.{Pid}
use Rattle.epg_report.specs.declared.status.Status.{Status}
use Rattle.epg_report.specs.declared.status.Status.TheVariants.{BadStream, Memory, NotAir, ReadFault, Short, TooLong}
use Rattle.epg_report.specs.declared.status.Origin.TheVariants.{Recording}
use Rattle.epg_audit.specs.Recorded.{IsFaulty, is_passed, passed_over}
use Rattle.air_audit.specs.CycleChecking.{Auditing, IsAtEnd, IsOf, StandsAt}
use Rattle.air_audit.specs.TimedAirs.{seen}

-- Of bytes these packets were taken, and the others are left.
pub record AreTaken (bytes : List ℕ) (packets : List (List ℕ)) (rest : List ℕ) : Type 0 where
  pub parted : bytes ≡ flat_map (λ (p : List ℕ). p) packets ++ rest
  pub whole : AreWhole packets

-- From start to now a reader gave packets which a checker of these airings, at this bit rate or
-- without one, has accepted, each of them; or, where null packets may stand,
-- has passed over, so many.
pub record Follows {F : Type 0} (rate : Option ℕ) (nulls : Bool) (left : F → Option (List ℕ))
    (start now : PacketReading F) (airings : List AiredTables) (checker : Auditing)
    (passed : Option ℕ) : Type 0 where
  pub packets : List (List ℕ)
  pub is_of : IsOf rate nulls checker
  pub stands : StandsAt airings (seen nulls packets) checker
  pub number : now.number ≡ length packets
  pub within : length packets ≤ packet_limit
  pub counted : passed ≡ passed_over nulls packets
  pub taken : (bytes : List ℕ) → bytes_left left start ≡ Some bytes → (rest : List ℕ) × (bytes_left left now ≡ Some rest) × AreTaken bytes packets rest

-- a cycle was checked to its end, or the recording is at fault, whatever airings follow
abbrev pub Checks : {F : Type 0} → Option ℕ → Bool → (F → Option (List ℕ)) → PacketReading F
    → PacketReading F → List AiredTables → Auditing → Option ℕ → Result (Unit {0}) Status → Type 0
Checks rate nulls left start now airings checker passed (Ok u) =
    Follows rate nulls left start now airings checker passed
Checks rate nulls left start now airings checker passed (Err Memory) = Unit {0}
Checks rate nulls left start now airings checker passed (Err status) =
    (bytes : List ℕ) → bytes_left left start ≡ Some bytes → (others : List AiredTables)
    → CanBeSent others → IsFaulty rate nulls (airings ++ others) bytes status

-- the recording may be read on, and the checker stands between two cycles
pub record IsBetweenCycles {F : Type 0} (now : PacketReading F) (checker : Auditing) : Type 0 where
  pub going : now.stop ≡ None
  pub at_end : IsAtEnd checker

-- the status of a recording that gives no further packet
abbrev pub recording_status : {F : Type 0} → PacketReading F → PacketStop → Rule → Status
recording_status reader stop.Failed rule = ReadFault Recording
recording_status reader stop.TooLong rule = TooLong Recording
recording_status reader (stop.Broken n) rule = if nat_lt (length reader.held) 188 then BadStream n else NotAir n rule

-- the statuses of a recording that is checked
abbrev pub IsOfCheck : Status → Type 0
IsOfCheck (NotAir n rule) = Unit {0}
IsOfCheck (Short n) = Unit {0}
IsOfCheck (BadStream n) = Unit {0}
IsOfCheck (TooLong Recording) = Unit {0}
IsOfCheck (ReadFault Recording) = Unit {0}
IsOfCheck Memory = Unit {0}
IsOfCheck status = ⊥

-- What a reader gives after the last cycle, and after the null packets that may stand there: nothing, or what is at fault.
abbrev pub GivesNoMore : Bool → List ℕ → ℕ → Result (Unit {0}) Status → Type 0
GivesNoMore nulls rest number (Ok u) = rest ≡ []
GivesNoMore nulls rest number (Err (NotAir n rule)) = (n ≡ number) × (rule ≡ Pid) × (188 ≤ length rest) × (is_passed nulls (take 188 rest) ≡ false)
GivesNoMore nulls rest number (Err (BadStream n)) = (n ≡ number) × (0 < length rest) × (length rest < 188)
GivesNoMore nulls rest number (Err (TooLong Recording)) = (packet_limit ≤ number) × (0 < length rest)
GivesNoMore nulls rest number (Err (ReadFault Recording)) = Unit {0}
GivesNoMore nulls rest number (Err status) = ⊥

abbrev pub GivesEnd : {F : Type 0} → Bool → (F → Option (List ℕ)) → PacketReading F → Result (Unit {0}) Status → Type 0
GivesEnd nulls left last result = (rest : List ℕ) → bytes_left left last ≡ Some rest → GivesNoMore nulls rest last.number result

-- From start on a reader gave such packets up to the last one that may stand, and then no more, or what is at fault.
pub record Ends {F : Type 0} (rate : Option ℕ) (nulls : Bool) (left : F → Option (List ℕ))
    (start now : PacketReading F) (airings : List AiredTables) (checker : Auditing)
    (passed : Option ℕ) (result : Result (Unit {0}) Status) : Type 0 where
  pub last : PacketReading F
  pub follows : Follows rate nulls left start last airings checker passed
  pub gives : GivesEnd nulls left last result
  pub number : OnOk result (now.number ≡ last.number)

-- a failed read has its cause
abbrev pub HasReadCause : ℕ → ℕ → Result (Unit {0}) Status → Type 0
HasReadCause before now (Err (ReadFault Recording)) = Rose before now
HasReadCause before now result = Unit {0}
