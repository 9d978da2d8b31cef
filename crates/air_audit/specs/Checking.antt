-- What an auditor stands for, and the rule that a packet breaks (ISO/IEC 13818-1, 2.4.3.2 and 2.4.4.2).
use Rattle.std.specs.Prelude.{◌≡◌, ℕ, ◌%◌, List, Option, Bool, not, ◌&&◌, ◌||◌, ◌==◌, if◌then◌else◌, slice_index, map}
use Rattle.version_book.specs.Airings.{CycleForm, AiredTables}
use Rattle.version_book.specs.Book.{GivenVersions, BookStandsFor}
use Rattle.ts_packets.specs.Bytes.{Packet, bytes_of_packet, pid_in, transport_error_indicator, transport_priority, transport_scrambling_control, adaptation_field_control, payload_unit_start_indicator, continuity_counter}
use Rattle.ts_packets.specs.Counting.{StandFor, count_on}
use Rattle.air_model.specs.Air.{CanBeSent}
use Rattle.air_model.specs.declared.rule.Rule.{Rule}
use Rattle.air_model.specs.declared.rule.Rule.TheVariants.{Shape, Pid, Counter, Pointer, Bytes}
use Rattle.air_audit.specs.Fronts.{ToCome, to_come_on, nothing}
use Rattle.air_audit.specs.Telling.{is_none, is_pointer}
use Rattle.air_audit.specs.Audits.{SoFar}

-- what contracts see of an auditor: its version book, its counters, what is still to come of the cycle on each PID, and the form of
-- the cycles
pub record Checking : Type 0 where
  pub book : GivenVersions
  pub counters : List (Option ℕ)
  pub on_pids : List ToCome
  pub form : CycleForm

-- It stands for an airing list and the packets accepted, each by its bytes: they are consistent with the list so far.
pub record StandsFor (airings : List AiredTables) (accepted : List (List ℕ)) (c : Checking) : Type 0 where
  pub can_be_sent : CanBeSent airings
  pub versions : BookStandsFor airings c.book
  pub counters : StandFor accepted c.counters
  pub packets : List Packet
  pub accepted_are : accepted ≡ map bytes_of_packet packets
  pub so_far : SoFar airings packets (to_come_on c.on_pids)

-- nothing of its cycle is to come
abbrev pub IsAtEnd : Checking → Type 0
IsAtEnd c = (pid : ℕ) → to_come_on c.on_pids pid ≡ nothing

-- ---- rules

-- the header of a packet is one that is written
abbrev pub has_shape : List ℕ → Bool
has_shape bytes =
    slice_index bytes 0 == 71 && not (transport_error_indicator bytes) && not (transport_priority bytes) && transport_scrambling_control bytes == 0 && adaptation_field_control bytes == 1

-- no section byte is left
abbrev pub is_nothing : ToCome → Bool
is_nothing t = is_none t.rest && is_none t.waiting

-- no section is open for a packet without start; or for one with start none is left to begin, or the pointer is not the
-- rest of the open one or exceeds 182
abbrev pub is_misplaced : ToCome → List ℕ → Bool
is_misplaced t bytes =
    if payload_unit_start_indicator bytes then is_none t.waiting || not (is_pointer (slice_index bytes 4) t.rest)
    else is_none t.rest

-- The first rule that a refused packet breaks, by what is still to come on its PID and the PID's next counter.
abbrev pub rule_broken : ToCome → ℕ → List ℕ → Rule
rule_broken t next bytes =
    if not (has_shape bytes) then Shape
    else if is_nothing t then Pid
    else if not (continuity_counter bytes == next) then Counter
    else if is_misplaced t bytes then Pointer
    else Bytes

-- that of a packet which comes behind the packets accepted
abbrev pub rule_at : List (List ℕ) → Checking → List ℕ → Rule
rule_at accepted c bytes = rule_broken (to_come_on c.on_pids (pid_in bytes)) (count_on (pid_in bytes) accepted % 16) bytes
