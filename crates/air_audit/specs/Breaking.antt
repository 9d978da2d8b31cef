-- The rule by which a recorded packet is refused.
use Rattle.std.specs.Prelude.{◌≡◌, ◌⊎◌, ℕ, ◌%◌, Bool, List, [], ◌∷◌, ◌++◌, map, Option, Some, None}
use Rattle.version_book.specs.Airings.{AiredTables}
use Rattle.ts_packets.specs.Bytes.{Packet, bytes_of_packet, pid_in}
use Rattle.ts_packets.specs.Counting.{count_on}
use Rattle.air_model.specs.declared.rule.Rule.{Rule}
use Rattle.air_model.specs.declared.rule.Rule.TheVariants.{Pid}
use Rattle.air_audit.specs.Fronts.{ToCome, nothing}
use Rattle.air_audit.specs.Audits.{SoFar}
use Rattle.air_audit.specs.Checking.{rule_broken}
use Rattle.air_audit.specs.TimedAirs.{BeginTheAir}
use Rattle.air_audit.specs.Rules.{rule_between}
use Rattle.air_audit.specs.CycleAirs.{AreAirAt}

-- Behind these packets a packet breaks this rule first, by what is still to come of the cycle of
-- one of the airings, which is not whole.
pub record BreaksInCycle (airings : List AiredTables) (accepted : List (List ℕ)) (packet : List ℕ)
    (rule : Rule) : Type 0 where
  pub front : List AiredTables
  pub others : List AiredTables
  pub airings_are : airings ≡ front ++ others
  pub packets : List Packet
  pub accepted_are : accepted ≡ map bytes_of_packet packets
  pub to_come : ℕ → ToCome
  pub so_far : SoFar front packets to_come
  pub goes_on : ((pid : ℕ) → to_come pid ≡ nothing) → Prim.⊥
  pub rule_is : rule ≡ rule_broken (to_come (pid_in packet))
      (count_on (pid_in packet) accepted % 16) packet

-- After these packets the air at a bit rate has another packet, which differs first by this rule.
pub record Differs (rate : ℕ) (nulls : Bool) (airings : List AiredTables)
    (accepted : List (List ℕ)) (packet : List ℕ) (rule : Rule) : Type 0 where
  pub expected : List ℕ
  pub expects : BeginTheAir rate nulls airings (accepted ++ expected ∷ [])
  pub rule_is : rule ≡ rule_between expected packet

abbrev pub BreaksWithin : Option ℕ → Bool → List AiredTables → List (List ℕ) → List ℕ → Rule
    → Type 0
BreaksWithin None nulls airings accepted packet rule = BreaksInCycle airings accepted packet rule
BreaksWithin (Some rate) nulls airings accepted packet rule =
    Differs rate nulls airings accepted packet rule

-- so it does; or it stands after the last cycle
abbrev pub BreaksAt : Option ℕ → Bool → List AiredTables → List (List ℕ) → List ℕ → Rule → Type 0
BreaksAt rate nulls airings accepted packet rule =
    BreaksWithin rate nulls airings accepted packet rule
    ⊎ (AreAirAt rate nulls airings accepted × (rule ≡ Pid))
