-- What an auditor at a bit rate stands for.
use Rattle.std.specs.Prelude.{◌≡◌, ◌⊎◌, ℕ, Bool, List, [], ◌∷◌, ◌++◌, Option, Some, None}
use Rattle.version_book.specs.Airings.{AiredTables, CycleForm}
use Rattle.ts_packets.specs.Bytes.{Packet}
use Rattle.ts_packets.specs.declared.written.TsPacket.{TsPacket}
use Rattle.air_model.specs.Air.{Aired, air, airings_of}
use Rattle.air_model.specs.declared.rule.Rule.{Rule}
use Rattle.air_model.specs.declared.rule.Rule.TheVariants.{Pid}
use Rattle.cycle_player.specs.Playing.{TimedPlaying, AtEnd, Within}
use Rattle.air_audit.specs.TimedAirs.{seen_of}
use Rattle.air_audit.specs.Rules.{rule_between}

-- what contracts see of an auditor: the player of the air, the packet that is expected, where one
-- is
-- to come, whether null packets are passed over, and the form of the cycles
pub record TimedChecking : Type 0 where
  pub playing : TimedPlaying
  pub next : Option TsPacket
  pub nulls : Bool
  pub form : CycleForm

-- nothing of its cycle is to come
abbrev pub IsAtEnd : TimedChecking → Type 0
IsAtEnd c = c.next ≡ None

-- the rule that a packet breaks which is not the one expected
abbrev pub rule_by : Option TsPacket → List ℕ → Rule
rule_by None found = Pid
rule_by (Some expected) found = rule_between expected.0 found

abbrev pub rule_at : TimedChecking → List ℕ → Rule
rule_at c found = rule_by c.next found

-- ---- where it has come to

-- All of the air was accepted.
pub record StandsAfter (airings : List AiredTables) (accepted : List (List ℕ)) (c : TimedChecking) :
    Type 0 where
  pub xs : List Aired
  pub airings_are : airings_of xs ≡ airings
  pub at_end : AtEnd xs c.playing
  pub none : c.next ≡ None
  pub accepted_are : seen_of c.nulls (air xs) ≡ accepted

-- A packet of the last cycle is expected, and then the others that are looked at.
pub record StandsWithin (airings : List AiredTables) (accepted : List (List ℕ))
    (c : TimedChecking) :
    Type 0 where
  pub xs : List Aired
  pub x : Aired
  pub rest : List Packet
  pub airings_are : airings_of (xs ++ x ∷ []) ≡ airings
  pub within : Within xs x rest c.playing
  pub next : TsPacket
  pub next_is : c.next ≡ Some next
  pub packets_are : seen_of c.nulls (air (xs ++ x ∷ []))
      ≡ accepted ++ next.0 ∷ seen_of c.nulls rest

-- It stands for an airing list and the packets accepted, the first ones of the air of that list.
abbrev pub StandsFor : List AiredTables → List (List ℕ) → TimedChecking → Type 0
StandsFor airings accepted c =
    StandsAfter airings accepted c ⊎ StandsWithin airings accepted c

-- ---- what always holds of its player

abbrev pub IsWithin : TimedPlaying → Type 0
IsWithin p = (xs : List Aired) × (x : Aired) × (rest : List Packet) × Within xs x rest p

abbrev pub IsPlaced : Option TsPacket → TimedPlaying → Type 0
IsPlaced None p = (xs : List Aired) × AtEnd xs p
IsPlaced (Some next) p = IsWithin p

-- The player has handed out packets up to this one, which is the next one that is looked at, or to
-- the end of the cycle.
abbrev pub Came : Bool → List Aired → Aired → List Packet → TimedPlaying → Option TsPacket → Type 0
Came nulls xs x rest p None = AtEnd (xs ++ x ∷ []) p × (seen_of nulls rest ≡ [])
Came nulls xs x rest p (Some next) =
    (left : List Packet) × Within xs x left p
    × (seen_of nulls rest ≡ next.0 ∷ seen_of nulls left)
