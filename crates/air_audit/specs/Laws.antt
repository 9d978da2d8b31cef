-- The law of an auditor: to be consistent so far is to be a prefix of an air.
use Rattle.std.specs.Prelude.{◌≡◌, ◌↔◌, ℕ, List, [], ◌∷◌, ◌++◌, map}
use Rattle.std.specs.List.{AllByRecursion}
use Rattle.version_book.specs.Airings.{AiredTables}
use Rattle.ts_packets.specs.Bytes.{Packet, HasFields, bytes_of_packet}
use Rattle.ts_packets.specs.Counting.{of_pid, loads_on, Count}
use Rattle.air_model.specs.Air.{cycle_sections, Aired, HasNoNull, air, airings_of, IsAirOf, CanBeSent}
use Rattle.air_audit.specs.Fronts.{ToCome, CarrySoFar}
use Rattle.air_audit.specs.Audits.{AreAnAir, BeginAnAir, on_pid, SoFar}
use Rattle.air_audit.specs.Checking.{Checking, StandsFor, IsAtEnd}

-- Behind a whole air these packets go on consistently with the cycle of one airing more: counters that go on, fields that
-- fit, and on each PID a front of the packets of its sections.
pub record IsConsistent (xs : List Aired) (a : AiredTables) (handed : List Packet) : Type 0 where
  pub counted : (pid : ℕ) → Count 0 (loads_on pid (air xs ++ handed))
  pub fields : AllByRecursion HasFields (air xs ++ handed)
  pub carried : (pid : ℕ) → (t : ToCome) × CarrySoFar (of_pid pid handed) (on_pid pid (cycle_sections (airings_of xs) a)) t

-- Packets behind a whole air without null packets are consistent with one airing more exactly where all are a prefix of such an air of
-- the longer list.
abbrev pub ConsistentIsPrefix : Type 0
ConsistentIsPrefix =
    (xs : List Aired) (a : AiredTables) (handed : List Packet) → IsAirOf (airings_of xs) xs → HasNoNull (air xs) → CanBeSent (airings_of xs ++ a ∷ []) → AllByRecursion HasFields handed
    → IsConsistent xs a handed ↔ BeginAnAir (airings_of xs ++ a ∷ []) (map bytes_of_packet (air xs ++ handed))

-- A prefix of an air is one of a longer list too: each air can be gone on with.
abbrev pub LongerBegins : Type 0
LongerBegins = (airings more : List AiredTables) (packets : List (List ℕ)) → CanBeSent more → BeginAnAir airings packets → BeginAnAir (airings ++ more) packets

-- While its cycle has not ended, an auditor need not know the airings to come: the next packet makes a prefix of an air of its
-- list exactly where it makes one of a longer list.
abbrev pub LongerListsAgree : Type 0
LongerListsAgree =
    (airings more : List AiredTables) (accepted : List (List ℕ)) (c : Checking) (bytes : List ℕ) → StandsFor airings accepted c → (IsAtEnd c → Prim.⊥) → CanBeSent more
    → BeginAnAir (airings ++ more) (accepted ++ bytes ∷ []) ↔ BeginAnAir airings (accepted ++ bytes ∷ [])

-- What is to come is one: the packets accepted and the list determine it, and so the rule that a packet breaks.
abbrev pub OneToCome : Type 0
OneToCome =
    (airings : List AiredTables) (packets : List Packet) (f g : ℕ → ToCome) → CanBeSent airings → SoFar airings packets f → SoFar airings packets g → (pid : ℕ) → f pid ≡ g pid

-- Behind a whole air of a list no packet makes a prefix of an air of it.
abbrev pub WholeAirsEnd : Type 0
WholeAirsEnd =
    (airings : List AiredTables) (packets : List (List ℕ)) (bytes : List ℕ) → CanBeSent airings → AreAnAir airings packets → BeginAnAir airings (packets ++ bytes ∷ []) → Prim.⊥

-- So a prefix of an air of a list is an air of a longer one only where it is one of the list: each airing has packets.
abbrev pub LongerAirs : Type 0
LongerAirs =
    (airings more : List AiredTables) (packets : List (List ℕ)) → CanBeSent airings → AreAnAir (airings ++ more) packets → BeginAnAir airings packets → AreAnAir airings packets
