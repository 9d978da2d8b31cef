-- Laws of hearing.
use Rattle.std.specs.Prelude.{◌≡◌, ℕ, ◌+◌, ◌<◌, List, [], ◌∷◌, ◌++◌, length, take, drop, map, filter_map}
use Rattle.std.specs.List.{AllByRecursion}
use Rattle.ts_packets.specs.Packets.{Piece, pieces, left, HaveSectionBytes, all_of, Carries}
use Rattle.ts_packets.specs.Bytes.{Packet, HasFields, bytes_of_packet}
use Rattle.ts_packets.specs.Counting.{of_pid, loads_on, Count}
use Rattle.ts_demux.specs.Hearing.{IsSection}
use Rattle.ts_demux.specs.Sections.{sections_on, heard_all, bytes_on}

-- One PID's sections among all, in the order in which they end, are those heard on the PID.
abbrev pub OrderKept : Type 0
OrderKept = (packets : List (List ℕ)) (pid : ℕ) → filter_map (bytes_on pid) (heard_all [] packets) ≡ sections_on pid packets

abbrev pub but_last : List (List ℕ) → List (List ℕ)
but_last [] = []
but_last (s ∷ []) = []
but_last (s ∷ t ∷ ss) = s ∷ but_last (t ∷ ss)

-- those of the sections begun that have ended, where these bytes of the last are still to come
abbrev pub ended : List ℕ → List (List ℕ) → List (List ℕ)
ended [] ss = ss
ended (b ∷ rest) ss = but_last ss

-- The sections, a group for each packet, with their first byte in the packets from the place join on and their last byte
-- before the place end.
abbrev pub within : ℕ → ℕ → List (List (List ℕ)) → List (List ℕ)
within join end groups = ended (left [] (take end groups)) (all_of (drop join (take end groups)))

-- these are written packets of a PID whose counters go on
pub record GoOn (pid : ℕ) (packets : List Packet) : Type 0 where
  pub fields : AllByRecursion HasFields packets
  pub counted : (n : ℕ) × Count n (loads_on pid packets)

-- So any part of such packets does.
abbrev pub PartGoesOn : Type 0
PartGoesOn = (pid : ℕ) (before part after : List Packet) → GoOn pid (before ++ (part ++ after)) → GoOn pid part

-- Of any part of packets that carry sections on a PID, just the sections are heard that begin and end in the part,
-- however densely the sections share packets.
abbrev pub PartIsHeard : Type 0
PartIsHeard =
    (pid : ℕ) → pid < 8191 → (groups : List (List (List ℕ))) → HaveSectionBytes [] groups → AllByRecursion IsSection (all_of groups)
    → (before after : List Piece) (part : List Packet) → before ++ (of_pid pid part ++ after) ≡ pieces [] groups → GoOn pid part
    → sections_on pid (map bytes_of_packet part) ≡ within (length before) (length before + length (of_pid pid part)) groups

-- Of all packets that carry sections on a PID, just those sections are heard.
abbrev pub CarriedIsHeard : Type 0
CarriedIsHeard =
    (pid : ℕ) → pid < 8191 → (packets : List Packet) (sections : List (List ℕ)) → Carries (of_pid pid packets) sections
    → AllByRecursion IsSection sections → GoOn pid packets → sections_on pid (map bytes_of_packet packets) ≡ sections
