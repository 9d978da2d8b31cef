-- Laws of packets and the sections that they carry (ISO/IEC 13818-1, 2.4.4).
use Rattle.std.specs.Prelude.{◌≡◌, ℕ, ◌-◌, ◌<◌, List, [], ◌∷◌, ◌++◌, length, replicate}
use Rattle.std.specs.List.{AllByRecursion}
use Rattle.ts_packets.specs.Packets.{Piece, pointer_of, piece_of, joined, useful, all_useful, Carries}
use Rattle.ts_packets.specs.Bytes.{packets_alone, packets_dense}
use Rattle.ts_packets.specs.Counting.{of_pid}

-- The packets of a section that begins in a packet of its own carry this section and no other.
abbrev pub AloneIsCarried : Type 0
AloneIsCarried = (pid : ℕ) (section : List ℕ) → Carries (of_pid pid (packets_alone pid section)) (section ∷ [])

-- The packets of a stretch carry its sections, where each has a byte.
abbrev pub StretchIsCarried : Type 0
StretchIsCarried =
    (pid : ℕ) (sections : List (List ℕ)) → AllByRecursion (λ (s : List ℕ). 0 < length s) sections
    → Carries (of_pid pid (packets_dense pid sections)) sections

-- A payload is its pointer, if a section begins in it, then bytes of sections, and then fill to its end.
abbrev pub PayloadIs : Type 0
PayloadIs =
    (rest : List ℕ) (group : List (List ℕ))
    → (piece_of rest group).payload ≡ pointer_of rest group ++ useful rest group ++ replicate (184 - length (pointer_of rest group ++ useful rest group)) 255

-- The payloads without pointers and fill, joined, are the sections joined.
abbrev pub UsefulIsJoined : Type 0
UsefulIsJoined = (ps : List Piece) (ss : List (List ℕ)) (carries : Carries ps ss) → all_useful [] carries.groups ≡ joined ss
