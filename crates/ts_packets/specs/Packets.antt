-- Packets of one PID, and the sections that they carry (ISO/IEC 13818-1, 2.4.3.2 and 2.4.4.2).
use Rattle.std.specs.Prelude.{◌≡◌, ℕ, zero, suc, ◌+◌, ◌/◌, ◌<◌, List, [], ◌∷◌, ◌++◌, Bool, true, false, if◌then◌else◌, nat_lt, length, take, drop, flat_map}

-- what of a packet matters to sections: payload_unit_start_indicator and the payload
pub record Piece : Type 0 where
  pub start : Bool
  pub payload : List ℕ

-- a payload fills its packet: 188 bytes less the header's four
abbrev pub IsWhole : Piece → Type 0
IsWhole p = length p.payload ≡ 184

abbrev pub joined : List (List ℕ) → List ℕ
joined ss = flat_map (λ (s : List ℕ). s) ss

-- the first n bytes, or all of them and then fill
abbrev pub filled : ℕ → List ℕ → List ℕ
filled zero bytes = []
filled (suc n) [] = 255 ∷ filled n []
filled (suc n) (b ∷ bytes) = b ∷ filled n bytes

-- the packet that goes on with the rest of a section, and in which these sections begin
abbrev pub piece_of : List ℕ → List (List ℕ) → Piece
piece_of rest [] = record { start = false; payload = filled 184 rest }
piece_of rest (s ∷ ss) = record { start = true; payload = length rest ∷ filled 183 (rest ++ joined (s ∷ ss)) }

-- what is still to come of the last section behind that packet
abbrev pub left_by : List ℕ → List (List ℕ) → List ℕ
left_by rest [] = drop 184 rest
left_by rest (s ∷ ss) = drop 183 (rest ++ joined (s ∷ ss))

-- each of these sections has its first byte in a packet, n bytes of which are taken
abbrev pub Begin : ℕ → List (List ℕ) → Type 0
Begin n [] = Unit {0}
Begin n (s ∷ ss) = (n < 183) × Begin (n + length s) ss

-- a packet has a byte of some section
abbrev pub HasSectionByte : List ℕ → List (List ℕ) → Type 0
HasSectionByte rest [] = 0 < length rest
HasSectionByte rest (s ∷ ss) = Begin (length rest) (s ∷ ss)

-- a group for each packet: the sections that begin in it
abbrev pub pieces : List ℕ → List (List (List ℕ)) → List Piece
pieces rest [] = []
pieces rest (group ∷ groups) = piece_of rest group ∷ pieces (left_by rest group) groups

abbrev pub left : List ℕ → List (List (List ℕ)) → List ℕ
left rest [] = rest
left rest (group ∷ groups) = left (left_by rest group) groups

abbrev pub HaveSectionBytes : List ℕ → List (List (List ℕ)) → Type 0
HaveSectionBytes rest [] = Unit {0}
HaveSectionBytes rest (group ∷ groups) = HasSectionByte rest group × HaveSectionBytes (left_by rest group) groups

abbrev pub all_of : List (List (List ℕ)) → List (List ℕ)
all_of groups = flat_map (λ (group : List (List ℕ)). group) groups

-- These packets of one PID carry these sections, however densely they share packets.
pub record Carries (ps : List Piece) (ss : List (List ℕ)) : Type 0 where
  pub groups : List (List (List ℕ))
  pub are : ps ≡ pieces [] groups
  pub have_room : HaveSectionBytes [] groups
  pub sections : ss ≡ all_of groups
  pub ended : left [] groups ≡ []

-- To read `Carries` by: a payload is the pointer, if a section begins in it, the bytes of sections, and fill.
abbrev pub pointer_of : List ℕ → List (List ℕ) → List ℕ
pointer_of rest [] = []
pointer_of rest (s ∷ ss) = length rest ∷ []

abbrev pub useful : List ℕ → List (List ℕ) → List ℕ
useful rest [] = take 184 rest
useful rest (s ∷ ss) = take 183 (rest ++ joined (s ∷ ss))

abbrev pub all_useful : List ℕ → List (List (List ℕ)) → List ℕ
all_useful rest [] = []
all_useful rest (group ∷ groups) = useful rest group ++ all_useful (left_by rest group) groups

-- a section alone: it begins in the first of its packets; n bounds their number
abbrev pub goes_alone : ℕ → List ℕ → List (List (List ℕ))
goes_alone zero rest = []
goes_alone (suc n) [] = []
goes_alone (suc n) (b ∷ rest) = [] ∷ goes_alone n (drop 184 (b ∷ rest))

abbrev pub alone : List ℕ → List (List (List ℕ))
alone s = (s ∷ []) ∷ goes_alone (length s) (drop 183 s)

-- how many packets a section of len bytes has alone: the pointer and the section, by 184 bytes
abbrev pub packets_of : ℕ → ℕ
packets_of len = (len + 1 + 183) / 184

-- ---- sections that share packets

-- the sections that can begin in a packet, n bytes of which are taken, and the others
abbrev pub beginning : ℕ → List (List ℕ) → List (List ℕ)
beginning n [] = []
beginning n (s ∷ ss) = if nat_lt n 183 then s ∷ beginning (n + length s) ss else []

abbrev pub waiting : ℕ → List (List ℕ) → List (List ℕ)
waiting n [] = []
waiting n (s ∷ ss) = if nat_lt n 183 then waiting (n + length s) ss else s ∷ ss

-- as many sections as can begin in each packet; m bounds the number of packets
abbrev pub packed : ℕ → List ℕ → List (List ℕ) → List (List (List ℕ))
packed zero rest ss = []
packed (suc m) [] [] = []
packed (suc m) [] (s ∷ ss) = beginning 0 (s ∷ ss) ∷ packed m (left_by [] (beginning 0 (s ∷ ss))) (waiting 0 (s ∷ ss))
packed (suc m) (b ∷ rest) ss =
    beginning (length (b ∷ rest)) ss ∷ packed m (left_by (b ∷ rest) (beginning (length (b ∷ rest)) ss)) (waiting (length (b ∷ rest)) ss)

-- a stretch: sections that follow each other, packed from an empty packet on; each has a byte, so these packets are enough
abbrev pub stretch : List (List ℕ) → List (List (List ℕ))
stretch ss = packed (length (joined ss)) [] ss
