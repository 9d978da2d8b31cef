-- Bytes in whole packets (ISO/IEC 13818-1, 2.4.3.2).
use Rattle.std.specs.Prelude.{◌≡◌, ℕ, zero, suc, ◌/◌, List, [], ◌∷◌, length, take, drop}
use Rattle.std.specs.List.{AllByRecursion}

-- the first n pieces of 188 bytes
abbrev pub pieces : ℕ → List ℕ → List (List ℕ)
pieces zero bytes = []
pieces (suc n) bytes = take 188 bytes ∷ pieces n (drop 188 bytes)

-- the whole packets of an air; what stands behind the last of them is shorter
abbrev pub whole_packets : List ℕ → List (List ℕ)
whole_packets bytes = pieces (length bytes / 188) bytes

abbrev pub AreWhole : List (List ℕ) → Type 0
AreWhole packets = AllByRecursion (λ (p : List ℕ). length p ≡ 188) packets
