-- Each table is the one before, moved on by a byte of zero.
use Rattle.std.proofs.Common.{◌≡◌, ℕ, zero, suc, ◌+◌, ◌*◌, ◌<◌, Bool, true, false, List, [], ◌∷◌, refl, sym, ap, ◌∙◌, arith, length}
use Rattle.std.specs.Prelude.{◌&&◌, ◌==◌, slice_index}
use Rattle.std.proofs.lemmas.Bool.{eqb-true, and_parts}
use Rattle.si_base.specs.Crc.{crc_bits, bits_of}
use Rattle.si_base.proofs.Linear.{zero_byte, zero_bytes, zero_bytes-none, zero_bytes-more, zero_bytes-last}
use Rattle.si_base.specs.declared.tables.TheConstants.{ZEROS_0, ZEROS_1, ZEROS_2, ZEROS_3, ZEROS_4, ZEROS_5, ZEROS_6, ZEROS_7}

-- each of these is the number of its place in the highest byte, moved on by a byte of zero
abbrev are_first : ℕ → List ℕ → Bool
are_first i [] = true
are_first i (t ∷ ts) = t == crc_bits (i * 16777216) (bits_of 0) && are_first (i + 1) ts

-- each of these is one of those, moved on by a byte of zero
abbrev are_moved : List ℕ → List ℕ → Bool
are_moved [] [] = true
are_moved [] (t ∷ ts) = false
are_moved (s ∷ ss) [] = false
are_moved (s ∷ ss) (t ∷ ts) = t == crc_bits s (bits_of 0) && are_moved ss ts

zeros_0_rule : are_first 0 ZEROS_0 ≡ true
zeros_0_rule = refl

zeros_1_rule : are_moved ZEROS_0 ZEROS_1 ≡ true
zeros_1_rule = refl

zeros_2_rule : are_moved ZEROS_1 ZEROS_2 ≡ true
zeros_2_rule = refl

zeros_3_rule : are_moved ZEROS_2 ZEROS_3 ≡ true
zeros_3_rule = refl

zeros_4_rule : are_moved ZEROS_3 ZEROS_4 ≡ true
zeros_4_rule = refl

zeros_5_rule : are_moved ZEROS_4 ZEROS_5 ≡ true
zeros_5_rule = refl

zeros_6_rule : are_moved ZEROS_5 ZEROS_6 ≡ true
zeros_6_rule = refl

zeros_7_rule : are_moved ZEROS_6 ZEROS_7 ≡ true
zeros_7_rule = refl

first_at : (i : ℕ) (ts : List ℕ) (k : ℕ) → are_first i ts ≡ true → k < length ts → slice_index ts k ≡ zero_byte ((i + k) * 16777216)
unfolding zero_byte
first_at i [] k r lt = absurd (omega arith)
first_at i (t ∷ ts) zero r lt =
    let e : i + 0 ≡ i = omega arith in
    rw e (eqb-true t (crc_bits (i * 16777216) (bits_of 0)) (and_parts (t == crc_bits (i * 16777216) (bits_of 0)) (are_first (i + 1) ts) r).0)
first_at i (t ∷ ts) (suc k) r lt =
    let e : i + suc k ≡ i + 1 + k = omega arith in
    rw e (first_at (i + 1) ts k (and_parts (t == crc_bits (i * 16777216) (bits_of 0)) (are_first (i + 1) ts) r).1 (omega arith))

moved_at : (ss ts : List ℕ) (k : ℕ) → are_moved ss ts ≡ true → k < length ts → slice_index ts k ≡ zero_byte (slice_index ss k)
unfolding zero_byte
moved_at [] [] k r lt = absurd (omega arith)
moved_at [] (t ∷ ts) k r lt = cc
moved_at (s ∷ ss) [] k r lt = cc
moved_at (s ∷ ss) (t ∷ ts) zero r lt =
    eqb-true t (crc_bits s (bits_of 0)) (and_parts (t == crc_bits s (bits_of 0)) (are_moved ss ts) r).0
moved_at (s ∷ ss) (t ∷ ts) (suc k) r lt =
    moved_at ss ts k (and_parts (t == crc_bits s (bits_of 0)) (are_moved ss ts) r).1 (omega arith)

-- an entry of the next table, where that of this one is known
next_at : (ss ts : List ℕ) (n k : ℕ) → are_moved ss ts ≡ true → k < length ts → slice_index ss k ≡ zero_bytes n (k * 16777216) → slice_index ts k ≡ zero_bytes (suc n) (k * 16777216)
next_at ss ts n k r lt e = moved_at ss ts k r lt ∙ ap zero_byte e ∙ sym (zero_bytes-last n (k * 16777216))

pub zeros_0_at : (k : ℕ) → k < 256 → slice_index ZEROS_0 k ≡ zero_bytes 1 (k * 16777216)
zeros_0_at k lt =
    first_at 0 ZEROS_0 k zeros_0_rule lt ∙ ap (λ n. zero_byte (n * 16777216)) (omega arith)
    ∙ sym (zero_bytes-none (zero_byte (k * 16777216))) ∙ sym (zero_bytes-more 0 (k * 16777216))

pub zeros_1_at : (k : ℕ) → k < 256 → slice_index ZEROS_1 k ≡ zero_bytes 2 (k * 16777216)
zeros_1_at k lt = next_at ZEROS_0 ZEROS_1 1 k zeros_1_rule lt (zeros_0_at k lt)

pub zeros_2_at : (k : ℕ) → k < 256 → slice_index ZEROS_2 k ≡ zero_bytes 3 (k * 16777216)
zeros_2_at k lt = next_at ZEROS_1 ZEROS_2 2 k zeros_2_rule lt (zeros_1_at k lt)

pub zeros_3_at : (k : ℕ) → k < 256 → slice_index ZEROS_3 k ≡ zero_bytes 4 (k * 16777216)
zeros_3_at k lt = next_at ZEROS_2 ZEROS_3 3 k zeros_3_rule lt (zeros_2_at k lt)

pub zeros_4_at : (k : ℕ) → k < 256 → slice_index ZEROS_4 k ≡ zero_bytes 5 (k * 16777216)
zeros_4_at k lt = next_at ZEROS_3 ZEROS_4 4 k zeros_4_rule lt (zeros_3_at k lt)

pub zeros_5_at : (k : ℕ) → k < 256 → slice_index ZEROS_5 k ≡ zero_bytes 6 (k * 16777216)
zeros_5_at k lt = next_at ZEROS_4 ZEROS_5 5 k zeros_5_rule lt (zeros_4_at k lt)

pub zeros_6_at : (k : ℕ) → k < 256 → slice_index ZEROS_6 k ≡ zero_bytes 7 (k * 16777216)
zeros_6_at k lt = next_at ZEROS_5 ZEROS_6 6 k zeros_6_rule lt (zeros_5_at k lt)

pub zeros_7_at : (k : ℕ) → k < 256 → slice_index ZEROS_7 k ≡ zero_bytes 8 (k * 16777216)
zeros_7_at k lt = next_at ZEROS_6 ZEROS_7 7 k zeros_7_rule lt (zeros_6_at k lt)
