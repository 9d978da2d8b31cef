-- Bytes behind their length are read back.
use Rattle.std.proofs.Common.{◌≡◌, ◌∙◌, ℕ, Bool, true, List, ◌++◌, length, take, drop, Option, Some, None, refl, ap, arith, length-append}
use Rattle.std.specs.Prelude.{nat_le, if◌then◌else◌}
use Rattle.std.proofs.lemmas.Bool.{le-leb, eq-eqb}
use Rattle.std.proofs.Math.Seq.{take-append_seam, drop-append_seam}
use Rattle.descriptors.specs.Lengths.{with_length, split_length, behind_length, LengthsReadBack}

split_back : (bytes rest : List ℕ) → split_length (with_length bytes ++ rest) ≡ Some (bytes, rest)
split_back bytes rest =
    let whole : nat_le (length bytes) (length (bytes ++ rest)) ≡ true = le-leb (length bytes) (length (bytes ++ rest)) (omega (arith, length-append bytes rest)) in
    ap (λ (b : Bool). let r : Option (List ℕ × List ℕ) = if b then Some (take (length bytes) (bytes ++ rest), drop (length bytes) (bytes ++ rest)) else None in r) whole
    ∙ ap (λ (p : List ℕ × List ℕ). Some p) (λ i. (take-append_seam bytes rest i, drop-append_seam bytes rest i))

behind_back : (bytes : List ℕ) → behind_length (with_length bytes) ≡ Some bytes
behind_back bytes = ap (λ (b : Bool). let r : Option (List ℕ) = if b then Some bytes else None in r) (eq-eqb (length bytes) (length bytes) refl)

pub lengths-read_back : LengthsReadBack
lengths-read_back = record { split = split_back; whole = behind_back }
