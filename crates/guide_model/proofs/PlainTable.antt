-- The table of the plain set has for each byte 1 where it is a character of that set, and else 0.
use Rattle.std.proofs.Common.{◌≡◌, ◌∙◌, ℕ, zero, suc, ◌+◌, ◌<◌, Bool, true, false, List, [], ◌∷◌, length, refl, ap, arith}
use Rattle.std.specs.Prelude.{◌&&◌, ◌==◌, slice_index, if◌then◌else◌}
use Rattle.std.proofs.lemmas.Bool.{eqb-true, and_parts}
use Rattle.guide_model.specs.Coding.{is_plain}
use Rattle.guide_model.specs.declared.coding.TheConstants.{PLAIN}

abbrev entry : ℕ → ℕ
entry b = if is_plain b then 1 else 0

-- these are the entries from this byte on
abbrev are_entries : ℕ → List ℕ → Bool
are_entries b [] = true
are_entries b (t ∷ ts) = t == entry b && are_entries (b + 1) ts

table_rule : are_entries 0 PLAIN ≡ true
table_rule = refl

entry_at : (b : ℕ) (ts : List ℕ) (k : ℕ) → are_entries b ts ≡ true → k < length ts → slice_index ts k ≡ entry (b + k)
entry_at b [] k r lt = absurd (omega arith)
entry_at b (t ∷ ts) zero r lt =
    let e : b + 0 ≡ b = omega arith in
    rw e (eqb-true t (entry b) (and_parts (t == entry b) (are_entries (b + 1) ts) r).0)
entry_at b (t ∷ ts) (suc k) r lt =
    let e : b + suc k ≡ b + 1 + k = omega arith in
    rw e (entry_at (b + 1) ts k (and_parts (t == entry b) (are_entries (b + 1) ts) r).1 (omega arith))

told : (is : Bool) → ((if is then 1 else 0) == 1) ≡ is
told true = refl
told false = refl

pub plain_at : (b : ℕ) → b < 256 → (slice_index PLAIN b == 1) ≡ is_plain b
plain_at b lt =
    let place : 0 + b ≡ b = omega arith in
    ap (λ (t : ℕ). t == 1) (entry_at 0 PLAIN b table_rule lt ∙ ap (λ (n : ℕ). entry n) place) ∙ told (is_plain b)
