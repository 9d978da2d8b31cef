-- The bytes of a field between its quotes, one by one.
use Rattle.std.proofs.Common.{◌≡◌, ◌≢◌, ℕ, List, [], ◌∷◌, ◌++◌, refl, ap, arith, true, false, inl, inr}
use Rattle.std.specs.Prelude.{◌==◌}
use Rattle.std.proofs.lemmas.Bool.{cases_Bool}
use Rattle.std.proofs.lemmas.Bool.Decides.{nat_tests}
use Rattle.csv.specs.Writing.{default_writer, escaped}

pub escaped_more : (xs : List ℕ) (b : ℕ) → escaped default_writer (xs ++ b ∷ []) ≡ escaped default_writer xs ++ escaped default_writer (b ∷ [])
unfolding escaped
escaped_more [] b = refl
escaped_more (x ∷ xs) b = elim (cases_Bool (x == 34)) [
  | inl is ↦ rw is (ap (λ (l : List ℕ). 34 ∷ x ∷ l) (escaped_more xs b))
  | inr not ↦ rw not (ap (λ (l : List ℕ). x ∷ l) (escaped_more xs b))
]

-- a quote is written twice, and any other byte once
pub escaped_quote : (b : ℕ) → b ≡ 34 → escaped default_writer (b ∷ []) ≡ 34 ∷ b ∷ []
unfolding escaped
escaped_quote b is = let same : (b == 34) ≡ true = grind (arith, nat_tests) in rw same refl

pub escaped_other : (b : ℕ) → b ≢ 34 → escaped default_writer (b ∷ []) ≡ b ∷ []
unfolding escaped
escaped_other b not = let other : (b == 34) ≡ false = grind (arith, nat_tests) in rw other refl

pub escaped_none : escaped default_writer [] ≡ []
unfolding escaped
escaped_none = refl
