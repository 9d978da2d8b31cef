-- What a reader's clauses say of its value, from what it is.
use Rattle.std.proofs.Common.{◌≡◌, ◌∙◌, refl, sym, ℕ, Option, Some, None, IfSome, subst}
use Rattle.std.specs.Prelude.{option_map, IsSome, ◌↔◌}
use Rattle.std.proofs.lemmas.Bool.{false≢true}
use Rattle.std.proofs.lemmas.Option.{none-some}

-- what holds of the number that a value stands for
pub each_value : {A : Type 0} (number : A → ℕ) (o : Option A) (r : Option ℕ) (P : ℕ → Type 0) → option_map number o ≡ r → ((t : ℕ) → r ≡ Some t → P t) → IfSome o (λ a. P (number a))
each_value number None r P e h = tt
each_value number (Some a) r P e h = subst (λ x. (t : ℕ) → x ≡ Some t → P t) (sym e) h (number a) refl

-- and when there is one
pub is_some_when : {A : Type 0} (number : A → ℕ) (o : Option A) (r : Option ℕ) (Q : Type 0) → option_map number o ≡ r → ((t : ℕ) → r ≡ Some t → Q) → (Q → (t : ℕ) × (r ≡ Some t)) → (IsSome o ↔ Q)
is_some_when number None r Q e h k = (λ s. absurd (false≢true s), λ q. absurd (none-some (k q).0 (e ∙ (k q).1)))
is_some_when number (Some a) r Q e h k = (λ _. h (number a) (sym e), λ _. refl)

pub each_number : (o r : Option ℕ) (P : ℕ → Type 0) → o ≡ r → ((t : ℕ) → r ≡ Some t → P t) → IfSome o P
each_number None r P e h = tt
each_number (Some n) r P e h = h n (sym e)
