-- The first number that is not held, once one more is.
use Rattle.std.proofs.Common.{◌≡◌, ◌≢◌, ℕ, ◌+◌, ◌<◌, ◌≤◌, List, Bool, true, false, ◌==◌, refl, sym, ap, ◌∙◌, arith, eq-eqb, eqb-true, inl, inr, ◌⊎◌}
use Rattle.std.specs.Prelude.{if◌then◌else◌, Option, Some, None, is_some}
use Rattle.std.specs.Ordering.{nat_cmp}
use Rattle.std.specs.BTreeMap.{is_at}
use Rattle.std.specs.Map.{lookup}
use Rattle.std.proofs.lemmas.Bool.{cases_lt}
use Rattle.sub_collect.specs.Collectors.{body_in, IsFront}
use Rattle.sub_collect.specs.Slots.{held_with}
use Rattle.sub_collect.proofs.Slots.{body_in-get}

pub is_some-none : {X : Type 0} (o : Option X) → is_some o ≡ false → o ≡ None
is_some-none None e = refl
is_some-none (Some x) e = cc

pub apart : (a b : ℕ) → a ≢ b → (a == b) ≡ false
apart a b other = go (a == b) refl
  where
    go : (x : Bool) → (a == b) ≡ x → (a == b) ≡ false
    go true e = absurd (other (eqb-true a b e))
    go false e = e

module _ (held : ℕ → Option (List ℕ)) (number : ℕ) (body : List ℕ) where
  with_here : (n : ℕ) → n ≡ number → held_with held number body n ≡ Some body
  with_here n e = ap (λ (b : Bool). if b then Some body else held n) (eq-eqb n number e)

  pub with_other : (n : ℕ) → n ≢ number → held_with held number body n ≡ held n
  with_other n e = ap (λ (b : Bool). if b then Some body else held n) (apart n number e)

  -- the front number itself is put: the front moves on to the next gap
  pub front-moves : IsFront held number → (front : ℕ) → number < front → ((n : ℕ) → number < n → n < front → is_some (held n) ≡ true) → (front < 256 → held front ≡ None)
      → IsFront (held_with held number body) front
  front-moves is front lt between gap = record {
    below = λ (n : ℕ) (below : n < front). go n below (n == number) refl;
    gap = λ (within : front < 256). with_other front (λ (e : front ≡ number). absurd (omega arith)) ∙ gap within;
  }
    where
      which : (n : ℕ) → n < front → n ≢ number → (n < number) ⊎ (number ≤ n) → is_some (held n) ≡ true
      which n below other (inl h) = is.below n h
      which n below other (inr h) = between n (omega arith) below

      go : (n : ℕ) → n < front → (b : Bool) → (n == number) ≡ b → is_some (held_with held number body n) ≡ true
      go n below true e = ap is_some (with_here n (eqb-true n number e))
      go n below false e =
          let other : n ≢ number = λ (same : n ≡ number). (let f : true ≡ false = sym (eq-eqb n number same) ∙ e in let z : Prim.⊥ = cc in z) in
          ap is_some (with_other n other) ∙ which n below other (cases_lt n number)

-- the map tells whether a number is held
pub held-get : (es : List (ℕ × List ℕ)) (n : ℕ) (b : Bool) → b ≡ is_some (lookup (is_at (nat_cmp n)) es) → is_some (body_in n es) ≡ b
held-get es n b e = ap is_some (sym (body_in-get n es)) ∙ sym e

pub held-more : (held : ℕ → Option (List ℕ)) (number front : ℕ) → ((n : ℕ) → number < n → n < front → is_some (held n) ≡ true) → is_some (held front) ≡ true
    → (n : ℕ) → number < n → n < front + 1 → is_some (held n) ≡ true
held-more held number front between here n above below = go (cases_lt n front)
  where
    go : (n < front) ⊎ (front ≤ n) → is_some (held n) ≡ true
    go (inl h) = between n above h
    go (inr h) =
        let e : n ≡ front = omega arith in
        ap (λ (k : ℕ). is_some (held k)) e ∙ here
