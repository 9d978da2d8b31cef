-- Parts of lists that pass a test, and the highest number that does.
use Rattle.std.proofs.Common.{◌≡◌, ℕ, zero, suc, ◌+◌, ◌<◌, ◌≤◌, Bool, true, false, inl, inr, List, [], ◌∷◌, ◌++◌, length, take, drop, get_or, Some, None, refl, sym, ap, ◌∙◌, arith, ltb}
use Rattle.std.specs.List.{filter, position, position_or_len}
use Rattle.std.proofs.lemmas.Bool.{cond-true, cond-false, lt-ltb, le-ltb, cases_lt, cases_Bool}
use Rattle.std.proofs.lemmas.List.Sums.{position_or_len_is}
use Rattle.eit_segments.specs.Schedule.{highest}

-- the first place that passes, and none
pub position_is : {X : Type 0} (p : X → Bool) (xs : List X) (i : ℕ) (d : X) → i < length xs → ((k : ℕ) → k < i → p (get_or xs k d) ≡ false) → p (get_or xs i d) ≡ true → position p xs ≡ Some i
position_is p xs i d l before here =
    let at : position_or_len p xs ≡ i = position_or_len_is p xs i d (omega arith) before (λ _. here) in
    cond-true (ltb (position_or_len p xs) (length xs)) (Some (position_or_len p xs)) None (lt-ltb (position_or_len p xs) (length xs) (omega arith)) ∙ ap Some at

pub position_none : {X : Type 0} (p : X → Bool) (xs : List X) (d : X) → ((k : ℕ) → k < length xs → p (get_or xs k d) ≡ false) → position p xs ≡ None
position_none p xs d none =
    let at : position_or_len p xs ≡ length xs = position_or_len_is p xs (length xs) d (omega arith) none (λ l. absurd (omega arith)) in
    cond-false (ltb (position_or_len p xs) (length xs)) (Some (position_or_len p xs)) None (le-ltb (position_or_len p xs) (length xs) (omega arith))

-- where just the elements from i up to j pass, they are those that pass
pub filter_none : {X : Type 0} (p : X → Bool) (xs : List X) (d : X) → ((k : ℕ) → k < length xs → p (get_or xs k d) ≡ false) → filter p xs ≡ []
filter_none p [] d h = refl
filter_none p (x ∷ xs) d h = cond-false (p x) (x ∷ filter p xs) (filter p xs) (h 0 (omega arith)) ∙ filter_none p xs d (λ k l. h (suc k) (omega arith))

pub filter_range : {X : Type 0} (p : X → Bool) (xs : List X) (i n : ℕ) (d : X)
    → ((k : ℕ) → k < i → p (get_or xs k d) ≡ false)
    → ((k : ℕ) → i ≤ k → k < i + n → k < length xs → p (get_or xs k d) ≡ true)
    → ((k : ℕ) → i + n ≤ k → k < length xs → p (get_or xs k d) ≡ false)
    → filter p xs ≡ take n (drop i xs)
filter_range p [] zero zero d low mid high = refl
filter_range p [] zero (suc n) d low mid high = refl
filter_range p [] (suc i) zero d low mid high = refl
filter_range p [] (suc i) (suc n) d low mid high = refl
filter_range p (x ∷ xs) zero zero d low mid high = filter_none p (x ∷ xs) d (λ k l. high k (omega arith) l)
filter_range p (x ∷ xs) zero (suc n) d low mid high =
    cond-true (p x) (x ∷ filter p xs) (filter p xs) (mid 0 (omega arith) (omega arith) (omega arith))
    ∙ ap (λ l. x ∷ l) (filter_range p xs 0 n d (λ k l. absurd (omega arith)) (λ k l m o. mid (suc k) (omega arith) (omega arith) (omega arith)) (λ k l m. high (suc k) (omega arith) (omega arith)))
filter_range p (x ∷ xs) (suc i) n d low mid high =
    cond-false (p x) (x ∷ filter p xs) (filter p xs) (low 0 (omega arith))
    ∙ filter_range p xs i n d (λ k l. low (suc k) (omega arith)) (λ k l m o. mid (suc k) (omega arith) (omega arith) (omega arith)) (λ k l m. high (suc k) (omega arith) (omega arith))

-- the highest number that passes
pub highest_none : (test : ℕ → Bool) (n : ℕ) → ((k : ℕ) → k < n → test k ≡ false) → highest test n ≡ 0
highest_none test zero h = refl
highest_none test (suc n) h = cond-false (test n) n (highest test n) (h n (omega arith)) ∙ highest_none test n (λ k l. h k (omega arith))

pub highest_is : (test : ℕ → Bool) (n i : ℕ) → i < n → test i ≡ true → ((k : ℕ) → i < k → k < n → test k ≡ false) → highest test n ≡ i
highest_is test zero i l t h = absurd (omega arith)
highest_is test (suc n) i l t h = elim (cases_lt i n) [
  | inl b ↦ cond-false (test n) n (highest test n) (h n b (omega arith)) ∙ highest_is test n i b t (λ k a c. h k a (omega arith))
  | inr a ↦ let same : n ≡ i = omega arith in cond-true (test n) n (highest test n) (ap test same ∙ t) ∙ same
]

pub highest_less : (test : ℕ → Bool) (n : ℕ) → 0 < n → highest test n < n
highest_less test zero some = absurd (omega arith)
highest_less test (suc n) some = elim (cases_Bool (test n)) [
  | inl h ↦ rw h (omega arith)
  | inr h ↦ rw h (below n)
]
  where
    below : (n : ℕ) → highest test n < suc n
    below zero = omega arith
    below (suc n) = elim (cases_Bool (test n)) [
      | inl h ↦ rw h (omega arith)
      | inr h ↦ rw h (omega (arith, below n))
    ]
