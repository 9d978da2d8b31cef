-- The first of a list that passes a test, sums of which a part adds nothing, and the slots that a search may leave out.
use Rattle.std.proofs.Common.{◌≡◌, ℕ, ◌+◌, ◌/◌, ◌<◌, ◌≤◌, Bool, true, false, not, inl, inr, List, length, take, drop, get_or, Some, None, eqb, ltb, refl, ◌∙◌, ap, arith, length-take, length-drop}
use Rattle.std.specs.List.{All, find, sum_by}
use Rattle.std.specs.List.Sorted.{IsNonDecreasingBy}
use Rattle.std.proofs.lemmas.Bool.{cond-false, and_left, and_right, le-ltb, ne_eqb, cases_lt}
use Rattle.std.proofs.lemmas.List.{get_or-take, get_or-drop}
use Rattle.std.proofs.lemmas.List.Recursion.{found_at, found_nowhere}
use Rattle.std.proofs.lemmas.List.Sums.{sum_by-le, sum_by-take-drop}
use Rattle.feed_book.specs.declared.index.IndexedEvent.{IndexedEvent}
use Rattle.guide_limits.specs.Events.{block_of}
use Rattle.feed_book.specs.Index.{is_in_the_way, share_of}

pub find_none : {X : Type 0} (p : X → Bool) (xs : List X) (d : X) → ((k : ℕ) → k < length xs → p (get_or xs k d) ≡ false) → find p xs ≡ None
find_none p = found_nowhere (find p) p Some None refl (λ x xs. refl)

pub find_first : {X : Type 0} (p : X → Bool) (xs : List X) (i : ℕ) (d : X) → i < length xs → ((k : ℕ) → k < i → p (get_or xs k d) ≡ false) → p (get_or xs i d) ≡ true → find p xs ≡ Some (get_or xs i d)
find_first p = found_at (find p) p Some None refl (λ x xs. refl)

-- sums of nothing, and of a list that adds nothing from a place on
sum_by-none : {X : Type 0} (f : X → ℕ) (xs : List X) → All (λ x. f x ≡ 0) xs → sum_by f xs ≡ 0
sum_by-none f xs h = omega (arith, sum_by-le f 0 xs (λ k d l. omega (arith, h k d l)))

pub sum_by-take_none : {X : Type 0} (f : X → ℕ) (xs : List X) (i : ℕ) → ((k : ℕ) (d : X) → k < i → f (get_or xs k d) ≡ 0) → sum_by f (take i xs) ≡ 0
sum_by-take_none f xs i h = sum_by-none f (take i xs) (λ k d l. let m : k < i = omega (arith, length-take i xs) in ap f (get_or-take i xs k d m) ∙ h k d m)

pub sum_by-rest_none : {X : Type 0} (f : X → ℕ) (xs : List X) (i : ℕ) → ((k : ℕ) (d : X) → i ≤ k → k < length xs → f (get_or xs k d) ≡ 0) → sum_by f (take i xs) ≡ sum_by f xs
sum_by-rest_none f xs i h =
    let rest = sum_by-none f (drop i xs) (λ k d l. ap f (get_or-drop i xs k d) ∙ h (i + k) d (omega arith) (omega (arith, length-drop i xs))) in
    omega (arith, rest, sum_by-take-drop f xs i)

-- a slot that ends too early or starts too late is not in the way
pub early_out : (slot other : IndexedEvent) → other.start + other.seconds ≤ slot.start → is_in_the_way slot other ≡ false
early_out slot other h = and_right (not (eqb other.id slot.id)) _ (and_right (ltb other.start (slot.start + slot.seconds)) _ (le-ltb _ _ h))

pub late_out : (slot other : IndexedEvent) → slot.start + slot.seconds ≤ other.start → is_in_the_way slot other ≡ false
late_out slot other h = and_right (not (eqb other.id slot.id)) _ (and_left (ltb other.start (slot.start + slot.seconds)) (ltb slot.start (other.start + other.seconds)) (le-ltb _ _ h))

-- a slot of another block adds nothing
pub other_block : (slot other : IndexedEvent) → (block_of other.start ≡ block_of slot.start → ⊥) → share_of slot other ≡ 0
other_block slot other h = cond-false _ _ _ (and_right (not (eqb other.id slot.id)) _ (ne_eqb _ _ h))

pub find_nowhere : (slot : IndexedEvent) (slots : List IndexedEvent) (i : ℕ) (d : IndexedEvent) → IsNonDecreasingBy (λ (s : IndexedEvent). s.start) slots → ((k : ℕ) → k < i → is_in_the_way slot (get_or slots k d) ≡ false) → i < length slots → slot.start + slot.seconds ≤ (get_or slots i d).start → find (is_in_the_way slot) slots ≡ None
find_nowhere slot slots i d rises before l late =
    find_none (is_in_the_way slot) slots d (λ k m. elim (cases_lt k i) [
      | inl b ↦ before k b
      | inr a ↦ let up : (get_or slots i d).start ≤ (get_or slots k d).start = rises i k d a m in late_out slot (get_or slots k d) (omega arith)
    ])

pub blocks_rise : (slots : List IndexedEvent) (i k : ℕ) (d : IndexedEvent) → IsNonDecreasingBy (λ (s : IndexedEvent). s.start) slots → i ≤ k → k < length slots → block_of (get_or slots i d).start ≤ block_of (get_or slots k d).start
blocks_rise slots i k d rises l m = divided (get_or slots i d).start (get_or slots k d).start (rises i k d l m)
  where
    divided : (a b : ℕ) → a ≤ b → a / 10800 ≤ b / 10800
    divided a b h = omega arith
