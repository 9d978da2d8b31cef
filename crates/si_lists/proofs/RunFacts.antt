-- Runs: how many there are, that each fits, and that a run may stand for its things.
use Rattle.std.proofs.Common.{◌≡◌, ℕ, ◌+◌, ◌-◌, ◌<◌, ◌≤◌, true, false, List, [], ◌∷◌, ◌++◌, length, flat_map, refl, sym, ap, ◌∙◌, subst, append_assoc, arith, inl, inr, nat_le, sum_by}
use Rattle.std.specs.List.{AllByRecursion}
use Rattle.std.proofs.lemmas.Bool.{le-leb, lt-leb}
use Rattle.std.proofs.lemmas.Bool.Decides.{leb_tells}
use Rattle.std.proofs.lemmas.List.Sums.{sum_by-append}
use Rattle.si_lists.specs.Runs.{cut, longest_runs, TakeNoMore, AreLongestRuns}

-- no more runs than things, or one
pub cut_some : {X : Type 0} (size : X → ℕ) (limit room : ℕ) (run xs : List X) → 0 < length (cut size limit room run xs)
cut_some size limit room run [] = omega arith
cut_some size limit room run (x ∷ xs) = elim (leb_tells (size x) room) [
  | inl e ↦ rw e.0 (cut_some size limit (room - size x) (run ++ x ∷ []) xs)
  | inr e ↦ rw e.0 (omega arith)
]

cut_few : {X : Type 0} (size : X → ℕ) (limit room : ℕ) (run xs : List X) → length (cut size limit room run xs) ≤ 1 + length xs
cut_few size limit room run [] = omega arith
cut_few size limit room run (x ∷ xs) = elim (leb_tells (size x) room) [
  | inl e ↦ rw e.0 (omega (arith, cut_few size limit (room - size x) (run ++ x ∷ []) xs))
  | inr e ↦ rw e.0 (omega (arith, cut_few size limit (limit - size x) (x ∷ []) xs))
]

pub runs_some : {X : Type 0} (size : X → ℕ) (limit : ℕ) (xs : List X) → 0 < length (longest_runs size limit xs)
runs_some size limit [] = omega arith
runs_some size limit (x ∷ xs) = cut_some size limit (limit - size x) (x ∷ []) xs

pub runs_few : {X : Type 0} (size : X → ℕ) (limit most : ℕ) (xs : List X) → 0 < most → length xs ≤ most → length (longest_runs size limit xs) ≤ most
runs_few size limit most [] some few = omega (arith, some)
runs_few size limit most (x ∷ xs) some few = omega (arith, few, cut_few size limit (limit - size x) (x ∷ []) xs)

-- the sizes in a run add up to no more than the limit, where each thing fits by itself
cut_fit : {X : Type 0} (size : X → ℕ) (limit room : ℕ) (run xs : List X) → sum_by size run + room ≤ limit → AllByRecursion (λ (x : X). size x ≤ limit) xs
    → AllByRecursion (λ (r : List X). sum_by size r ≤ limit) (cut size limit room run xs)
cut_fit size limit room run [] within each = (omega (arith, within), tt)
cut_fit size limit room run (x ∷ xs) within each = elim (leb_tells (size x) room) [
  | inl e ↦ rw e.0 (cut_fit size limit (room - size x) (run ++ x ∷ []) xs (omega (arith, within, e.1, sum_by-append size run (x ∷ []))) each.1)
  | inr e ↦ rw e.0 (omega (arith, within), cut_fit size limit (limit - size x) (x ∷ []) xs (omega (arith, each.0)) each.1)
]

pub runs_fit : {X : Type 0} (size : X → ℕ) (limit : ℕ) (xs : List X) → AllByRecursion (λ (x : X). size x ≤ limit) xs
    → AllByRecursion (λ (r : List X). sum_by size r ≤ limit) (longest_runs size limit xs)
runs_fit size limit [] each = (omega arith, tt)
runs_fit size limit (x ∷ xs) each = cut_fit size limit (limit - size x) (x ∷ []) xs (omega (arith, each.0)) each.1

-- the cut may begin with an empty run, where the first thing fits
pub runs_from_nothing : {X : Type 0} (size : X → ℕ) (limit : ℕ) (xs : List X) → AllByRecursion (λ (x : X). size x ≤ limit) xs
    → cut size limit limit [] xs ≡ longest_runs size limit xs
runs_from_nothing size limit [] each = refl
runs_from_nothing size limit (x ∷ xs) each =
    let fits : nat_le (size x) limit ≡ true = le-leb (size x) limit each.0 in rw fits refl

-- a thing that fits joins the run, another begins one
pub cut_joins : {X : Type 0} (size : X → ℕ) (limit room : ℕ) (run : List X) (x : X) (xs : List X) → size x ≤ room
    → cut size limit room run (x ∷ xs) ≡ cut size limit (room - size x) (run ++ x ∷ []) xs
cut_joins size limit room run x xs fits =
    let e : nat_le (size x) room ≡ true = le-leb (size x) room fits in rw e refl

pub cut_begins : {X : Type 0} (size : X → ℕ) (limit room : ℕ) (run : List X) (x : X) (xs : List X) → room < size x
    → cut size limit room run (x ∷ xs) ≡ run ∷ cut size limit (limit - size x) (x ∷ []) xs
cut_begins size limit room run x xs over =
    let e : nat_le (size x) room ≡ false = lt-leb (size x) room over in rw e refl

-- ---- the longest runs, in plain words

cut_join : {X : Type 0} (size : X → ℕ) (limit room : ℕ) (run xs : List X) → flat_map (λ (r : List X). r) (cut size limit room run xs) ≡ run ++ xs
cut_join size limit room run [] = refl
cut_join size limit room run (x ∷ xs) = elim (leb_tells (size x) room) [
  | inl e ↦ rw e.0 (cut_join size limit (room - size x) (run ++ x ∷ []) xs ∙ append_assoc run (x ∷ []) xs)
  | inr e ↦ rw e.0 (ap (λ l. run ++ l) (cut_join size limit (limit - size x) (x ∷ []) xs))
]

-- the first run begins with what was taken first
cut_front : {X : Type 0} (size : X → ℕ) (limit room : ℕ) (x : X) (run xs : List X) → (next : List X) × (runs : List (List X)) × (cut size limit room (x ∷ run) xs ≡ (x ∷ next) ∷ runs)
cut_front size limit room x run [] = (run, [], refl)
cut_front size limit room x run (y ∷ ys) = elim (leb_tells (size y) room) [
  | inl e ↦ rw e.0 (cut_front size limit (room - size y) x (run ++ y ∷ []) ys)
  | inr e ↦ rw e.0 (run, cut size limit (limit - size y) (y ∷ []) ys, refl)
]

cut_longest : {X : Type 0} (size : X → ℕ) (limit room : ℕ) (run xs : List X) → sum_by size run + room ≡ limit → AllByRecursion (λ (x : X). size x ≤ limit) xs → TakeNoMore size limit (cut size limit room run xs)
cut_longest size limit room run [] sum each = tt
cut_longest {X = X} size limit room run (x ∷ xs) sum each = elim (leb_tells (size x) room) [
  | inl e ↦ rw e.0 (cut_longest size limit (room - size x) (run ++ x ∷ []) xs (omega (arith, sum, e.1, sum_by-append size run (x ∷ []))) each.1)
  | inr e ↦
      let front = cut_front size limit (limit - size x) x [] xs in
      let over : limit < sum_by size run + size x = omega (arith, sum, e.1) in
      let rest = cut_longest size limit (limit - size x) (x ∷ []) xs (omega (arith, each.0)) each.1 in
      let taken : TakeNoMore size limit (run ∷ (x ∷ front.0) ∷ front.1) = (over, subst (TakeNoMore size limit) front.2 rest) in
      rw e.0 (subst (λ (l : List (List X)). TakeNoMore size limit (run ∷ l)) (sym front.2) taken)
]

pub are_longest : {X : Type 0} (size : X → ℕ) (limit : ℕ) (things : List X) → AllByRecursion (λ (x : X). size x ≤ limit) things → AreLongestRuns size limit things (longest_runs size limit things)
are_longest size limit [] each = record { join = refl; fit = (omega arith, tt); longest = tt }
are_longest size limit (x ∷ xs) each = record {
  join = cut_join size limit (limit - size x) (x ∷ []) xs;
  fit = runs_fit size limit (x ∷ xs) each;
  longest = cut_longest size limit (limit - size x) (x ∷ []) xs (omega (arith, each.0)) each.1;
}
