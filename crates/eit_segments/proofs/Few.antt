-- Events within their limits: they are in order, and those of a block fit eight sections.
use Rattle.std.proofs.Common.{◌≡◌, ℕ, ◌+◌, ◌-◌, ◌*◌, ◌≤◌, Bool, inl, inr, List, [], ◌∷◌, ◌++◌, length, map, refl, sym, ap, ap₂, ◌∙◌, arith, eqb, cond}
use Rattle.std.specs.Prelude.{sum_by}
use Rattle.std.specs.List.{AllByRecursion, filter}
use Rattle.std.proofs.lemmas.Bool.{cases_Bool, cond-true, cond-false}
use Rattle.std.proofs.lemmas.Bool.Decides.{leb_tells}
use Rattle.std.proofs.lemmas.List.Sums.{sum_by-cons}
use Rattle.guide_model.specs.declared.event.Event.{Event}
use Rattle.descriptors.specs.EventDescriptors.{entry_size}
use Rattle.si_lists.specs.Runs.{cut}
use Rattle.guide_limits.specs.Events.{start_of, end_of, block_size}
use Rattle.guide_limits.specs.Sound.{IsBefore, AreApart}
use Rattle.eit_segments.specs.declared.event.EventAt.{EventAt}
use Rattle.eit_segments.specs.Placement.{AreInOrder, start_block, end_at, in_block}
use Rattle.eit_segments.specs.Schedule.{section_runs, block_runs}
use Rattle.eit_segments.specs.Laws.{at_of, EventsCanBePlaced}

-- a run that is closed has more than 2,500 bytes
cut_few : {X : Type 0} (size : X → ℕ) (room : ℕ) (run xs : List X) → room ≤ 4078 → AllByRecursion (λ (x : X). size x ≤ 1578) xs
    → 2501 * length (cut size 4078 room run xs) ≤ 2501 + (4078 - room) + sum_by size xs
cut_few size room run [] le small = omega arith
cut_few size room run (x ∷ xs) le small =
    let sum = sum_by-cons size x xs in
    elim (leb_tells (size x) room) [
      | inl e ↦ rw e.0 (omega (arith, e.1, sum, cut_few size (room - size x) (run ++ x ∷ []) xs (omega arith) small.1))
      | inr e ↦ rw e.0 (omega (arith, e.1, sum, small.0, cut_few size (4078 - size x) (x ∷ []) xs (omega arith) small.1))
    ]

-- what passes a test, and its sizes
pub filter_all : {X : Type 0} (P : X → Type 0) (p : X → Bool) (xs : List X) → AllByRecursion P xs → AllByRecursion P (filter p xs)
filter_all P p [] h = tt
filter_all P p (x ∷ xs) h = elim (cases_Bool (p x)) [
  | inl e ↦ rw e (h.0, filter_all P p xs h.1)
  | inr e ↦ rw e (filter_all P p xs h.1)
]

filter_sum : {X : Type 0} (size : X → ℕ) (p : X → Bool) (xs : List X) → sum_by size (filter p xs) ≡ sum_by (λ (x : X). cond (p x) (size x) 0) xs
filter_sum size p [] = refl
filter_sum {X} size p (x ∷ xs) =
    let some : X → ℕ = λ (y : X). cond (p y) (size y) 0 in
    let more = sum_by-cons some x xs in
    elim (cases_Bool (p x)) [
      | inl e ↦
          ap (sum_by size) (cond-true (p x) (x ∷ filter p xs) (filter p xs) e) ∙ sum_by-cons size x (filter p xs) ∙ ap₂ (λ (a b : ℕ). a + b) (sym (cond-true (p x) (size x) 0 e)) (filter_sum size p xs) ∙ sym more
      | inr e ↦
          let none : some x ≡ 0 = cond-false (p x) (size x) 0 e in
          ap (sum_by size) (cond-false (p x) (x ∷ filter p xs) (filter p xs) e) ∙ omega (arith, none, more, filter_sum size p xs)
    ]

pub block_fits : (block : ℕ) (events : List EventAt) → AllByRecursion (λ (e : EventAt). e.size ≤ 1578) events → sum_by (λ (e : EventAt). e.size) (in_block block events) ≤ 20000
    → length (block_runs block events) ≤ 8
block_fits block events small bytes = go (in_block block events) (filter_all (λ (e : EventAt). e.size ≤ 1578) (λ (e : EventAt). eqb (start_block e) block) events small) bytes
  where
    go : (es : List EventAt) → AllByRecursion (λ (e : EventAt). e.size ≤ 1578) es → sum_by (λ (e : EventAt). e.size) es ≤ 20000 → length (section_runs es) ≤ 8
    go [] small bytes = omega arith
    go (e ∷ es) small bytes =
        omega (arith, bytes, small.0, sum_by-cons (λ (x : EventAt). x.size) e es, cut_few (λ (x : EventAt). x.size) (4078 - e.size) (e ∷ []) es (omega arith) small.1)

-- events that are apart are in order
all_before : (e : Event) (events : List Event) → AllByRecursion (IsBefore e) events → AllByRecursion (λ (later : EventAt). end_at (at_of e) ≤ later.start.0) (map at_of events)
all_before e [] h = tt
all_before e (f ∷ events) h = (let g : end_of e ≤ start_of f = (h.0).0 in g, all_before e events h.1)

pub in_order : (events : List Event) → AreApart events → AreInOrder (map at_of events)
in_order [] apart = tt
in_order (e ∷ events) apart = (all_before e events apart.1, in_order events apart.2)

all_sizes : (most n : ℕ) → most ≤ n → (events : List Event) → AllByRecursion (λ (e : Event). entry_size e ≤ most) events → AllByRecursion (λ (e : EventAt). e.size ≤ n) (map at_of events)
all_sizes most n le [] h = tt
all_sizes most n le (e ∷ events) h = (omega (arith, h.0, le), all_sizes most n le events h.1)

pub sum_map : {X Y : Type 0} (f : X → Y) (g : Y → ℕ) (xs : List X) → sum_by g (map f xs) ≡ sum_by (λ (x : X). g (f x)) xs
sum_map f g [] = refl
sum_map f g (x ∷ xs) = sum_by-cons g (f x) (map f xs) ∙ ap (λ (n : ℕ). g (f x) + n) (sum_map f g xs) ∙ sym (sum_by-cons (λ y. g (f y)) x xs)

block_bytes : (block : ℕ) (events : List Event) → sum_by (λ (e : EventAt). e.size) (in_block block (map at_of events)) ≡ block_size block events
block_bytes block events =
    filter_sum (λ (e : EventAt). e.size) (λ (e : EventAt). eqb (start_block e) block) (map at_of events)
    ∙ sum_map at_of (λ (e : EventAt). cond (eqb (start_block e) block) e.size 0) events

pub events_can_be_placed : EventsCanBePlaced
events_can_be_placed events within small = record {
  order = in_order events within.apart;
  small = all_sizes 1578 4078 (omega arith) events small;
  fit = λ block. block_fits block (map at_of events) (all_sizes 1578 1578 (omega arith) events small) (omega (arith, block_bytes block events, within.blocks block));
}
