-- Lists in an order that a test gives, and one more at its place.
use Rattle.std.proofs.Common.{◌≡◌, ℕ, suc, ◌+◌, ◌≤◌, Bool, true, false, List, [], ◌∷◌, ◌++◌, length, take, drop, map, refl, sym, ap, ◌∙◌, arith, inl, inr}
use Rattle.std.specs.Prelude.{◌||◌, nat_lt, position, Option, Some, None}
use Rattle.std.specs.List.{AllByRecursion, list_any, position_or_len}
use Rattle.std.proofs.lemmas.Bool.{cases_Bool}
use Rattle.std.proofs.lemmas.Bool.Decides.{nat_tests}
use Rattle.std.proofs.lemmas.Option.{cond_some}
use Rattle.si_lists.proofs.Lists.{all_map}
use Rattle.si_lists.proofs.Truths.{none_not}
use Rattle.mux_model.specs.Order.{DoCome, all_placed, placed}

-- ---- what holds of each

pub all_with : {X : Type 0} (P : X → Type 0) (before : X → X → Bool) (x : X) (ys : List X) → P x → AllByRecursion P ys → AllByRecursion P (placed before x ys)
all_with P before x [] p h = (p, tt)
all_with P before x (y ∷ ys) p h = elim (cases_Bool (before x y)) [
  | inl e ↦ rw e (p, h)
  | inr e ↦ rw e (h.0, all_with P before x ys p h.1)
]

pub all_in_place : {X : Type 0} (P : X → Type 0) (before : X → X → Bool) (xs done : List X) → AllByRecursion P xs → AllByRecursion P done → AllByRecursion P (all_placed before xs done)
all_in_place P before [] done h d = d
all_in_place P before (x ∷ xs) done h d = all_in_place P before xs (placed before x done) h.1 (all_with P before x done h.0 d)

-- and of each of those that are placed
of_with : {X : Type 0} (P : X → Type 0) (before : X → X → Bool) (x : X) (ys : List X) → AllByRecursion P (placed before x ys) → P x × AllByRecursion P ys
of_with P before x [] h = (h.0, tt)
of_with P before x (y ∷ ys) h = elim (cases_Bool (before x y)) [
  | inl e ↦ (let w : AllByRecursion P (x ∷ y ∷ ys) = rw e at h in w)
  | inr e ↦
      let w : AllByRecursion P (y ∷ placed before x ys) = rw e at h in
      let rest = of_with P before x ys w.1 in
      (rest.0, (w.0, rest.1))
]

pub of_placed : {X : Type 0} (P : X → Type 0) (before : X → X → Bool) (xs done : List X) → AllByRecursion P (all_placed before xs done) → AllByRecursion P xs × AllByRecursion P done
of_placed P before [] done h = (tt, h)
of_placed P before (x ∷ xs) done h =
    let rest = of_placed P before xs (placed before x done) h in
    let here = of_with P before x done rest.1 in
    ((here.0, rest.0), here.1)

-- ---- one more, which comes before each or behind it

pub come_with : {X : Type 0} (before : X → X → Bool) (through : (a b c : X) → before a b ≡ true → before b c ≡ true → before a c ≡ true) (x : X) (ys : List X)
    → AllByRecursion (λ y. before x y ≡ false → before y x ≡ true) ys → DoCome before ys → DoCome before (placed before x ys)
come_with before through x [] new h = (tt, tt)
come_with before through x (y ∷ ys) new h = elim (cases_Bool (before x y)) [
  | inl e ↦ rw e ((e, all_map (λ z. before y z ≡ true) (λ z. before x z ≡ true) (λ z l. through x y z e l) ys h.0), h)
  | inr e ↦ rw e (all_with (λ z. before y z ≡ true) before x ys (new.0 e) h.0, come_with before through x ys new.1 h.1)
]

-- ---- one after another

pub placed_more : {X : Type 0} (before : X → X → Bool) (xs done : List X) (x : X) → all_placed before (xs ++ x ∷ []) done ≡ placed before x (all_placed before xs done)
placed_more before [] done x = refl
placed_more before (y ∷ xs) done x = placed_more before xs (placed before y done) x

pub placed_append : {X : Type 0} (before : X → X → Bool) (xs ys done : List X) → all_placed before (xs ++ ys) done ≡ all_placed before ys (all_placed before xs done)
placed_append before [] ys done = refl
placed_append before (x ∷ xs) ys done = placed_append before xs ys (placed before x done)

-- ---- how many there are, and whether one passes a test

pub length_with : {X : Type 0} (before : X → X → Bool) (x : X) (ys : List X) → length (placed before x ys) ≡ length ys + 1
length_with before x [] = refl
length_with before x (y ∷ ys) = elim (cases_Bool (before x y)) [
  | inl e ↦ rw e (omega arith)
  | inr e ↦ rw e (omega (arith, length_with before x ys))
]

pub length_placed : {X : Type 0} (before : X → X → Bool) (xs done : List X) → length (all_placed before xs done) ≡ length done + length xs
length_placed before [] done = omega arith
length_placed before (x ∷ xs) done = omega (arith, length_placed before xs (placed before x done), length_with before x done)

any_order : (a b c : Bool) → (a || (b || c)) ≡ (b || (a || c))
any_order true true c = refl
any_order true false c = refl
any_order false true c = refl
any_order false false c = refl

pub any_with : {X : Type 0} (test : X → Bool) (before : X → X → Bool) (x : X) (ys : List X) → list_any test (placed before x ys) ≡ (test x || list_any test ys)
any_with test before x [] = refl
any_with test before x (y ∷ ys) = elim (cases_Bool (before x y)) [
  | inl e ↦ rw e refl
  | inr e ↦ rw e (ap (λ (b : Bool). test y || b) (any_with test before x ys) ∙ any_order (test y) (test x) (list_any test ys))
]

any_last : (a b c : Bool) → ((a || b) || c) ≡ (b || (a || c))
any_last true true c = refl
any_last true false c = refl
any_last false true c = refl
any_last false false c = refl

pub any_placed : {X : Type 0} (test : X → Bool) (before : X → X → Bool) (xs done : List X) → list_any test (all_placed before xs done) ≡ (list_any test done || list_any test xs)
any_placed test before [] done = sym (last_or (list_any test done))
  where
    last_or : (b : Bool) → (b || false) ≡ b
    last_or true = refl
    last_or false = refl
any_placed test before (x ∷ xs) done =
    any_placed test before xs (placed before x done) ∙ ap (λ (b : Bool). b || list_any test xs) (any_with test before x done) ∙ any_last (test x) (list_any test done) (list_any test xs)

-- ---- through a function that keeps the order

pub map_with : {X Y : Type 0} (f : X → Y) (before : X → X → Bool) (above : Y → Y → Bool) → ((a b : X) → above (f a) (f b) ≡ before a b) → (x : X) (ys : List X) → map f (placed before x ys) ≡ placed above (f x) (map f ys)
map_with f before above same x [] = refl
map_with f before above same x (y ∷ ys) = elim (cases_Bool (before x y)) [
  | inl e ↦ rw (same x y, e) refl
  | inr e ↦ rw (same x y, e) (ap (λ l. f y ∷ l) (map_with f before above same x ys))
]

pub map_placed : {X Y : Type 0} (f : X → Y) (before : X → X → Bool) (above : Y → Y → Bool) → ((a b : X) → above (f a) (f b) ≡ before a b)
    → (xs done : List X) → map f (all_placed before xs done) ≡ all_placed above (map f xs) (map f done)
map_placed f before above same [] done = refl
map_placed f before above same (x ∷ xs) done = map_placed f before above same xs (placed before x done) ∙ ap (all_placed above (map f xs)) (map_with f before above same x done)

-- ---- its place

at_place : {X : Type 0} (before : X → X → Bool) (x : X) (ys : List X) → placed before x ys ≡ take (position_or_len (before x) ys) ys ++ x ∷ drop (position_or_len (before x) ys) ys
at_place before x [] = refl
at_place before x (y ∷ ys) = elim (cases_Bool (before x y)) [
  | inl e ↦ rw e refl
  | inr e ↦
      let n = position_or_len (before x) ys in
      let next : 1 + n ≡ suc n = omega arith in
      rw (e, next) (ap (λ l. y ∷ l) (at_place before x ys))
]

pub place_found : {X : Type 0} (before : X → X → Bool) (x : X) (ys : List X) (at : ℕ) → position (before x) ys ≡ Some at → placed before x ys ≡ take at ys ++ x ∷ drop at ys
place_found before x ys at e =
    let n = position_or_len (before x) ys in
    let here : n ≡ at = (cond_some (nat_lt n (length ys)) n at e).1 in
    at_place before x ys ∙ ap (λ (k : ℕ). take k ys ++ x ∷ drop k ys) here

within_len : {X : Type 0} (test : X → Bool) (ys : List X) → position_or_len test ys ≤ length ys
within_len test [] = omega arith
within_len test (y ∷ ys) = elim (cases_Bool (test y)) [
  | inl e ↦ rw e (omega arith)
  | inr e ↦ rw e (omega (arith, within_len test ys))
]

pub place_none : {X : Type 0} (before : X → X → Bool) (x : X) (ys : List X) → position (before x) ys ≡ None → placed before x ys ≡ take (length ys) ys ++ x ∷ drop (length ys) ys
place_none before x ys e =
    let n = position_or_len (before x) ys in
    let past = none_not (nat_lt n (length ys)) n e in
    let most = within_len (before x) ys in
    let here : n ≡ length ys = grind (arith, nat_tests) in
    at_place before x ys ∙ ap (λ (k : ℕ). take k ys ++ x ∷ drop k ys) here
