-- How many of a list pass a test, and the services of other streams by it.
use Rattle.std.proofs.Common.{◌≡◌, ◌≢◌, ℕ, ◌+◌, ◌≤◌, ◌==◌, Bool, true, false, cond, List, [], ◌∷◌, ◌++◌, length, map, Option, Some, None, refl, sym, ap, ◌∙◌, arith, inl, inr, eq-eqb}
use Rattle.std.specs.Prelude.{◌&&◌, ◌||◌, nat_lt}
use Rattle.std.specs.List.{AllByRecursion, cons_option, flat_map, fold}
use Rattle.std.proofs.lemmas.Bool.{cases_Bool, eqb-true}
use Rattle.std.proofs.lemmas.Bool.Decides.{nat_tests}
use Rattle.si_lists.proofs.Lists.{all_map}
use Rattle.si_lists.proofs.Truths.{first_true, second_true}
use Rattle.mux_model.specs.declared.mux.MuxService.{MuxService}
use Rattle.mux_model.specs.declared.mux.RemoteService.{RemoteService}
use Rattle.mux_model.specs.declared.mux.Other.{Other}
use Rattle.mux_model.specs.Order.{DoCome, all_placed, placed}
use Rattle.mux_model.specs.Sound.{AreDifferent, comes_before, has_lower_id, has_stream_ids, remote_services}
use Rattle.mux_lines.specs.declared.record.Record.{Record}
use Rattle.mux_lines.specs.declared.record.Record.TheVariants.{Service, Remote}
use Rattle.mux_lines.specs.declared.record.Numbered.{Numbered}
use Rattle.mux_config.specs.Descriptions.{all_of, has_any_id, insert, remote_in, remote_of, service_in, sorted, with_own, with_remotes}

abbrev pub tally : {X : Type 0} → (X → Bool) → List X → ℕ
tally test [] = 0
tally test (x ∷ xs) = cond (test x) (1 + tally test xs) (tally test xs)

-- ---- lists

pub tally_append : {X : Type 0} (test : X → Bool) (xs ys : List X) → tally test (xs ++ ys) ≡ tally test xs + tally test ys
tally_append test [] ys = omega arith
tally_append test (x ∷ xs) ys = elim (cases_Bool (test x)) [
  | inl e ↦ rw e (omega (arith, tally_append test xs ys))
  | inr e ↦ rw e (tally_append test xs ys)
]

pub tally_with : {X : Type 0} (test : X → Bool) (before : X → X → Bool) (x : X) (ys : List X) → tally test (placed before x ys) ≡ tally test (x ∷ []) + tally test ys
tally_with test before x [] = omega arith
tally_with test before x (y ∷ ys) = elim (cases_Bool (before x y)) [
  | inl e ↦ rw e (tally_append test (x ∷ []) (y ∷ ys))
  | inr e ↦ rw e (omega (arith, tally_append test (y ∷ []) (placed before x ys), tally_append test (y ∷ []) ys, tally_with test before x ys))
]

pub tally_placed : {X : Type 0} (test : X → Bool) (before : X → X → Bool) (xs done : List X) → tally test (all_placed before xs done) ≡ tally test done + tally test xs
tally_placed test before [] done = omega arith
tally_placed test before (x ∷ xs) done = omega (arith, tally_placed test before xs (placed before x done), tally_with test before x done, tally_append test (x ∷ []) xs)

tally_insert : (test : MuxService → Bool) (s : MuxService) (ts : List MuxService) → tally test (insert s ts) ≡ tally test (s ∷ []) + tally test ts
tally_insert test s [] = omega arith
tally_insert test s (t ∷ ts) = elim (cases_Bool (nat_lt s.service t.service)) [
  | inl e ↦ rw e (tally_append test (s ∷ []) (t ∷ ts))
  | inr e ↦ rw e (omega (arith, tally_append test (t ∷ []) (insert s ts), tally_append test (t ∷ []) ts, tally_insert test s ts))
]

sorted_from : (test : MuxService → Bool) (xs done : List MuxService) → tally test (fold (λ (d : List MuxService) (x : MuxService). insert x d) done xs) ≡ tally test done + tally test xs
sorted_from test [] done = omega arith
sorted_from test (x ∷ xs) done = omega (arith, sorted_from test xs (insert x done), tally_insert test x done, tally_append test (x ∷ []) xs)

pub tally_sorted : (test : MuxService → Bool) (xs : List MuxService) → tally test (sorted xs) ≡ tally test xs
tally_sorted test xs = let e = sorted_from test xs [] in omega (arith, e)

pub tally_map : {X Y : Type 0} (test : Y → Bool) (f : X → Y) (xs : List X) → tally test (map f xs) ≡ tally (λ (x : X). test (f x)) xs
tally_map test f [] = refl
tally_map test f (x ∷ xs) = ap (λ (n : ℕ). cond (test (f x)) (1 + n) n) (tally_map test f xs)

pub tally_each : {X : Type 0} (xs : List X) → tally (λ (x : X). true) xs ≡ length xs
tally_each [] = refl
tally_each (x ∷ xs) = omega (arith, tally_each xs)

pub tally_none : {X : Type 0} (test : X → Bool) (xs : List X) → AllByRecursion (λ x. test x ≡ false) xs → tally test xs ≡ 0
tally_none test [] h = refl
tally_none test (x ∷ xs) h = rw h.0 (tally_none test xs h.1)

-- ---- numbers, none of which stands twice

none_same : (n : ℕ) (xs : List ℕ) → tally (λ m. m == n) xs ≡ 0 → AllByRecursion (λ m. n ≢ m) xs
none_same n [] e = tt
none_same n (x ∷ xs) e = elim (cases_Bool (x == n)) [
  | inl same ↦ absurd (let w : 1 + tally (λ m. m == n) xs ≡ 0 = rw same at e in omega (arith, w))
  | inr other ↦ ((λ (is : n ≡ x). absurd (let w = eq-eqb x n (sym is) in cc (sym other ∙ w))), none_same n xs (rw other at e))
]

pub different_of : (xs : List ℕ) → ((n : ℕ) → tally (λ m. m == n) xs ≤ 1) → AreDifferent xs
different_of [] h = tt
different_of (x ∷ xs) h = (
  (let here : 1 + tally (λ m. m == x) xs ≤ 1 = rw (eq-eqb x x refl) at (h x) in none_same x xs (omega (arith, here))),
  different_of xs (λ n. let e = tally_append (λ m. m == n) (x ∷ []) xs in omega (arith, h n, e)),
)

-- ---- own services and those of other streams

either_with : (id : ℕ) (says : Record) (ss : List MuxService) (ts : List RemoteService) (n : ℕ) → tally (λ (s : MuxService). s.service == id) ss + tally (λ (s : RemoteService). s.service == id) ts ≡ n
    → tally (λ (s : MuxService). s.service == id) (cons_option (service_in says) ss) + tally (λ (s : RemoteService). s.service == id) (cons_option (remote_in says) ts) ≡ cond (has_any_id id says) (1 + n) n
either_with id (Service s) ss ts n e = elim (cases_Bool (s.service == id)) [
  | inl is ↦ rw is (omega (arith, e))
  | inr other ↦ rw other e
]
either_with id (Remote a b s) ss ts n e = elim (cases_Bool (s.service == id)) [
  | inl is ↦ rw is (omega (arith, e))
  | inr other ↦ rw other e
]
either_with id other ss ts n e = e

pub tally_either : (id : ℕ) (rs : List Numbered)
    → tally (λ (s : MuxService). s.service == id) (all_of service_in rs) + tally (λ (s : RemoteService). s.service == id) (all_of remote_in rs) ≡ tally (λ (r : Numbered). has_any_id id r.says) rs
tally_either id [] = refl
tally_either id (r ∷ rs) = either_with id r.says (all_of service_in rs) (all_of remote_in rs) (tally (λ (r : Numbered). has_any_id id r.says) rs) (tally_either id rs)

-- ---- the services of streams that are told apart

-- those of each stream in turn
abbrev pub of_each : List Numbered → List Other → List RemoteService
of_each rs others = flat_map (λ (o : Other). all_of (remote_of o.stream o.original) rs) others

-- and with one record more
abbrev with_record : Record → List Numbered → List Other → List RemoteService
with_record says rs others = flat_map (λ (o : Other). cons_option (remote_of o.stream o.original says) (all_of (remote_of o.stream o.original) rs)) others

pub tally_remotes : (test : RemoteService → Bool) (rs : List Numbered) (others : List Other)
    → tally test (remote_services (map (with_remotes rs) others)) ≡ tally (λ (s : RemoteService). test (with_own rs s)) (of_each rs others)
tally_remotes test rs [] = refl
tally_remotes test rs (o ∷ others) =
    let own = all_of (remote_of o.stream o.original) rs in
    let said = λ (s : RemoteService). test (with_own rs s) in
    omega (
      arith,
      tally_append test (map (with_own rs) (all_placed has_lower_id own [])) (remote_services (map (with_remotes rs) others)),
      tally_map test (with_own rs) (all_placed has_lower_id own []),
      tally_placed said has_lower_id own [],
      tally_append said own (of_each rs others),
      tally_remotes test rs others,
    )

of_each_none : (test : RemoteService → Bool) (others : List Other) → tally test (of_each [] others) ≡ 0
of_each_none test [] = refl
of_each_none test (o ∷ others) = of_each_none test others

one_with : (test : RemoteService → Bool) (a b : ℕ) (s : RemoteService) (rs : List Numbered) (others : List Other)
    → tally test (with_record (Remote a b s) rs others) ≡ tally test (of_each rs others) + cond (test s) (tally (has_stream_ids a b) others) 0
one_with test a b s rs [] = elim (cases_Bool (test s)) [
  | inl e ↦ rw e refl
  | inr e ↦ rw e refl
]
one_with test a b s rs (o ∷ others) =
    let own = all_of (remote_of o.stream o.original) rs in
    let rest = with_record (Remote a b s) rs others in
    let one = tally_append test own rest in
    let two = tally_append test own (of_each rs others) in
    let next = one_with test a b s rs others in
    elim (cases_Bool (a == o.stream && b == o.original)) [
      | inl here ↦ rw here (elim (cases_Bool (test s)) [
        | inl e ↦ rw e (let n : tally test rest ≡ tally test (of_each rs others) + tally (has_stream_ids a b) others = rw e at next in omega (arith, one, two, n))
        | inr e ↦ rw e (let n : tally test rest ≡ tally test (of_each rs others) + 0 = rw e at next in omega (arith, one, two, n))
      ])
      | inr there ↦ rw there (omega (arith, one, two, next))
    ]

-- a stream is one of those at most
not_both : (a b : ℕ) (o p : Other) → has_stream_ids a b o ≡ true → comes_before o p ≡ true → has_stream_ids a b p ≡ false
not_both a b o p is less = elim (cases_Bool (has_stream_ids a b p)) [
  | inl too ↦
      let s = eqb-true a o.stream (first_true (a == o.stream) (b == o.original) is) in
      let t = eqb-true b o.original (second_true (a == o.stream) (b == o.original) is) in
      let u = eqb-true a p.stream (first_true (a == p.stream) (b == p.original) too) in
      let v = eqb-true b p.original (second_true (a == p.stream) (b == p.original) too) in
      absurd (never o.stream o.original p.stream p.original (sym s ∙ u) (sym t ∙ v) less)
  | inr not' ↦ not'
]
  where
    never : (i j k l : ℕ) → i ≡ k → j ≡ l → (nat_lt i k || (i == k && nat_lt j l)) ≡ true → ⊥
    never i j k l e f less = grind (arith, nat_tests)

once_at_most : (a b : ℕ) (others : List Other) → DoCome comes_before others → tally (has_stream_ids a b) others ≤ 1
once_at_most a b [] h = omega arith
once_at_most a b (o ∷ others) h = elim (cases_Bool (has_stream_ids a b o)) [
  | inl is ↦
      let none = tally_none (has_stream_ids a b) others (all_map (λ p. comes_before o p ≡ true) (λ p. has_stream_ids a b p ≡ false) (λ p less. not_both a b o p is less) others h.0) in
      rw is (omega (arith, none))
  | inr other ↦ rw other (once_at_most a b others h.1)
]

some_with : (test : RemoteService → Bool) (says : Record) (rs : List Numbered) (others : List Other) → DoCome comes_before others
    → tally test (with_record says rs others) ≤ tally test (cons_option (remote_in says) []) + tally test (of_each rs others)
some_with test (Remote a b s) rs others h =
    let once = once_at_most a b others h in
    let is = one_with test a b s rs others in
    elim (cases_Bool (test s)) [
      | inl e ↦ rw e (let n : tally test (with_record (Remote a b s) rs others) ≡ tally test (of_each rs others) + tally (has_stream_ids a b) others = rw e at is in omega (arith, once, n))
      | inr e ↦ rw e (let n : tally test (with_record (Remote a b s) rs others) ≡ tally test (of_each rs others) + 0 = rw e at is in omega (arith, n))
    ]
some_with test other rs others h = omega arith

one_in : (test : RemoteService → Bool) (o : Option RemoteService) (ts : List RemoteService) → tally test (cons_option o ts) ≡ tally test (cons_option o []) + tally test ts
one_in test None ts = omega arith
one_in test (Some s) ts = tally_append test (s ∷ []) ts

-- no more than there are
pub tally_of_each : (test : RemoteService → Bool) (rs : List Numbered) (others : List Other) → DoCome comes_before others → tally test (of_each rs others) ≤ tally test (all_of remote_in rs)
tally_of_each test [] others h = let none = of_each_none test others in omega (arith, none)
tally_of_each test (r ∷ rs) others h =
    let more = some_with test r.says rs others h in
    let rest = tally_of_each test rs others h in
    let one = one_in test (remote_in r.says) (all_of remote_in rs) in
    omega (arith, more, rest, one)
