-- The run, one section more.
use Rattle.std.proofs.Common.{◌≡◌, ◌≢◌, ℕ, List, [], ◌∷◌, ◌++◌, Bool, true, false, ◌==◌, refl, sym, ap, ◌∙◌, subst, eq-eqb, eqb-true}
use Rattle.std.specs.Prelude.{if◌then◌else◌, Option, Some, None}
use Rattle.std.proofs.lemmas.Bool.{and_parts, and_from}
use Rattle.si_lists.proofs.Truths.{not_both}
use Rattle.sub_collect.specs.Runs.{Counted, latest_section, all_of_version, is_one_version, run_of}

pub all-push : (v : ℕ) (xs : List Counted) (s : Counted) → all_of_version v xs ≡ true → s.version ≡ v → all_of_version v (xs ++ s ∷ []) ≡ true
all-push v [] s h e = and_from (s.version == v) true (eq-eqb s.version v e) refl
all-push v (x ∷ xs) s h e =
    let p = and_parts (x.version == v) (all_of_version v xs) h in
    and_from (x.version == v) (all_of_version v (xs ++ s ∷ [])) p.0 (all-push v xs s p.1 e)

all-front : (v : ℕ) (xs : List Counted) (s : Counted) → all_of_version v (xs ++ s ∷ []) ≡ true → (all_of_version v xs ≡ true) × (s.version ≡ v)
all-front v [] s h = (refl, eqb-true s.version v (and_parts (s.version == v) true h).0)
all-front v (x ∷ xs) s h =
    let p = and_parts (x.version == v) (all_of_version v (xs ++ s ∷ [])) h in
    let r = all-front v xs s p.1 in
    (and_from (x.version == v) (all_of_version v xs) p.0 r.0, r.1)

-- the latest of sections of one version has it
pub all-latest : (v : ℕ) (xs : List Counted) (t : Counted) → all_of_version v xs ≡ true → latest_section xs ≡ Some t → t.version ≡ v
all-latest v [] t h e = cc
all-latest v (x ∷ []) t h e =
    let f : x ≡ t = cc in
    ap (λ (c : Counted). c.version) (sym f) ∙ eqb-true x.version v (and_parts (x.version == v) true h).0
all-latest v (x ∷ y ∷ xs) t h e = all-latest v (y ∷ xs) t (and_parts (x.version == v) (all_of_version v (y ∷ xs)) h).1 e

-- a section of the run's version joins it
pub run_of-push : (xs : List Counted) (s : Counted) → all_of_version s.version (run_of xs) ≡ true → run_of (xs ++ s ∷ []) ≡ run_of xs ++ s ∷ []
run_of-push [] s h = refl
run_of-push (x ∷ xs) s h = go (is_one_version (x ∷ xs)) refl (is_one_version (x ∷ xs ++ s ∷ [])) refl (run_of-push xs s) h
  where
    go : (a : Bool) → is_one_version (x ∷ xs) ≡ a → (b : Bool) → is_one_version (x ∷ xs ++ s ∷ []) ≡ b → (all_of_version s.version (run_of xs) ≡ true → run_of (xs ++ s ∷ []) ≡ run_of xs ++ s ∷ [])
        → all_of_version s.version (run_of (x ∷ xs)) ≡ true → run_of (x ∷ xs ++ s ∷ []) ≡ run_of (x ∷ xs) ++ s ∷ []
    go true e true f rec h = ap (λ (b : Bool). if b then x ∷ xs ++ s ∷ [] else run_of (xs ++ s ∷ [])) f ∙ ap (λ (b : Bool). (if b then x ∷ xs else run_of xs) ++ s ∷ []) (sym e)
    go true e false f rec h =
        let all : all_of_version s.version (x ∷ xs) ≡ true = subst (λ (b : Bool). all_of_version s.version (if b then x ∷ xs else run_of xs) ≡ true) e h in
        let v : x.version ≡ s.version = eqb-true x.version s.version (and_parts (x.version == s.version) (all_of_version s.version xs) all).0 in
        absurd (not_both (is_one_version (x ∷ xs ++ s ∷ [])) (all-push x.version xs s e (sym v)) f)
    go false e true f rec h = absurd (not_both (is_one_version (x ∷ xs)) (all-front x.version xs s f).0 e)
    go false e false f rec h =
        ap (λ (b : Bool). if b then x ∷ xs ++ s ∷ [] else run_of (xs ++ s ∷ [])) f
        ∙ rec (subst (λ (b : Bool). all_of_version s.version (if b then x ∷ xs else run_of xs) ≡ true) e h)
        ∙ ap (λ (b : Bool). (if b then x ∷ xs else run_of xs) ++ s ∷ []) (sym e)

-- a section of another version begins a new run
pub run_of-new : (xs : List Counted) (t s : Counted) → latest_section xs ≡ Some t → t.version ≢ s.version → run_of (xs ++ s ∷ []) ≡ s ∷ []
run_of-new [] t s e other = refl
run_of-new (x ∷ []) t s e other = go (is_one_version (x ∷ s ∷ [])) refl
  where
    go : (b : Bool) → is_one_version (x ∷ s ∷ []) ≡ b → run_of (x ∷ s ∷ []) ≡ s ∷ []
    go true f =
        let g : x ≡ t = cc in
        absurd (other (ap (λ (c : Counted). c.version) (sym g) ∙ sym (all-front x.version [] s f).1))
    go false f = ap (λ (b : Bool). if b then x ∷ s ∷ [] else s ∷ []) f
run_of-new (x ∷ y ∷ xs) t s e other = go (is_one_version (x ∷ y ∷ xs ++ s ∷ [])) refl (run_of-new (y ∷ xs) t s e other)
  where
    go : (b : Bool) → is_one_version (x ∷ y ∷ xs ++ s ∷ []) ≡ b → run_of (y ∷ xs ++ s ∷ []) ≡ s ∷ [] → run_of (x ∷ y ∷ xs ++ s ∷ []) ≡ s ∷ []
    go true f rec =
        let p = all-front x.version (y ∷ xs) s f in
        absurd (other (all-latest x.version (y ∷ xs) t p.0 e ∙ sym p.1))
    go false f rec = ap (λ (b : Bool). if b then x ∷ y ∷ xs ++ s ∷ [] else run_of (y ∷ xs ++ s ∷ [])) f ∙ rec

-- the run is of one version, and its latest section is the latest
run_is_one : (xs : List Counted) → is_one_version (run_of xs) ≡ true
run_is_one [] = refl
run_is_one (x ∷ xs) = go (is_one_version (x ∷ xs)) refl (run_is_one xs)
  where
    go : (b : Bool) → is_one_version (x ∷ xs) ≡ b → is_one_version (run_of xs) ≡ true → is_one_version (if b then x ∷ xs else run_of xs) ≡ true
    go true e h = e
    go false e h = h

pub latest-run : (xs : List Counted) → latest_section (run_of xs) ≡ latest_section xs
latest-run [] = refl
latest-run (x ∷ []) = refl
latest-run (x ∷ y ∷ xs) = go (is_one_version (x ∷ y ∷ xs)) (latest-run (y ∷ xs))
  where
    go : (b : Bool) → latest_section (run_of (y ∷ xs)) ≡ latest_section (y ∷ xs) → latest_section (if b then x ∷ y ∷ xs else run_of (y ∷ xs)) ≡ latest_section (y ∷ xs)
    go true h = refl
    go false h = h

of_latest : (xs : List Counted) (t : Counted) → is_one_version xs ≡ true → latest_section xs ≡ Some t → all_of_version t.version xs ≡ true
of_latest [] t h e = refl
of_latest (x ∷ xs) t h e =
    let all = and_from (x.version == x.version) (all_of_version x.version xs) (eq-eqb x.version x.version refl) h in
    subst (λ (v : ℕ). all_of_version v (x ∷ xs) ≡ true) (sym (all-latest x.version (x ∷ xs) t all e)) all

-- the run has the version of the latest section
pub run-version : (xs : List Counted) (t : Counted) → latest_section xs ≡ Some t → all_of_version t.version (run_of xs) ≡ true
run-version xs t e = of_latest (run_of xs) t (run_is_one xs) (latest-run xs ∙ e)

pub latest-push : (xs : List Counted) (s : Counted) → latest_section (xs ++ s ∷ []) ≡ Some s
latest-push [] s = refl
latest-push (x ∷ []) s = refl
latest-push (x ∷ y ∷ xs) s = latest-push (y ∷ xs) s

pub no-latest : (xs : List Counted) → latest_section xs ≡ None → xs ≡ []
no-latest [] e = refl
no-latest (x ∷ []) e = cc
no-latest (x ∷ y ∷ xs) e =
    let f : y ∷ xs ≡ [] = no-latest (y ∷ xs) e in
    absurd (let z : Prim.⊥ = cc in z)

-- a section of another version than that of a run begins a new run
pub run_of-other : (xs : List Counted) (v : ℕ) (s : Counted) → all_of_version v (run_of xs) ≡ true → v ≢ s.version → run_of (xs ++ s ∷ []) ≡ s ∷ []
run_of-other xs v s all other = go (latest_section xs) refl
  where
    go : (o : Option Counted) → latest_section xs ≡ o → run_of (xs ++ s ∷ []) ≡ s ∷ []
    go None e = ap (λ (l : List Counted). run_of (l ++ s ∷ [])) (no-latest xs e)
    go (Some t) e =
        let v' : t.version ≡ v = all-latest v (run_of xs) t all (latest-run xs ∙ e) in
        run_of-new xs t s e (λ (same : t.version ≡ s.version). other (sym v' ∙ same))

pub version-joins : (heard : List Counted) (s t : Counted) → latest_section heard ≡ Some s → s.version ≡ t.version → run_of (heard ++ t ∷ []) ≡ run_of heard ++ t ∷ []
version-joins heard s t e same = run_of-push heard t (subst (λ (v : ℕ). all_of_version v (run_of heard) ≡ true) same (run-version heard s e))
