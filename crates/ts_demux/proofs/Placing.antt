-- What is kept at the places of a demux.
use Rattle.std.proofs.Common.{◌≡◌, ℕ, zero, suc, ◌<◌, ◌≤◌, List, [], ◌∷◌, ◌++◌, Bool, true, false, ◌==◌, Option, Some, None, length, refl, sym, ap, ◌∙◌, subst, arith, map}
use Rattle.std.specs.Prelude.{if◌then◌else◌, slice_set, option_map}
use Rattle.std.proofs.lemmas.Bool.Decides.{nat_tests}
use Rattle.std.proofs.lemmas.List.{map-set, map-append}
use Rattle.std.proofs.lemmas.Bool.{eqb-true}
use Rattle.ts_demux.specs.Keeping.{PidState, nothing, kept_in, kept_on}

kept_on-none : (q : ℕ) (slots : List (Option PidState)) → kept_on q (slots ++ None ∷ []) ≡ kept_on q slots
kept_on-none zero [] = refl
kept_on-none (suc q) [] = refl
kept_on-none zero (x ∷ slots) = refl
kept_on-none (suc q) (x ∷ slots) = kept_on-none q slots

next_same : (p q : ℕ) → (suc p == suc q) ≡ (p == q)
next_same p q = grind (arith, nat_tests)

not_first : (p : ℕ) → (suc p == 0) ≡ false
not_first p = grind (arith, nat_tests)

never_first : (p : ℕ) → (0 == suc p) ≡ false
never_first p = grind (arith, nat_tests)

kept_on-set : (q p : ℕ) (slots : List (Option PidState)) (o : Option PidState) → p < length slots → kept_on q (slice_set slots p o) ≡ (if p == q then kept_in (Some o) else kept_on q slots)
kept_on-set q p [] o h = absurd (omega arith)
kept_on-set zero zero (x ∷ slots) o h = refl
kept_on-set (suc q) zero (x ∷ slots) o h = sym (ap (λ (b : Bool). if b then kept_in (Some o) else kept_on q slots) (never_first q))
kept_on-set zero (suc p) (x ∷ slots) o h = sym (ap (λ (b : Bool). if b then kept_in (Some o) else kept_in (Some x)) (not_first p))
kept_on-set (suc q) (suc p) (x ∷ slots) o h =
    kept_on-set q p slots o (omega arith) ∙ ap (λ (b : Bool). if b then kept_in (Some o) else kept_on q slots) (sym (next_same p q))

kept_on-behind : (q : ℕ) (slots : List (Option PidState)) → length slots ≤ q → kept_on q slots ≡ nothing
kept_on-behind q [] h = refl
kept_on-behind zero (x ∷ slots) h = absurd (omega arith)
kept_on-behind (suc q) (x ∷ slots) h = kept_on-behind q slots (omega arith)

-- an empty place more keeps nothing
pub one_more : {T : Type 0} (f : T → PidState) (q : ℕ) (xs : List (Option T)) → kept_on q (map (option_map f) (xs ++ None ∷ [])) ≡ kept_on q (map (option_map f) xs)
one_more f q xs = ap (kept_on q) (map-append (option_map f) xs (None ∷ [])) ∙ kept_on-none q (map (option_map f) xs)

pub length-mapped : {X Y : Type 0} (f : X → Y) (xs : List X) → length (map f xs) ≡ length xs
length-mapped f [] = refl
length-mapped f (x ∷ xs) = ap suc (length-mapped f xs)

-- one place is set
pub placed : {T : Type 0} (f : T → PidState) (q p : ℕ) (xs : List (Option T)) (o : Option T) → p < length xs →
    kept_on q (map (option_map f) (slice_set xs p o)) ≡ (if p == q then kept_in (Some (option_map f o)) else kept_on q (map (option_map f) xs))
placed f q p xs o h =
    ap (kept_on q) (map-set (option_map f) xs p o)
    ∙ kept_on-set q p (map (option_map f) xs) (option_map f o) (subst (λ (n : ℕ). p < n) (sym (length-mapped (option_map f) xs)) h)

-- nothing is kept of a PID that has no place
pub no_place : (q p : ℕ) (slots : List (Option PidState)) → length slots ≤ p → kept_on q slots ≡ (if p == q then nothing else kept_on q slots)
no_place q p slots h = go (p == q) refl
  where
    go : (b : Bool) → (p == q) ≡ b → kept_on q slots ≡ (if p == q then nothing else kept_on q slots)
    go false e = sym (ap (λ (b : Bool). if b then nothing else kept_on q slots) e)
    go true e = kept_on-behind q slots (subst (λ (n : ℕ). length slots ≤ n) (eqb-true p q e) h) ∙ sym (ap (λ (b : Bool). if b then nothing else kept_on q slots) e)
