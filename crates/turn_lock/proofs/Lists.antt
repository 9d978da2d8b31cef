-- Lists, beginnings of lists, and entries of a caller.
use Rattle.std.proofs.Common.{◌≡◌, ◌≢◌, ◌⊎◌, ⊎_elim, inl, inr, ℕ, zero, suc, ◌<◌, ◌≤◌, ◌==◌, List, [], ◌∷◌, ◌++◌, length, drop, Bool, true, false, refl, sym, ap, subst, ◌∙◌, arith, append_assoc, eq-eqb, ne_eqb}
use Rattle.std.specs.List.{AllByRecursion}
use Rattle.std.specs.Prelude.{nat_lt, cond}
use Rattle.std.proofs.lemmas.List.{append-nil}
use Rattle.std.proofs.lemmas.List.Elements.{filter-append}
use Rattle.std.proofs.lemmas.Bool.{cases_Bool}
use Rattle.std.proofs.lemmas.Bool.Decides.{nat_tests}
use Rattle.std.proofs.Math.Seq.{drop-append_seam}
use mathlib.Core.Option.{some, some-injective, some-ne-none}
use lib.ListN.{get_elem?}
use mathlib.Core.List.{IsPrefix}
use Rattle.turn_lock.specs.Journal.{entries_of, IsOneOf, Grows}
use Rattle.turn_lock.specs.Knowledge.{longer}

pub not-true : (b : Bool) → (b ≡ true → ⊥) → b ≡ false
not-true true n = absurd (n refl)
not-true false n = refl

pub differ : true ≡ false → ⊥
differ e = cc e

module _ {A : Type 0} where
  pub within : (l : List A) (i : ℕ) (v : A) → get_elem? l i ≡ some v → i < length l
  within [] i v e = absurd (cc e)
  within (x ∷ xs) zero v e = omega arith
  within (x ∷ xs) (suc i) v e = let h = within xs i v e in omega arith

  pub at_end : (l : List A) (a b : A) (j : ℕ) → get_elem? (l ++ a ∷ []) j ≡ some b → (get_elem? l j ≡ some b) ⊎ ((j ≡ length l) × (a ≡ b))
  at_end [] a b zero e = inr (refl, some-injective a b e)
  at_end [] a b (suc j) e = absurd (some-ne-none b (sym e))
  at_end (x ∷ xs) a b zero e = inl e
  at_end (x ∷ xs) a b (suc j) e = ⊎_elim (λ t. inl t) (λ t. inr (ap suc t.0, t.1)) (at_end xs a b j e)

  pub same_place : (l : List A) (i : ℕ) (v w : A) → get_elem? l i ≡ some v → get_elem? l i ≡ some w → v ≡ w
  same_place l i v w a b = some-injective v w (sym a ∙ b)

  pub prefix_self : (xs : List A) → IsPrefix xs xs
  prefix_self xs = ([], append-nil xs)

  pub prefix_trans : (a b c : List A) → IsPrefix a b → IsPrefix b c → IsPrefix a c
  prefix_trans a b c (r, e) (t, f) = (r ++ t, sym (append_assoc a r t) ∙ ap (λ (z : List A). z ++ t) e ∙ f)

  -- of two beginnings of one list the shorter begins the longer
  pub prefix_shorter : (xs ys zs : List A) → IsPrefix xs zs → IsPrefix ys zs → length xs ≤ length ys → IsPrefix xs ys
  prefix_shorter [] ys zs p q le = (ys, refl)
  prefix_shorter (x ∷ xs) [] zs p q le = absurd (omega arith)
  prefix_shorter (x ∷ xs) (y ∷ ys) [] p q le = absurd (cc (p.1))
  prefix_shorter (x ∷ xs) (y ∷ ys) (z ∷ zs) p q le =
      let heads : x ≡ y = cc (p.1, q.1) in
      let rest = prefix_shorter xs ys zs (p.0, cc (p.1)) (q.0, cc (q.1)) (omega arith) in
      (rest.0, cc (heads, rest.1))

  -- the longer of two beginnings of one list, begun by both
  pub longer_fits : (log xs ys : List A) → IsPrefix xs log → IsPrefix ys log → IsPrefix (longer xs ys) log × IsPrefix xs (longer xs ys) × IsPrefix ys (longer xs ys)
  longer_fits log xs ys p q = elim (cases_Bool (nat_lt (length xs) (length ys))) [
    | inl less ↦
        let le : length xs ≤ length ys = grind (arith, nat_tests) in
        rw less (q, prefix_shorter xs ys log p q le, prefix_self ys)
    | inr more ↦
        let le : length ys ≤ length xs = grind (arith, nat_tests) in
        rw more (p, prefix_self xs, prefix_shorter ys xs log q p le)
  ]

  pub all_append : (P : A → Type 0) (xs ys : List A) → AllByRecursion P xs → AllByRecursion P ys → AllByRecursion P (xs ++ ys)
  all_append P [] ys p q = q
  all_append P (x ∷ xs) ys p q = (p.0, all_append P xs ys p.1 q)

module _ {E : Type 0} (caller : E → ℕ) where
  pub own_entries : (k : ℕ) (added : List E) → IsOneOf caller k added → entries_of caller k added ≡ added
  own_entries k added (inl none) = subst (λ (z : List E). entries_of caller k z ≡ z) (sym none) refl
  own_entries k added (inr one) =
      subst (λ (z : List E). entries_of caller k z ≡ z) (sym one.2) (ap (λ (b : Bool). cond b (one.0 ∷ []) []) (eq-eqb (caller one.0) k one.1))

  pub other_entries : (k who : ℕ) (added : List E) → IsOneOf caller who added → k ≢ who → entries_of caller k added ≡ []
  other_entries k who added (inl none) ne = subst (λ (z : List E). entries_of caller k z ≡ []) (sym none) refl
  other_entries k who added (inr one) ne =
      subst (λ (z : List E). entries_of caller k z ≡ []) (sym one.2) (ap (λ (b : Bool). cond b (one.0 ∷ []) []) (ne_eqb (caller one.0) k (λ e. ne (sym e ∙ one.1))))

  pub own_more : (k : ℕ) (log added : List E) → IsOneOf caller k added → entries_of caller k (log ++ added) ≡ entries_of caller k log ++ added
  own_more k log added one = filter-append (λ e. caller e == k) log added ∙ ap (λ (z : List E). entries_of caller k log ++ z) (own_entries k added one)

  pub other_same : (k who : ℕ) (log added : List E) → IsOneOf caller who added → k ≢ who → entries_of caller k (log ++ added) ≡ entries_of caller k log
  other_same k who log added one ne =
      filter-append (λ e. caller e == k) log added ∙ ap (λ (z : List E). entries_of caller k log ++ z) (other_entries k who added one ne) ∙ append-nil (entries_of caller k log)

  pub grown : (who : ℕ) (log after : List E) → Grows caller who log after → (after ≡ log ++ drop (length log) after) × IsOneOf caller who (drop (length log) after)
  grown who log after (added, is, one) =
      let same : drop (length log) after ≡ added = ap (drop (length log)) is ∙ drop-append_seam log added in
      (is ∙ ap (λ (z : List E). log ++ z) (sym same), subst (IsOneOf caller who) (sym same) one)
