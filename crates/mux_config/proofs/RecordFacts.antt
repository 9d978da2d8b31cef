-- Lists of records, and one record more.
use Rattle.std.proofs.Common.{◌≡◌, ◌≢◌, ◌+◌, ◌==◌, ℕ, Bool, true, false, cond, inl, inr, List, [], ◌∷◌, ◌++◌, length, Option, Some, None, refl, sym, ap, ◌∙◌, append-nil, arith}
use Rattle.std.specs.Prelude.{◌||◌}
use Rattle.std.specs.List.{AllByRecursion, cons_option, count_by}
use Rattle.std.proofs.lemmas.Bool.{cases_Bool}
use Rattle.std.proofs.lemmas.Bool.Decides.{nat_tests}
use Rattle.std.specs.Option.{option_or, is_some}
use Rattle.std.proofs.lemmas.List.Elements.{filter_map-append}
use Rattle.std.proofs.lemmas.List.Recursion.{is_count_by}
use Rattle.mux_lines.specs.declared.record.Record.{Record}
use Rattle.mux_lines.specs.declared.record.Numbered.{Numbered}
use Rattle.mux_config.specs.Descriptions.{all_of, first_line}

pub all_more : {X : Type 0} (kind : Record → Option X) (rs : List Numbered) (r : Numbered) → all_of kind (rs ++ r ∷ []) ≡ all_of kind rs ++ cons_option (kind r.says) []
all_more kind rs r = filter_map-append (λ (x : Numbered). kind x.says) rs (r ∷ [])

pub all_kept : {X : Type 0} (kind : Record → Option X) (rs : List Numbered) (r : Numbered) → kind r.says ≡ None → all_of kind (rs ++ r ∷ []) ≡ all_of kind rs
all_kept kind rs r e = all_more kind rs r ∙ ap (λ o. all_of kind rs ++ cons_option o []) e ∙ append-nil (all_of kind rs)

pub or_none_left : (a b : Option ℕ) → option_or a b ≡ None → a ≡ None
or_none_left None b e = refl
or_none_left (Some n) b e = cc e

pub or_none_right : (a b : Option ℕ) → option_or a b ≡ None → b ≡ None
or_none_right None b e = e
or_none_right (Some n) b e = cc e

-- so many of a kind
one_said : {X : Type 0} (said : Option X) (others : List X) → length (cons_option said others) ≡ cond (is_some said) (1 + length others) (length others)
one_said None others = refl
one_said (Some x) others = omega arith

pub counted : {X : Type 0} (kind : Record → Option X) (rs : List Numbered) → count_by (λ (r : Numbered). is_some (kind r.says)) rs ≡ length (all_of kind rs)
counted kind rs = sym (is_count_by (λ rs. length (all_of kind rs)) (λ (r : Numbered). is_some (kind r.says)) refl (λ r rs. one_said (kind r.says) (all_of kind rs)) rs)

-- ---- what those of a kind have, and what is not found

pub differs : (m n : ℕ) → (m == n) ≡ false → n ≢ m
differs m n e same = absurd (grind (arith, nat_tests))

pub cons_all : {X : Type 0} (P : X → Type 0) (o : Option X) (xs : List X) → ((x : X) → o ≡ Some x → P x) → AllByRecursion P xs → AllByRecursion P (cons_option o xs)
cons_all P None xs f h = h
cons_all P (Some x) xs f h = (f x refl, h)

-- what those of a kind have whose records have something
pub said_all : {X : Type 0} (kind : Record → Option X) (P : X → Type 0) (Q : Record → Type 0) (f : (r : Record) (x : X) → Q r → kind r ≡ Some x → P x) (rs : List Numbered) → AllByRecursion (λ (r : Numbered). Q r.says) rs → AllByRecursion P (all_of kind rs)
said_all kind P Q f [] h = tt
said_all kind P Q f (r ∷ rs) h = cons_all P (kind r.says) (all_of kind rs) (λ x e. f r.says x h.0 e) (said_all kind P Q f rs h.1)

pub first_not : (test : Record → Bool) (r : Numbered) (rs : List Numbered) → first_line test (r ∷ rs) ≡ None → (test r.says ≡ false) × (first_line test rs ≡ None)
first_not test r rs e = elim (cases_Bool (test r.says)) [
  | inl yes' ↦ cc (rw yes' at e)
  | inr no' ↦ (no', rw no' at e)
]

pub none_pass : (test : Record → Bool) (rs : List Numbered) → first_line test rs ≡ None → AllByRecursion (λ (r : Numbered). test r.says ≡ false) rs
none_pass test [] e = tt
none_pass test (r ∷ rs) e = (let n = first_not test r rs e in (n.0, none_pass test rs n.1))

pub or_false_left : (a b : Bool) → (a || b) ≡ false → a ≡ false
or_false_left false b e = refl
or_false_left true b e = cc e

pub or_false_right : (a b : Bool) → (a || b) ≡ false → b ≡ false
or_false_right false b e = e
or_false_right true b e = cc e
