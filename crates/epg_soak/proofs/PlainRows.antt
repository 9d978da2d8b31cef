-- Fields that csv does not quote, and the lines of such.
use Rattle.std.proofs.Common.{◌≡◌, ◌≤◌, ◌*◌, ℕ, Bool, true, false, List, [], ◌∷◌, ◌++◌, length, refl, ap, ◌∙◌, arith}
use Rattle.std.specs.Prelude.{◌==◌, ◌||◌}
use Rattle.std.specs.List.{list_all, list_any, AllByRecursion}
use Rattle.std.proofs.lemmas.Bool.{and_parts}
use Rattle.std.proofs.lemmas.Bool.Decides.{nat_tests}
use Rattle.std.proofs.lemmas.List.{length-append}
use Rattle.csv.specs.Writing.{default_writer, field_text, fields_text, needs_byte}
use Rattle.si_lists.proofs.Lists.{all_map}
use Rattle.si_lists.proofs.Filters.{list_all-more}
use Rattle.guide_model.specs.Decoding.{IsKept}
use Rattle.journal_text.specs.Lines.{line_text}
use Rattle.journal_text.specs.CommandBack.{IsFronted, IsRow, row_line}
use Rattle.guide_model.specs.Control.{is_printing}
use Rattle.journal_text.proofs.PlainFields.{is_written, printing_kept}

-- a space, or a byte that no field is quoted for
abbrev pub is_plain : ℕ → Bool
is_plain b = is_written b || b == 32

plain_printing : (b : ℕ) → is_plain b ≡ true → is_printing b ≡ true
plain_printing b h = grind (arith, nat_tests)

written_plain : (b : ℕ) → is_written b ≡ true → is_plain b ≡ true
written_plain b h = rw h refl

pub all_plain : (xs : List ℕ) → list_all is_written xs ≡ true → list_all is_plain xs ≡ true
all_plain = list_all-more is_written is_plain written_plain

plain_byte : (b : ℕ) → is_plain b ≡ true → needs_byte default_writer b ≡ false
plain_byte b h =
    let comma : (b == 44) ≡ false = grind (arith, nat_tests) in
    let mark : (b == 34) ≡ false = grind (arith, nat_tests) in
    let cr : (b == 13) ≡ false = grind (arith, nat_tests) in
    let lf : (b == 10) ≡ false = grind (arith, nat_tests) in
    rw (comma, mark, cr, lf) refl

plain_text : (xs : List ℕ) → list_all is_plain xs ≡ true → list_any (needs_byte default_writer) xs ≡ false
plain_text [] h = refl
plain_text (x ∷ xs) h =
    let (p, q) = and_parts (is_plain x) (list_all is_plain xs) h in
    rw (plain_byte x p) (plain_text xs q)

plain_field : (xs : List ℕ) → list_all is_plain xs ≡ true → field_text default_writer xs ≡ xs
plain_field xs h = rw (plain_text xs h) refl

-- ---- rows

-- a short field that is not quoted
pub record IsPlainField (field : List ℕ) : Type 0 where
  pub plain : list_all is_plain field ≡ true
  pub short : length field ≤ 20

-- fields, each behind a comma
abbrev pub behind_commas : List (List ℕ) → List ℕ
behind_commas [] = []
behind_commas (field ∷ fields) = 44 ∷ (field ++ behind_commas fields)

rest_text : (fields : List (List ℕ)) → AllByRecursion IsPlainField fields → fields_text default_writer fields ≡ behind_commas fields
unfolding fields_text
rest_text [] h = refl
rest_text (f ∷ fs) h =
    ap (λ (l : List ℕ). 44 ∷ (l ++ fields_text default_writer fs)) (plain_field f h.0.plain) ∙ ap (λ (l : List ℕ). 44 ∷ (f ++ l)) (rest_text fs h.1)

pub plain_line : (f : List ℕ) (fs : List (List ℕ)) → AllByRecursion IsPlainField (f ∷ fs) → row_line (f ∷ fs) ≡ f ++ behind_commas fs
plain_line f fs h =
    ap (λ (l : List ℕ). l ++ fields_text default_writer fs) (plain_field f h.0.plain) ∙ ap (λ (l : List ℕ). f ++ l) (rest_text fs h.1)

rest_short : (fields : List (List ℕ)) → AllByRecursion IsPlainField fields → length (behind_commas fields) ≤ 21 * length fields
rest_short [] h = omega arith
rest_short (f ∷ fs) h =
    let a = h.0.short in
    let more = rest_short fs h.1 in
    omega (arith, a, more, length-append f (behind_commas fs))

-- at most eleven such fields, of which the first begins a line
pub record IsPlainRow (fields : List (List ℕ)) : Type 0 where
  pub front : IsFronted fields
  pub plain : AllByRecursion IsPlainField fields
  pub few : length fields ≤ 11

pub row_short : (fields : List (List ℕ)) → IsPlainRow fields → length (row_line fields) ≤ 231
row_short [] h = absurd h.front
row_short (f ∷ fs) h =
    let a = h.plain.0.short in
    let more = rest_short fs h.plain.1 in
    let few = h.few in
    let is = ap (λ (l : List ℕ). length l) (plain_line f fs h.plain) in
    omega (arith, a, more, few, is, length-append f (behind_commas fs))

pub line_short : (fields : List (List ℕ)) → IsPlainRow fields → length (line_text fields) ≤ 232
line_short fields h = let a = row_short fields h in omega (arith, a, length-append (row_line fields) (10 ∷ []))

kept_field : (field : List ℕ) → IsPlainField field → IsKept field
kept_field field h = printing_kept field (list_all-more is_plain is_printing plain_printing field h.plain)

pub plain_is_row : (fields : List (List ℕ)) → IsPlainRow fields → IsRow fields
plain_is_row fields h = record {
  front = h.front;
  kept = all_map IsPlainField IsKept kept_field fields h.plain;
  short = (let a = row_short fields h in omega (arith, a));
}
