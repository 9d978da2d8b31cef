-- Text of the plain set, and text of printing characters of ASCII, is ASCII, and has no control character.
use Rattle.std.proofs.Common.{◌≡◌, ℕ, zero, suc, ◌<◌, ◌≤◌, true, false, List, [], ◌∷◌, arith, lit<, refl, ap, ◌∙◌}
use Rattle.std.specs.Prelude.{IsAscii, ◌||◌}
use Rattle.std.specs.List.{list_any}
use Rattle.std.proofs.lemmas.Str.{chars-IsAscii}
use Rattle.std.proofs.lemmas.Bool.Decides.{nat_tests}
use Rattle.si_lists.proofs.Truths.{first_true, second_true}
use Rattle.guide_model.specs.Coding.{is_plain, all_plain}
use Rattle.guide_model.specs.Control.{all_printing, is_control, is_printing, has_control}

pub plain_small : (b : ℕ) → is_plain b ≡ true → b < 128
plain_small b h = grind (arith, nat_tests)

plain_shown : (b : ℕ) → is_plain b ≡ true → is_control b ≡ false
plain_shown b h =
    let low : 32 ≤ b = grind (arith, nat_tests) in
    let high : b < 127 = grind (arith, nat_tests) in
    grind (arith, nat_tests)

pub plain_ascii : (text : List ℕ) → all_plain text ≡ true → IsAscii text
plain_ascii [] h i = lit< tt
plain_ascii (b ∷ bs) h zero = plain_small b (first_true (is_plain b) (all_plain bs) h)
plain_ascii (b ∷ bs) h (suc i) = plain_ascii bs (second_true (is_plain b) (all_plain bs) h) i

none_control : (text : List ℕ) → all_plain text ≡ true → list_any is_control text ≡ false
none_control [] h = refl
none_control (b ∷ bs) h =
    ap (λ c. c || list_any is_control bs) (plain_shown b (first_true (is_plain b) (all_plain bs) h)) ∙ none_control bs (second_true (is_plain b) (all_plain bs) h)

pub plain_clean : (text : List ℕ) → all_plain text ≡ true → has_control text ≡ false
plain_clean text h = ap (list_any is_control) (chars-IsAscii text (plain_ascii text h)) ∙ none_control text h

-- ---- printing characters

printing_small : (b : ℕ) → is_printing b ≡ true → b < 128
printing_small b h = grind (arith, nat_tests)

printing_shown : (b : ℕ) → is_printing b ≡ true → is_control b ≡ false
printing_shown b h =
    let low : 32 ≤ b = grind (arith, nat_tests) in
    let high : b < 127 = grind (arith, nat_tests) in
    grind (arith, nat_tests)

printing_ascii : (text : List ℕ) → all_printing text ≡ true → IsAscii text
printing_ascii [] h i = lit< tt
printing_ascii (b ∷ bs) h zero = printing_small b (first_true (is_printing b) (all_printing bs) h)
printing_ascii (b ∷ bs) h (suc i) = printing_ascii bs (second_true (is_printing b) (all_printing bs) h) i

printing_none : (text : List ℕ) → all_printing text ≡ true → list_any is_control text ≡ false
printing_none [] h = refl
printing_none (b ∷ bs) h =
    ap (λ c. c || list_any is_control bs) (printing_shown b (first_true (is_printing b) (all_printing bs) h)) ∙ printing_none bs (second_true (is_printing b) (all_printing bs) h)

pub printing_clean : (text : List ℕ) → all_printing text ≡ true → has_control text ≡ false
printing_clean text h = ap (list_any is_control) (chars-IsAscii text (printing_ascii text h)) ∙ printing_none text h
