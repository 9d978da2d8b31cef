-- Coded texts decode to themselves.
use Rattle.std.proofs.Common.{◌≡◌, ℕ, Bool, true, false, List, [], ◌∷◌, refl, subst, sym, ap, ◌∙◌, arith}
use Rattle.std.specs.Prelude.{◌==◌, IsUtf8, MatchOption, Option, Some, None, if◌then◌else◌}
use Rattle.std.specs.Str.{is_utf8}
use Rattle.std.proofs.lemmas.Str.{IsUtf8-from_is_utf8, is_utf8-from_IsUtf8, IsUtf8-from_ascii, IsUtf8-nil}
use Rattle.std.proofs.lemmas.Bool.Decides.{nat_tests}
use Rattle.si_lists.proofs.Truths.{first_true}
use Rattle.guide_model.specs.Coding.{is_plain, all_plain, coded_text}
use Rattle.guide_model.specs.Control.{has_control}
use Rattle.guide_model.specs.Decoding.{text_in, shown_by, decoded, IsAsDecoded, IsKept}
use Rattle.guide_model.specs.declared.shown.Shown.TheVariants.{Text, Hex}
use Rattle.guide_model.proofs.PlainFacts.{plain_ascii}

-- 0x15 is not of the plain set
plain_marks_not : (b : ℕ) → is_plain b ≡ true → (b == 0x15) ≡ false
plain_marks_not b h = grind (arith, nat_tests)

shown_text : (text bytes : List ℕ) → has_control text ≡ false → shown_by (Some text) bytes ≡ Text text
shown_text text bytes h = ap (λ c. if c then Hex bytes else Text text) h

-- a text of the plain set is a form of itself
pub text_in-plain : (text : List ℕ) → all_plain text ≡ true → text_in text ≡ Some text
text_in-plain [] h = refl
text_in-plain (b ∷ bs) h =
    let other = plain_marks_not b (first_true (is_plain b) (all_plain bs) h) in
    ap (λ c. if c then (if is_utf8 bs then Some bs else None) else (if all_plain (b ∷ bs) then Some (b ∷ bs) else None)) other
    ∙ ap (λ c. if c then Some (b ∷ bs) else None) h

-- UTF-8 behind 0x15 is a form of what stands there
pub text_in-utf8 : (text : List ℕ) → IsUtf8 text → text_in (0x15 ∷ text) ≡ Some text
text_in-utf8 text h = ap (λ c. if c then Some text else None) (is_utf8-from_IsUtf8 text h)

pub text_in-coded : (text : List ℕ) → IsUtf8 text → (plain : Bool) → all_plain text ≡ plain → text_in (if plain then text else 0x15 ∷ text) ≡ Some text
text_in-coded text h true e = text_in-plain text e
text_in-coded text h false e = text_in-utf8 text h

pub decoded-coded : (text : List ℕ) → IsKept text → decoded (coded_text text) ≡ Text text
decoded-coded text k =
    ap (λ t. shown_by t (coded_text text)) (text_in-coded text k.utf8 (all_plain text) refl) ∙ shown_text text (coded_text text) k.clean

-- what is read is UTF-8
by_mark : (b : ℕ) (bs text : List ℕ) (marked utf8 plain : Bool) → is_utf8 bs ≡ utf8 → all_plain (b ∷ bs) ≡ plain
    → (if marked then (if utf8 then Some bs else None) else (if plain then Some (b ∷ bs) else None)) ≡ Some text → IsUtf8 text
by_mark b bs text true true plain eu ep e = let same : bs ≡ text = cc in subst IsUtf8 same (IsUtf8-from_is_utf8 bs eu)
by_mark b bs text true false plain eu ep e = cc
by_mark b bs text false utf8 true eu ep e = let same : b ∷ bs ≡ text = cc in subst IsUtf8 same (IsUtf8-from_ascii (b ∷ bs) (plain_ascii (b ∷ bs) ep))
by_mark b bs text false utf8 false eu ep e = cc

pub text_in-IsUtf8 : (bytes text : List ℕ) → text_in bytes ≡ Some text → IsUtf8 text
text_in-IsUtf8 [] text e = let same : [] ≡ text = cc in subst IsUtf8 same IsUtf8-nil
text_in-IsUtf8 (b ∷ bs) text e = by_mark b bs text (b == 0x15) (is_utf8 bs) (all_plain (b ∷ bs)) refl refl e

again_some : (bytes text : List ℕ) (control : Bool) → text_in bytes ≡ Some text → has_control text ≡ control → IsAsDecoded (if control then Hex bytes else Text text)
again_some bytes text true e h = ap (λ t. shown_by t bytes) e ∙ ap (λ c. if c then Hex bytes else Text text) h
again_some bytes text false e h = decoded-coded text (record { utf8 = text_in-IsUtf8 bytes text e; clean = h })

again_by : (bytes : List ℕ) (t : Option (List ℕ)) → text_in bytes ≡ t → IsAsDecoded (shown_by t bytes)
again_by bytes None e = ap (λ t. shown_by t bytes) e
again_by bytes (Some text) e = again_some bytes text (has_control text) e refl

pub decoded-again : (bytes : List ℕ) → IsAsDecoded (decoded bytes)
decoded-again bytes = again_by bytes (text_in bytes) refl

utf8_not : (bytes : List ℕ) → (IsUtf8 bytes → ⊥) → (c : Bool) → is_utf8 bytes ≡ c → c ≡ false
utf8_not bytes n true e = absurd (n (IsUtf8-from_is_utf8 bytes e))
utf8_not bytes n false e = refl

pub is_utf8-false : (bytes : List ℕ) → (IsUtf8 bytes → ⊥) → is_utf8 bytes ≡ false
is_utf8-false bytes n = utf8_not bytes n (is_utf8 bytes) refl

-- a reading of these bytes as UTF-8 is one of the text that they are, where all are of the plain set
pub plain_read : {A : Type 0} (bytes : List ℕ) (now : A → List ℕ) (r : Option A) → all_plain bytes ≡ true
    → MatchOption r (is_utf8 bytes ≡ false) (λ t. (is_utf8 bytes ≡ true) × (now t ≡ bytes))
    → MatchOption r (text_in bytes ≡ None) (λ t. text_in bytes ≡ Some (now t))
plain_read bytes now None h m =
    let utf8 : is_utf8 bytes ≡ true = is_utf8-from_IsUtf8 bytes (IsUtf8-from_ascii bytes (plain_ascii bytes h)) in
    cc
plain_read bytes now (Some t) h m = text_in-plain bytes h ∙ ap Some (sym m.1)
