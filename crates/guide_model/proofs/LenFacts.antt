-- Where `cut_len` cuts: behind 249 bytes of the plain set, and else at the last boundary up to 248.
use Rattle.std.proofs.Common.{◌≡◌, ℕ, ◌+◌, ◌<◌, ◌≤◌, true, false, List, length, take, drop, sym, ap, ◌∙◌, subst, arith, inl, inr}
use Rattle.std.specs.Prelude.{◌&&◌, min, IsUtf8, IsCharBoundary}
use Rattle.std.proofs.lemmas.Bool.{cases_lt, and_parts}
use Rattle.std.proofs.lemmas.List.{length-take-le, take-append-drop, take-append-le, get_or-take}
use Rattle.std.proofs.lemmas.List.Folds.{list_all-append}
use Rattle.std.proofs.lemmas.Str.{IsCharBoundary-end, IsCharBoundary-after_ascii}
use Rattle.guide_model.specs.Coding.{is_plain, all_plain}
use Rattle.guide_model.specs.Cutting.{IsLongestCut}
use Rattle.guide_model.proofs.PlainFacts.{plain_ascii}
use Rattle.guide_model.proofs.CutFacts.{coded_size-bounds, coded_size-plain, coded_size-other}

-- a front with a byte outside the plain set makes each longer one so
longer_other : (text : List ℕ) (k m : ℕ) → k ≤ m → m ≤ length text → all_plain (take k text) ≡ false → all_plain (take m text) ≡ false
longer_other text k m le fits h =
    let len = length-take-le m text fits in
    let same : take k (take m text) ≡ take k text = sym (take-append-le k (take m text) (drop m text) (omega arith)) ∙ ap (take k) (take-append-drop m text) in
    ap all_plain (sym (take-append-drop k (take m text)))
    ∙ list_all-append is_plain (take k (take m text)) (drop k (take m text))
    ∙ ap (λ c. c && all_plain (drop k (take m text))) (ap all_plain same ∙ h)

-- behind plain bytes a text may be cut
plain_boundary : (text : List ℕ) (k : ℕ) → IsUtf8 text → k < length text → all_plain (take (k + 1) text) ≡ true → IsCharBoundary text (k + 1)
plain_boundary text k u lt h =
    let ascii = plain_ascii (take (k + 1) text) h k in
    IsCharBoundary-after_ascii text k u lt (subst (λ b. b < 128) (get_or-take (k + 1) text k 0 (omega arith)) ascii)

plain_cut : (text : List ℕ) (k : ℕ) → IsUtf8 text → k ≤ 249 → k ≤ length text → (k < 249 → k ≡ length text) → all_plain (take k text) ≡ true → IsLongestCut text k
plain_cut text k u most len end h = record {
  whole = elim (cases_lt k 249) [
    | inl less ↦ subst (IsCharBoundary text) (sym (end less)) (IsCharBoundary-end text)
    | inr le ↦ let same : k ≡ 248 + 1 = omega arith in elim (cases_lt 248 (length text)) [
      | inl lt ↦ subst (IsCharBoundary text) (sym same) (plain_boundary text 248 u lt (ap (λ n. all_plain (take n text)) (sym same) ∙ h))
      | inr short ↦ absurd (omega arith)
    ]
  ];
  fits = omega (arith, coded_size-plain (take k text) h, length-take-le k text len);
  longest = λ m lt b. elim (cases_lt k 249) [
    | inl less ↦ absurd (omega (arith, end less, b.0))
    | inr le ↦ omega (arith, length-take-le m text b.0, (coded_size-bounds (take m text)).0)
  ];
}

pub other_cut : (text : List ℕ) (k r : ℕ) → k ≤ 249 → all_plain (take k text) ≡ false → r ≤ 248 → IsCharBoundary text r
    → ((m : ℕ) → r < m → m ≤ 248 → IsCharBoundary text m → ⊥) → IsLongestCut text r
other_cut text k r most h le b nearest = record {
  whole = b;
  fits = omega (arith, (coded_size-bounds (take r text)).1, length-take-le r text b.0);
  longest = λ m lt bm. elim (cases_lt 248 m) [
    | inl far ↦ omega (arith, coded_size-other (take m text) (longer_other text k m (omega arith) bm.0 h), length-take-le m text bm.0)
    | inr near ↦ absurd (nearest m lt near bm)
  ];
}

pub plain_cut-min : (text : List ℕ) (k : ℕ) → IsUtf8 text → k ≡ min 249 (length text) → all_plain (take k text) ≡ true → IsLongestCut text k
plain_cut-min text k u e h = plain_cut text k u (omega arith) (omega arith) (λ lt. omega arith) h

-- each front of plain bytes is plain, and so is what stands behind it
pub plain_front : (text : List ℕ) (k : ℕ) → all_plain text ≡ true → all_plain (take k text) ≡ true
plain_front text k h =
    (and_parts (all_plain (take k text)) (all_plain (drop k text)) (sym (list_all-append is_plain (take k text) (drop k text)) ∙ ap all_plain (take-append-drop k text) ∙ h)).0

pub plain_back : (text : List ℕ) (k : ℕ) → all_plain text ≡ true → all_plain (drop k text) ≡ true
plain_back text k h =
    (and_parts (all_plain (take k text)) (all_plain (drop k text)) (sym (list_all-append is_plain (take k text) (drop k text)) ∙ ap all_plain (take-append-drop k text) ∙ h)).1

pub plain_cut-all : (text : List ℕ) (k : ℕ) → IsUtf8 text → k ≡ min 249 (length text) → all_plain text ≡ true → IsLongestCut text k
plain_cut-all text k u e h = plain_cut-min text k u e (plain_front text k h)
