-- The longest cut of a text: there is one, it is the one that is counted, and it is short only at the text's end.
use Rattle.std.proofs.Common.{◌≡◌, ℕ, zero, suc, ◌+◌, ◌<◌, ◌≤◌, Bool, true, false, List, [], ◌∷◌, ◌++◌, length, take, drop, refl, sym, ap, ◌∙◌, subst, arith, inl, inr}
use Rattle.std.specs.Prelude.{◌&&◌, nat_le, if◌then◌else◌, IsUtf8, IsCharBoundary, encode_utf8, encode_utf8_all}
use Rattle.std.proofs.lemmas.Bool.{cases_lt}
use Rattle.std.proofs.lemmas.Bool.Decides.{nat_tests}
use Rattle.std.proofs.lemmas.List.{length-take-le, length-drop}
use Rattle.std.proofs.lemmas.Str.{IsCharBoundary-start, IsCharBoundary-past_char, IsUtf8-drop, len_utf8_bounds}
use Rattle.std.specs.Char.{len_utf8}
use Rattle.si_lists.proofs.Truths.{first_true, second_true}
use Rattle.guide_model.specs.Coding.{all_plain, coded_size}
use Rattle.guide_model.specs.Cutting.{is_boundary, is_cut, greatest_cut, cut_size, IsLongestCut}

-- ---- how long a coded form is

size_by : (text : List ℕ) (plain : Bool) → all_plain text ≡ plain → (length text ≤ coded_size text) × (coded_size text ≤ 1 + length text)
size_by text true e = let size : coded_size text ≡ length text = ap (λ c. if c then length text else 1 + length text) e in (omega arith, omega arith)
size_by text false e = let size : coded_size text ≡ 1 + length text = ap (λ c. if c then length text else 1 + length text) e in (omega arith, omega arith)

pub coded_size-bounds : (text : List ℕ) → (length text ≤ coded_size text) × (coded_size text ≤ 1 + length text)
coded_size-bounds text = size_by text (all_plain text) refl

pub coded_size-plain : (text : List ℕ) → all_plain text ≡ true → coded_size text ≡ length text
coded_size-plain text e = ap (λ c. if c then length text else 1 + length text) e

pub coded_size-other : (text : List ℕ) → all_plain text ≡ false → coded_size text ≡ 1 + length text
coded_size-other text e = ap (λ c. if c then length text else 1 + length text) e

-- ---- boundaries as a test

pub is_boundary-true : (text : List ℕ) (n : ℕ) → IsCharBoundary text n → is_boundary text n ≡ true
is_boundary-true text n h = grind (arith, nat_tests)

pub IsCharBoundary-from_test : (text : List ℕ) (n : ℕ) → is_boundary text n ≡ true → IsCharBoundary text n
IsCharBoundary-from_test text n h = grind (arith, nat_tests)

-- ---- the greatest cut

step : (text : List ℕ) (n : ℕ) → greatest_cut text (suc n) ≡ (if is_cut text (suc n) then suc n else greatest_cut text n)
unfolding greatest_cut
step text n = refl

none : (text : List ℕ) → greatest_cut text 0 ≡ 0
unfolding greatest_cut
none text = refl

-- the greatest number up to n that passes the test, or 0
record IsGreatest (text : List ℕ) (n r : ℕ) : Type 0 where
  pub within : r ≤ n
  pub passes : 0 < r → is_cut text r ≡ true
  pub greatest : (m : ℕ) → r < m → m ≤ n → is_cut text m ≡ false

greater : (text : List ℕ) (n r : ℕ) (c : Bool) → is_cut text (suc n) ≡ c → IsGreatest text n r → IsGreatest text (suc n) (if c then suc n else r)
greater text n r true e h = record { within = omega arith; passes = λ _. e; greatest = λ m lt le. absurd (omega arith) }
greater text n r false e h = record {
  within = omega (arith, h.within);
  passes = h.passes;
  greatest = λ m lt le. elim (cases_lt m (suc n)) [
    | inl less ↦ h.greatest m lt (omega arith)
    | inr more ↦ let same : m ≡ suc n = omega arith in ap (is_cut text) same ∙ e
  ];
}

greatest_cut-is : (text : List ℕ) (n : ℕ) → IsGreatest text n (greatest_cut text n)
greatest_cut-is text zero = record {
  within = omega (arith, none text);
  passes = λ lt. absurd (omega (arith, none text));
  greatest = λ m lt le. absurd (omega arith);
}
greatest_cut-is text (suc n) = subst (IsGreatest text (suc n)) (sym (step text n)) (greater text n (greatest_cut text n) (is_cut text (suc n)) refl (greatest_cut-is text n))

-- ---- the longest cut

too_long : (text : List ℕ) (m : ℕ) → IsCharBoundary text m → is_cut text m ≡ false → 249 < coded_size (take m text)
too_long text m h e =
    let whole = is_boundary-true text m h in
    let size : nat_le (coded_size (take m text)) 249 ≡ false = ap (λ c. c && nat_le (coded_size (take m text)) 249) (sym whole) ∙ e in
    grind (arith, nat_tests)

beyond : (text : List ℕ) (m : ℕ) → 249 < m → IsCharBoundary text m → 249 < coded_size (take m text)
beyond text m lt h = omega (arith, length-take-le m text h.0, (coded_size-bounds (take m text)).0)

longest_from : (text : List ℕ) (r : ℕ) → IsUtf8 text → IsGreatest text 249 r → IsLongestCut text r
longest_from text zero u h = record {
  whole = IsCharBoundary-start text u;
  fits = omega arith;
  longest = λ m lt b. elim (cases_lt 249 m) [
    | inl far ↦ beyond text m far b
    | inr near ↦ too_long text m b (h.greatest m lt near)
  ];
}
longest_from text (suc r) u h =
    let passes : is_cut text (suc r) ≡ true = h.passes (omega arith) in
    let size = second_true (is_boundary text (suc r)) (nat_le (coded_size (take (suc r) text)) 249) passes in
    record {
      whole = IsCharBoundary-from_test text (suc r) (first_true (is_boundary text (suc r)) (nat_le (coded_size (take (suc r) text)) 249) passes);
      fits = grind (arith, nat_tests);
      longest = λ m lt b. elim (cases_lt 249 m) [
        | inl far ↦ beyond text m far b
        | inr near ↦ too_long text m b (h.greatest m lt near)
      ];
    }

pub cut_size-longest : (text : List ℕ) → IsUtf8 text → IsLongestCut text (cut_size text)
unfolding cut_size
cut_size-longest text u = longest_from text (greatest_cut text 249) u (greatest_cut-is text 249)

-- there is one longest cut
pub longest-same : (text : List ℕ) (n m : ℕ) → IsLongestCut text n → IsLongestCut text m → n ≡ m
longest-same text n m hn hm = elim (cases_lt n m) [
  | inl less ↦ absurd (omega (arith, hn.longest m less hm.whole, hm.fits))
  | inr le ↦ elim (cases_lt m n) [
    | inl less ↦ absurd (omega (arith, hm.longest n less hn.whole, hn.fits))
    | inr ge ↦ omega arith
  ]
]

pub cut_size-is : (text : List ℕ) (n : ℕ) → IsUtf8 text → IsLongestCut text n → n ≡ cut_size text
cut_size-is text n u h = longest-same text n (cut_size text) h (cut_size-longest text u)

pub cut_size-le : (text : List ℕ) → IsUtf8 text → cut_size text ≤ length text
cut_size-le text u = (cut_size-longest text u).whole.0

-- ---- a cut before the text's end is long, and no cut of a text that has a byte is empty

first_char : (text : List ℕ) (n : ℕ) → n < length text → IsUtf8 (drop n text) → (c : ℕ) × (rest : List ℕ) × (drop n text ≡ encode_utf8 c ++ rest)
first_char text n lt ([], (s, e)) = absurd (omega (arith, length-drop n text, ap length e))
first_char text n lt (c ∷ cs, (s, e)) = (c, encode_utf8_all cs, sym e)

pub next_boundary : (text : List ℕ) (n : ℕ) → IsUtf8 text → n < length text → IsCharBoundary text n → (m : ℕ) × (n < m) × (m ≤ n + 4) × IsCharBoundary text m
next_boundary text n u lt b =
    let behind = IsUtf8-drop text n u b in
    let first = first_char text n lt behind in
    let width = len_utf8_bounds first.0 in
    (n + len_utf8 first.0, omega (arith, width.0), omega (arith, width.1), IsCharBoundary-past_char text first.1 n first.0 (omega arith) behind first.2)

pub cut_size-large : (text : List ℕ) → IsUtf8 text → cut_size text < length text → 245 ≤ cut_size text
cut_size-large text u lt =
    let h = cut_size-longest text u in
    let next = next_boundary text (cut_size text) u lt h.whole in
    let more = h.longest next.0 next.1 next.3 in
    let size = coded_size-bounds (take next.0 text) in
    omega (arith, more, size.1, length-take-le next.0 text (next.3).0, next.2)

pub cut_size-pos : (text : List ℕ) → IsUtf8 text → 0 < length text → 0 < cut_size text
cut_size-pos text u lt = elim (cases_lt (cut_size text) (length text)) [
  | inl less ↦ omega (arith, cut_size-large text u less)
  | inr le ↦ omega arith
]
