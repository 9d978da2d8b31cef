-- Fields of digits, letters and signs, which csv does not quote.
use Rattle.std.proofs.Common.{◌≡◌, ◌==◌, ◌&&◌, ◌<◌, ◌*◌, ◌^◌, ◌∷◌, [], ℕ, List, Bool, refl, true, false, inl, inr, arith}
use Rattle.std.specs.Prelude.{codes, decimal, nat_le, if◌then◌else◌}
use Rattle.std.specs.Char.{is_ascii_digit}
use Rattle.std.specs.List.{list_all, list_any}
use Rattle.std.proofs.lemmas.Bool.{cases_Bool, eqb-true, and_parts}
use Rattle.std.proofs.lemmas.Bool.Decides.{nat_tests}
use Rattle.csv.specs.Writing.{default_writer, field_text, needs_byte}
use Rattle.si_time.specs.Readings.{has_shape}
use Rattle.si_time.specs.Moments.{moment_text}
use Rattle.guide_model.specs.Decoding.{IsKept}
use Rattle.input_lines.specs.Numbers.{is_digit}
use Rattle.input_lines.proofs.CleanText.{is_plain_char, IsClean}
use Rattle.input_lines.proofs.CleanLines.{kept_from}
use Rattle.si_time.proofs.TextFacts.{moment_in-only, moment_in-moment_text}
use Rattle.script_lines.proofs.NumberBack.{digits_of}
use Rattle.si_lists.proofs.Filters.{list_all-more}
use Rattle.guide_model.specs.Control.{is_printing}
use Rattle.journal_text.proofs.CleanRows.{clean_append, clean_none, clean_byte}

-- ---- bytes that stand for themselves

plain_printing : (b : ℕ) → is_printing b ≡ true → (b < 128) × (is_plain_char b ≡ true)
plain_printing b h = (grind (arith, nat_tests), grind (arith, nat_tests))

pub printing_clean : (xs : List ℕ) → list_all is_printing xs ≡ true → IsClean xs
printing_clean [] h = clean_none
printing_clean (x ∷ xs) h =
    let (p, q) = and_parts (is_printing x) (list_all is_printing xs) h in
    let b = plain_printing x p in
    clean_append (x ∷ []) xs (clean_byte x b.0 b.1) (printing_clean xs q)

pub printing_kept : (xs : List ℕ) → list_all is_printing xs ≡ true → IsKept xs
printing_kept xs h = kept_from xs (printing_clean xs h)

digit_printing : (b : ℕ) → is_digit b ≡ true → is_printing b ≡ true
digit_printing b h = grind (arith, nat_tests)

pub digits_printing : (xs : List ℕ) → list_all is_digit xs ≡ true → list_all is_printing xs ≡ true
digits_printing = list_all-more is_digit is_printing digit_printing

-- a byte that no field is quoted for
abbrev pub is_written : ℕ → Bool
is_written b = nat_le 45 b && nat_le b 126

written_printing : (b : ℕ) → is_written b ≡ true → is_printing b ≡ true
written_printing b h = grind (arith, nat_tests)

digit_written : (b : ℕ) → is_digit b ≡ true → is_written b ≡ true
digit_written b h = grind (arith, nat_tests)

pub digits_written : (xs : List ℕ) → list_all is_digit xs ≡ true → list_all is_written xs ≡ true
digits_written = list_all-more is_digit is_written digit_written

-- bytes of a shape of such bytes
shape_byte : (s b : ℕ) → is_written s ≡ true → (if s == 100 then is_ascii_digit b else b == s) ≡ true → is_written b ≡ true
shape_byte s b p h = elim (cases_Bool (s == 100)) [
  | inl e ↦ (let d : is_ascii_digit b ≡ true = rw e at h in grind (arith, nat_tests))
  | inr e ↦ (let d : (b == s) ≡ true = rw e at h in let same : b ≡ s = eqb-true b s d in rw same p)
]

pub shape_written : (shape xs : List ℕ) → list_all is_written shape ≡ true → has_shape shape xs ≡ true → list_all is_written xs ≡ true
shape_written [] [] p h = refl
shape_written [] (x ∷ xs) p h = cc h
shape_written (s ∷ shape) [] p h = cc h
shape_written (s ∷ shape) (x ∷ xs) p h =
    let (a, b) = and_parts (is_written s) (list_all is_written shape) p in
    let (c, d) = and_parts (if s == 100 then is_ascii_digit x else x == s) (has_shape shape xs) h in
    rw (shape_byte s x a c) (shape_written shape xs b d)

pub written_kept : (xs : List ℕ) → list_all is_written xs ≡ true → IsKept xs
written_kept xs h = printing_kept xs (list_all-more is_written is_printing written_printing xs h)

pub moment_written : (t : ℕ) → t < 65536 * 86400 → list_all is_written (moment_text t) ≡ true
moment_written t h = shape_written (codes "dddd-dd-ddTdd:dd:ddZ") (moment_text t) refl (moment_in-only (moment_text t) t (moment_in-moment_text t h)).shape

pub number_written : (n : ℕ) → n < 2 ^ 64 → list_all is_written (decimal n) ≡ true
number_written n lt = digits_written (decimal n) (digits_of n lt)

pub number_kept : (n : ℕ) → n < 2 ^ 64 → IsKept (decimal n)
number_kept n lt = written_kept (decimal n) (number_written n lt)

-- ---- fields that csv does not quote

abbrev pub all_written : List (List ℕ) → Bool
all_written fields = list_all (λ (f : List ℕ). list_all is_written f) fields

plain_byte : (b : ℕ) → is_written b ≡ true → needs_byte default_writer b ≡ false
plain_byte b h =
    let comma : (b == 44) ≡ false = grind (arith, nat_tests) in
    let mark : (b == 34) ≡ false = grind (arith, nat_tests) in
    let cr : (b == 13) ≡ false = grind (arith, nat_tests) in
    let lf : (b == 10) ≡ false = grind (arith, nat_tests) in
    rw (comma, mark, cr, lf) refl

plain_text : (xs : List ℕ) → list_all is_written xs ≡ true → list_any (needs_byte default_writer) xs ≡ false
plain_text [] h = refl
plain_text (x ∷ xs) h =
    let (p, q) = and_parts (is_written x) (list_all is_written xs) h in
    rw (plain_byte x p) (plain_text xs q)

-- a field of digits, letters and signs that csv does not quote
pub plain_field : (xs : List ℕ) → list_all is_written xs ≡ true → field_text default_writer xs ≡ xs
plain_field xs h = rw (plain_text xs h) refl
