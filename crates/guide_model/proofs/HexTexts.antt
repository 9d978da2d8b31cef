-- Descriptors as text: of which characters it is, and that one is read back.
use Rattle.std.proofs.Common.{◌≡◌, ◌≢◌, ℕ, zero, suc, ◌*◌, ◌/◌, ◌%◌, ◌<◌, ◌≤◌, ◌++◌, ◌∷◌, [], Bool, true, List, length, refl, ap, ◌∙◌, arith, length-append}
use Rattle.std.specs.Prelude.{slice_index, Ok}
use Rattle.std.specs.List.{AllByRecursion, list_all}
use Rattle.std.proofs.lemmas.Bool.{and_parts}
use Rattle.std.proofs.lemmas.List.Folds.{list_all-append}
use Rattle.hex.specs.Hex.{IsBytes, decode_of, encode_lower, encode_with, lower_digits}
use Rattle.hex.proofs.HexLemmas.{decode_of-encode_lower, length-encode_with}
use Rattle.guide_model.specs.declared.descriptor.RawDesc.{RawDesc}
use Rattle.guide_model.proofs.SoundFacts.{size_more}
use Rattle.guide_model.specs.Descriptors.{descriptor_text, descriptors_size, descriptors_text, FitsDescriptor, IsOfBytes}

-- ---- bytes

abbrev IsByte : ℕ → Type 0
IsByte b = b ≤ 255

all_bytes : (xs : List ℕ) → AllByRecursion IsByte xs → IsBytes xs
all_bytes [] h i = omega arith
all_bytes (x ∷ xs) h zero = omega (arith, h.0)
all_bytes (x ∷ xs) h (suc i) = all_bytes xs h.1 i

pub bytes_all : (xs : List ℕ) → IsBytes xs → AllByRecursion (λ (b : ℕ). b ≤ 255) xs
bytes_all [] h = tt
bytes_all (x ∷ xs) h = (let first = h 0 in omega (arith, first), bytes_all xs (λ i. h (suc i)))

-- ---- read back

pub text_back : (d : RawDesc) → IsOfBytes d → FitsDescriptor d → decode_of (descriptor_text d) ≡ Ok (d.tag ∷ length d.body ∷ d.body)
text_back d bytes fits =
    let size : length d.body % 256 ≡ length d.body = omega (arith, fits) in
    let most : length d.body ≤ 255 = omega (arith, fits) in
    ap (λ (n : ℕ). decode_of (encode_lower (d.tag ∷ n ∷ d.body))) size
    ∙ decode_of-encode_lower (d.tag ∷ length d.body ∷ d.body) (all_bytes (d.tag ∷ length d.body ∷ d.body) (bytes.0, (most, bytes.1)))

-- ---- what holds of all sixteen digits holds of the text

digit_at : (p : ℕ → Bool) (xs : List ℕ) (i : ℕ) → list_all p xs ≡ true → i < length xs → p (slice_index xs i) ≡ true
digit_at p [] i h lt = absurd (omega (arith, lt))
digit_at p (x ∷ xs) zero h lt = (and_parts (p x) (list_all p xs) h).0
digit_at p (x ∷ xs) (suc i) h lt = digit_at p xs i (and_parts (p x) (list_all p xs) h).1 (omega (arith, lt))

encoded_all : (p : ℕ → Bool) (bytes : List ℕ) → list_all p lower_digits ≡ true → AllByRecursion IsByte bytes → list_all p (encode_lower bytes) ≡ true
unfolding encode_with
encoded_all p [] has h = refl
encoded_all p (b ∷ bytes) has h =
    let fits : b ≤ 255 = h.0 in
    let high : b / 16 < 16 = omega (arith, fits) in
    let low : b % 16 < 16 = omega arith in
    rw (digit_at p lower_digits (b / 16) has high, digit_at p lower_digits (b % 16) has low, encoded_all p bytes has h.1) refl

pub text_all : (p : ℕ → Bool) (d : RawDesc) → list_all p lower_digits ≡ true → IsOfBytes d → list_all p (descriptor_text d) ≡ true
text_all p d has h =
    let size : length d.body % 256 ≤ 255 = omega arith in
    encoded_all p (d.tag ∷ length d.body % 256 ∷ d.body) has (h.0, (size, h.1))

-- and of the text of several, where it holds of a space
pub texts_all : (p : ℕ → Bool) (ds : List RawDesc) → list_all p lower_digits ≡ true → p 32 ≡ true → AllByRecursion IsOfBytes ds → list_all p (descriptors_text ds) ≡ true
texts_all p [] has space h = refl
texts_all p (d ∷ []) has space h = text_all p d has h.0
texts_all p (d ∷ e ∷ ds) has space h =
    list_all-append p (descriptor_text d) (32 ∷ descriptors_text (e ∷ ds))
    ∙ rw (text_all p d has h.0, space, texts_all p (e ∷ ds) has space h.1) refl

-- ---- how many characters it has

length-encoded : (bytes : List ℕ) → length (encode_lower bytes) ≡ 2 * length bytes
length-encoded bytes = length-encode_with lower_digits bytes

-- two of each byte, and a space between
pub texts_size : (ds : List RawDesc) → length (descriptors_text ds) ≤ 3 * descriptors_size ds
texts_size [] = omega arith
texts_size (d ∷ []) = omega (arith, size_more d [], length-encoded (d.tag ∷ length d.body % 256 ∷ d.body))
texts_size (d ∷ e ∷ ds) =
    omega (arith, size_more d (e ∷ ds), length-encoded (d.tag ∷ length d.body % 256 ∷ d.body), texts_size (e ∷ ds), length-append (descriptor_text d) (32 ∷ descriptors_text (e ∷ ds)))

-- some bytes
pub texts_some : (d : RawDesc) (ds : List RawDesc) → descriptors_text (d ∷ ds) ≢ []
texts_some d [] e =
    let none : length (descriptor_text d) ≡ 0 = ap length e in
    omega (arith, none, length-encoded (d.tag ∷ length d.body % 256 ∷ d.body))
texts_some d (f ∷ ds) e =
    let none : length (descriptor_text d ++ 32 ∷ descriptors_text (f ∷ ds)) ≡ 0 = ap length e in
    omega (arith, none, length-append (descriptor_text d) (32 ∷ descriptors_text (f ∷ ds)))
