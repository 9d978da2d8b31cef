-- The pieces of a text that is too long for one descriptor (EN 300 468, 6.2.15: an extended_event_descriptor has
-- room for 249 bytes of text where it has no items).
use Rattle.std.specs.Prelude.{◌≡◌, ℕ, zero, suc, ◌<◌, ◌≤◌, Bool, ◌||◌, ◌&&◌, ◌==◌, nat_lt, nat_le, List, [], ◌∷◌, ◌++◌, length, take, drop, slice_index, if◌then◌else◌, IsCharBoundary}
use Rattle.guide_model.specs.Coding.{coded_size}

-- a character begins at n, or the text ends there: in UTF-8 the first byte of a character is below 0x80 or at least 0xC0
abbrev pub is_boundary : List ℕ → ℕ → Bool
is_boundary text n =
    n == length text || (nat_lt n (length text) && (nat_lt (slice_index text n) 0x80 || nat_le 0xC0 (slice_index text n)))

-- the first n bytes of a text are whole characters, and their coded form has at most 249 bytes
abbrev pub is_cut : List ℕ → ℕ → Bool
is_cut text n = is_boundary text n && nat_le (coded_size (take n text)) 249

-- the greatest such number up to n
unfoldable pub greatest_cut : List ℕ → ℕ → ℕ
greatest_cut text zero = zero
greatest_cut text (suc n) =
    let less = greatest_cut text n in
    if is_cut text (suc n) then suc n else less

-- the greatest of all, since no coded form is shorter than its text
unfoldable pub cut_size : List ℕ → ℕ
cut_size text = greatest_cut text 249

-- at most so many pieces from the front of a text, each of them the longest
unfoldable pub first_pieces : ℕ → List ℕ → List (List ℕ)
first_pieces zero text = []
first_pieces (suc n) [] = []
first_pieces (suc n) (b ∷ bytes) =
    let text = b ∷ bytes in
    take (cut_size text) text ∷ first_pieces n (drop (cut_size text) text)

-- the pieces of a text; it has no more of them than bytes
unfoldable pub pieces : List ℕ → List (List ℕ)
pieces text = first_pieces (length text) text

-- The same without a count: a text may be cut behind n bytes, what stands before is coded in at most 249 bytes, and
-- what stands before a later place is not.
pub record IsLongestCut (text : List ℕ) (n : ℕ) : Type 0 where
  pub whole : IsCharBoundary text n
  pub fits : coded_size (take n text) ≤ 249
  pub longest : (m : ℕ) → n < m → IsCharBoundary text m → 249 < coded_size (take m text)

-- Each of these is the longest front of what is left of the text, and nothing is left behind the last.
abbrev pub ArePieces : List ℕ → List (List ℕ) → Type 0
ArePieces text [] = text ≡ []
ArePieces text (piece ∷ more) = (rest : List ℕ) × (text ≡ piece ++ rest) × IsLongestCut text (length piece) × ArePieces rest more
