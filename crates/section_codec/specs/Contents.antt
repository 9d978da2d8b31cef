-- The content of a sub-table: its numbers and bodies (ISO/IEC 13818-1, 2.4.4.7 to 2.4.4.9; EN 300 468, 5.1.1).
use Rattle.std.specs.Prelude.{◌≡◌, ◌↔◌, ℕ, zero, suc, ◌+◌, ◌<◌, ◌==◌, ◌&&◌, Bool, true, false, if◌then◌else◌, List, [], ◌∷◌, map, Option, Some, None, bytes_eq}
use Rattle.section_codec.specs.declared.table.NumberedBody.{NumberedBody}

-- what a sub-table carries: the number and the body of each of its sections, in order
abbrev pub Content : Type 0
Content = List NumberedBody

abbrev pub is_content : Content → Content → Bool
is_content [] [] = true
is_content (x ∷ xs) (y ∷ ys) = x.number == y.number && bytes_eq x.body y.body && is_content xs ys
is_content [] (y ∷ ys) = false
is_content (x ∷ xs) [] = false

-- the numbers of these sections
abbrev pub numbers : List NumberedBody → List ℕ
numbers sections = map (λ (s : NumberedBody). s.number) sections

-- the numbers from n on, k of them
abbrev pub numbers_from : ℕ → ℕ → List ℕ
numbers_from n zero = []
numbers_from n (suc k) = n ∷ numbers_from (1 + n) k

-- the number of the last section
abbrev pub last_number : List NumberedBody → ℕ
last_number [] = 0
last_number (s ∷ []) = s.number
last_number (s ∷ t ∷ ss) = last_number (t ∷ ss)

-- each number is above the one before
abbrev pub Ascend : List NumberedBody → Type 0
Ascend [] = Unit {0}
Ascend (s ∷ []) = Unit {0}
Ascend (s ∷ t ∷ ss) = (s.number < t.number) × Ascend (t ∷ ss)

-- the body of a number
abbrev pub part_in : ℕ → List NumberedBody → Option (List ℕ)
part_in n [] = None
part_in n (s ∷ ss) = if n == s.number then Some s.body else part_in n ss

-- Contents are compared as values: number by number and body by body.
abbrev pub ContentsAreCompared : Type 0
ContentsAreCompared = (a b : Content) → (is_content a b ≡ true) ↔ (a ≡ b)
