-- Contents with ascending numbers.
use Rattle.std.proofs.Common.{◌≡◌, ℕ, ◌+◌, ◌<◌, ◌≤◌, List, [], ◌∷◌, Bool, true, false, ◌==◌, Some, length, refl, ap, ◌∙◌, arith, eq-eqb, eqb-true}
use Rattle.std.specs.Prelude.{if◌then◌else◌}
use Rattle.std.specs.List.{AllByRecursion}
use Rattle.section_codec.specs.declared.table.NumberedBody.{NumberedBody}
use Rattle.section_codec.specs.Contents.{numbers, numbers_from, last_number, Ascend, part_in}

all_map : (P Q : NumberedBody → Type 0) → ((s : NumberedBody) → P s → Q s) → (ss : List NumberedBody) → AllByRecursion P ss → AllByRecursion Q ss
all_map P Q f [] all = tt
all_map P Q f (s ∷ ss) all = (f s all.0, all_map P Q f ss all.1)

-- the numbers behind the first are above it
pub above_first : (s : NumberedBody) (ss : List NumberedBody) → Ascend (s ∷ ss) → AllByRecursion (λ (t : NumberedBody). s.number < t.number) ss
above_first s [] up = tt
above_first s (t ∷ ss) up =
    let lt : s.number < t.number = up.0 in
    (lt, all_map (λ (u : NumberedBody). t.number < u.number) (λ (u : NumberedBody). s.number < u.number) (λ (u : NumberedBody) (h : t.number < u.number). (omega (arith, lt, h))) ss (above_first t ss up.1))

pub Ascend-rest : (s : NumberedBody) (ss : List NumberedBody) → Ascend (s ∷ ss) → Ascend ss
Ascend-rest s [] up = tt
Ascend-rest s (t ∷ ss) up = up.1

-- each section has the body of its number
pub own_parts : (ss : List NumberedBody) → Ascend ss → AllByRecursion (λ (s : NumberedBody). part_in s.number ss ≡ Some s.body) ss
own_parts [] up = tt
own_parts (s ∷ ss) up =
    (ap (λ (b : Bool). if b then Some s.body else part_in s.number ss) (eq-eqb s.number s.number refl), others ss (own_parts ss (Ascend-rest s ss up)) (above_first s ss up))
  where
    behind : (t : NumberedBody) → part_in t.number ss ≡ Some t.body → s.number < t.number → (b : Bool) → (t.number == s.number) ≡ b → (if t.number == s.number then Some s.body else part_in t.number ss) ≡ Some t.body
    behind t own lt true e = let same : t.number ≡ s.number = eqb-true t.number s.number e in absurd (omega (arith, lt, same))
    behind t own lt false e = ap (λ (b : Bool). if b then Some s.body else part_in t.number ss) e ∙ own

    others : (ts : List NumberedBody) → AllByRecursion (λ (t : NumberedBody). part_in t.number ss ≡ Some t.body) ts → AllByRecursion (λ (t : NumberedBody). s.number < t.number) ts
        → AllByRecursion (λ (t : NumberedBody). part_in t.number (s ∷ ss) ≡ Some t.body) ts
    others [] own up = tt
    others (t ∷ ts) own up = (behind t own.0 up.0 (t.number == s.number) refl, others ts own.1 up.1)

-- the last number is the highest
pub below_last : (ss : List NumberedBody) → Ascend ss → AllByRecursion (λ (s : NumberedBody). s.number ≤ last_number ss) ss
below_last [] up = tt
below_last (s ∷ []) up = (omega arith, tt)
below_last (s ∷ t ∷ ss) up =
    let rest = below_last (t ∷ ss) up.1 in
    let lt : s.number < t.number = up.0 in
    (omega (arith, lt, rest.0), rest)

-- the last of the numbers from n on
pub last_number-from : (n : ℕ) (ss : List NumberedBody) → numbers ss ≡ numbers_from n (length ss) → 0 < length ss → 1 + last_number ss ≡ n + length ss
last_number-from n [] are some = absurd (omega arith)
last_number-from n (s ∷ []) are some =
    let here : s.number ≡ n = cc in
    omega (arith, here)
last_number-from n (s ∷ t ∷ ss) are some =
    let rest : numbers (t ∷ ss) ≡ numbers_from (1 + n) (length (t ∷ ss)) = cc in
    omega (arith, last_number-from (1 + n) (t ∷ ss) rest (omega arith))

-- numbers from n on ascend
pub Ascend-from : (n : ℕ) (ss : List NumberedBody) → numbers ss ≡ numbers_from n (length ss) → Ascend ss
Ascend-from n [] are = tt
Ascend-from n (s ∷ []) are = tt
Ascend-from n (s ∷ t ∷ ss) are =
    let here : s.number ≡ n = cc in
    let rest : numbers (t ∷ ss) ≡ numbers_from (1 + n) (length (t ∷ ss)) = cc in
    let next : t.number ≡ 1 + n = cc in
    (omega (arith, here, next), Ascend-from (1 + n) (t ∷ ss) rest)
