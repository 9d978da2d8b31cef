-- A line of eight fields.
use Rattle.std.proofs.Common.{◌≡◌, ◌∙◌, ap, ℕ, ◌<◌, ◌≤◌, true, false, List, [], ◌∷◌, length, get_or, refl, arith}
use Rattle.std.specs.Prelude.{codes}
use Rattle.input_lines.specs.Numbers.{is_word}
use Rattle.mux_lines.specs.declared.record.RecordFound.{RecordFound}
use Rattle.mux_lines.specs.Fields.{eight_in, remote_in}

abbrev At : List (List ℕ) → ℕ → List ℕ → Type 0
At xs i x = x ≡ get_or xs i x

-- what the word and the fields after it say
abbrev pub said_by : (word a b c d e f g : List ℕ) → RecordFound
said_by word a b c d e f g = eight_in (word ∷ a ∷ b ∷ c ∷ d ∷ e ∷ f ∷ g ∷ [])

pub of_eight : (xs : List (List ℕ)) (w a b c d e f g : List ℕ) → 8 ≤ length xs → length xs < 9
    → At xs 0 w → At xs 1 a → At xs 2 b → At xs 3 c → At xs 4 d → At xs 5 e → At xs 6 f → At xs 7 g → said_by w a b c d e f g ≡ eight_in xs
of_eight (x1 ∷ x2 ∷ x3 ∷ x4 ∷ x5 ∷ x6 ∷ x7 ∷ x8 ∷ []) w a b c d e f g low high a1 a2 a3 a4 a5 a6 a7 a8 =
    ap (λ (v : List ℕ). said_by v a b c d e f g) a1
    ∙ ap (λ (v : List ℕ). said_by x1 v b c d e f g) a2
    ∙ ap (λ (v : List ℕ). said_by x1 x2 v c d e f g) a3
    ∙ ap (λ (v : List ℕ). said_by x1 x2 x3 v d e f g) a4
    ∙ ap (λ (v : List ℕ). said_by x1 x2 x3 x4 v e f g) a5
    ∙ ap (λ (v : List ℕ). said_by x1 x2 x3 x4 x5 v f g) a6
    ∙ ap (λ (v : List ℕ). said_by x1 x2 x3 x4 x5 x6 v g) a7
    ∙ ap (λ (v : List ℕ). said_by x1 x2 x3 x4 x5 x6 x7 v) a8
of_eight other w a b c d e f g low high a1 a2 a3 a4 a5 a6 a7 a8 = absurd (omega arith)

-- what a service of another stream is said by
pub third_word : (w a b c d e f g : List ℕ) → is_word (codes "service") w ≡ false → is_word (codes "other") w ≡ false → is_word (codes "remote") w ≡ true → remote_in a b c d e f g ≡ said_by w a b c d e f g
third_word w a b c d e f g one two three = rw (one, two, three) refl
