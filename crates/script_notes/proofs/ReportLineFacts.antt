-- The whole lines of a text, and those up to the last that passes a test.
use Rattle.std.proofs.Common.{◌≡◌, ◌≢◌, ◌∙◌, ◌+◌, ◌||◌, ◌++◌, ◌∷◌, [], ℕ, List, Bool, true, false, refl, sym, ap, arith, length, inl, inr, append_assoc, append-nil, length-append}
use Rattle.std.specs.Prelude.{◌==◌, flat_map, if◌then◌else◌}
use Rattle.std.specs.List.{AllByRecursion, list_any}
use Rattle.std.proofs.lemmas.Bool.{cases_Bool}
use Rattle.std.proofs.lemmas.List.Folds.{list_any-append}
use Rattle.si_lists.proofs.Lists.{two_fronts}
use Rattle.si_causes.specs.Lines.{has_end, onto_whole, whole_lines}
use Rattle.script_notes.specs.Whole.{begins_outcome, up_to_last, with_end}

-- ---- lines

-- a line without an LF in it
abbrev pub IsOneLine : List ℕ → Type 0
IsOneLine line = has_end line ≡ false

abbrev pub AreLines : List (List ℕ) → Type 0
AreLines lines = AllByRecursion IsOneLine lines

-- the first byte of such a line is no LF, and the others are such a line
line_parts : (b : ℕ) (bs : List ℕ) → IsOneLine (b ∷ bs) → ((b == 10) ≡ false) × IsOneLine bs
line_parts b bs h = elim (cases_Bool (b == 10)) [
  | inl e ↦ absurd (let k = rw e at h in cc k)
  | inr e ↦ (e, let k = rw e at h in k)
]

whole_one : (line rest : List ℕ) → IsOneLine line → whole_lines (with_end line ++ rest) ≡ line ∷ whole_lines rest
whole_one [] rest h = refl
whole_one (b ∷ bs) rest h = (let (e, k) = line_parts b bs h in rw e (ap (onto_whole b) (whole_one bs rest k)))

-- lines, and what stands behind them
pub whole_many : (lines : List (List ℕ)) (rest : List ℕ) → AreLines lines → whole_lines (flat_map with_end lines ++ rest) ≡ lines ++ whole_lines rest
whole_many [] rest h = refl
whole_many (line ∷ lines) rest h =
    ap whole_lines (append_assoc (with_end line) (flat_map with_end lines) rest)
    ∙ whole_one line (flat_map with_end lines ++ rest) h.0
    ∙ ap (λ (l : List (List ℕ)). line ∷ l) (whole_many lines rest h.1)

onto_more : (b : ℕ) (xs more : List (List ℕ)) → (others : List (List ℕ)) × (onto_whole b (xs ++ more) ≡ onto_whole b xs ++ others)
onto_more b [] more = (onto_whole b more, refl)
onto_more b (x ∷ xs) more = (more, refl)

-- the lines of a front are the first of all
pub whole_front : (a b : List ℕ) → (more : List (List ℕ)) × (whole_lines (a ++ b) ≡ whole_lines a ++ more)
whole_front [] b = (whole_lines b, refl)
whole_front (x ∷ a) b =
    let (more, is) = whole_front a b in
    elim (cases_Bool (x == 10)) [
      | inl e ↦ (more, rw e (ap (λ (l : List (List ℕ)). [] ∷ l) is))
      | inr e ↦ let (others, same) = onto_more x (whole_lines a) more in (others, rw e (ap (onto_whole x) is ∙ same))
    ]

onto_rest : (b : ℕ) (lines : List (List ℕ)) (rest : List ℕ)
    → (tail : List ℕ) × (b ∷ flat_map with_end lines ++ rest ≡ flat_map with_end (onto_whole b lines) ++ tail)
onto_rest b [] rest = (b ∷ rest, refl)
onto_rest b (line ∷ lines) rest = (rest, refl)

-- the whole lines of a text are its front
pub whole_rest : (text : List ℕ) → (tail : List ℕ) × (text ≡ flat_map with_end (whole_lines text) ++ tail)
whole_rest [] = ([], refl)
whole_rest (b ∷ bs) =
    let (tail, is) = whole_rest bs in
    elim (cases_Bool (b == 10)) [
      | inl e ↦
          let lf : b ≡ 10 = grind arith in
          (tail, rw e (ap (λ (x : ℕ). x ∷ bs) lf ∙ ap (λ (l : List ℕ). 10 ∷ l) is))
      | inr e ↦
          let (rest, same) = onto_rest b (whole_lines bs) tail in
          (rest, rw e (ap (λ (l : List ℕ). b ∷ l) is ∙ same))
    ]

-- ---- up to the last that passes

module _ {A : Type 0} (test : A → Bool) where
  pub up_none : (xs : List A) → list_any test xs ≡ false → up_to_last test xs ≡ []
  up_none [] h = refl
  up_none (x ∷ xs) h = rw h refl

  pub up_over : (xs ys : List A) → list_any test ys ≡ true → up_to_last test (xs ++ ys) ≡ xs ++ up_to_last test ys
  up_over [] ys h = refl
  up_over (x ∷ xs) ys h =
      let some : list_any test (x ∷ xs ++ ys) ≡ true = list_any-append test (x ∷ xs) ys ∙ rw h (either (list_any test (x ∷ xs))) in
      rw some (ap (λ (l : List A). x ∷ l) (up_over xs ys h))
    where
      either : (b : Bool) → (b || true) ≡ true
      either true = refl
      either false = refl

  pub up_more : (xs ys : List A) → list_any test ys ≡ false → up_to_last test (xs ++ ys) ≡ up_to_last test xs
  up_more [] ys h = up_none ys h
  up_more (x ∷ xs) ys h =
      let same : list_any test (x ∷ xs ++ ys) ≡ list_any test (x ∷ xs) = list_any-append test (x ∷ xs) ys ∙ rw h (neither (list_any test (x ∷ xs))) in
      rw same (ap (λ (l : List A). if list_any test (x ∷ xs) then x ∷ l else []) (up_more xs ys h))
    where
      neither : (b : Bool) → (b || false) ≡ b
      neither true = refl
      neither false = refl

  pub up_end : (xs : List A) (x : A) → test x ≡ true → up_to_last test (xs ++ x ∷ []) ≡ xs ++ x ∷ []
  up_end xs x h =
      let here : list_any test (x ∷ []) ≡ true = rw h refl in
      up_over xs (x ∷ []) here ∙ rw here refl

  pub any_front : (xs ys : List A) → list_any test (xs ++ ys) ≡ false → list_any test xs ≡ false
  any_front xs ys h = first (list_any test xs) (list_any test ys) (sym (list_any-append test xs ys) ∙ h)
    where
      first : (a b : Bool) → (a || b) ≡ false → a ≡ false
      first true b e = e
      first false b e = refl

-- what holds of each holds of those up to the last that passes
pub all_up : {A : Type 0} (P : A → Type 0) (test : A → Bool) (xs : List A) → AllByRecursion P xs → AllByRecursion P (up_to_last test xs)
all_up P test [] h = tt
all_up P test (x ∷ xs) h = elim (cases_Bool (list_any test (x ∷ xs))) [
  | inl e ↦ rw e (h.0, all_up P test xs h.1)
  | inr e ↦ rw e tt
]

-- ---- a cut text

-- of lines of which just the last begins an outcome, a proper front has none that does
pub cut_none : (lines : List (List ℕ)) (last part rest : List ℕ) → AreLines (lines ++ last ∷ []) → list_any begins_outcome lines ≡ false
    → flat_map with_end (lines ++ last ∷ []) ≡ part ++ rest → rest ≢ [] → list_any begins_outcome (whole_lines part) ≡ false
cut_none lines last part rest are none text proper =
    let all = lines ++ last ∷ [] in
    let (more, is) = whole_front part rest in
    let split : all ++ [] ≡ whole_lines part ++ more = sym (whole_many all [] are) ∙ ap whole_lines (append-nil (flat_map with_end all) ∙ text) ∙ is in
    by_more more (sym (append-nil all) ∙ split)
  where
    some_rest : length rest ≡ 0 → ⊥
    some_rest e = proper (nothing rest e)
      where
        nothing : (xs : List ℕ) → length xs ≡ 0 → xs ≡ []
        nothing [] e = refl
        nothing (x ∷ xs) e = absurd (omega (arith, e))

    by_more : (more : List (List ℕ)) → lines ++ last ∷ [] ≡ whole_lines part ++ more → list_any begins_outcome (whole_lines part) ≡ false
    by_more [] e =
        let (tail, is) = whole_rest part in
        let same : flat_map with_end (whole_lines part) ≡ part ++ rest = ap (flat_map with_end) (sym (append-nil (whole_lines part)) ∙ sym e) ∙ text in
        let longer : length part ≡ length (flat_map with_end (whole_lines part)) + length tail = ap length is ∙ length-append (flat_map with_end (whole_lines part)) tail in
        let size : length (flat_map with_end (whole_lines part)) ≡ length part + length rest = ap length same ∙ length-append part rest in
        absurd (some_rest (omega (arith, longer, size)))
    by_more (m ∷ ms) e = elim (two_fronts lines (last ∷ []) (whole_lines part) (m ∷ ms) e) [
      | inl (more, front, others) ↦ any_front begins_outcome (whole_lines part) more (ap (list_any begins_outcome) (sym front) ∙ none)
      | inr (more, front, others) ↦
          let size : 1 ≡ length more + length (m ∷ ms) = ap length others ∙ length-append more (m ∷ ms) in
          let empty : more ≡ [] = short more (omega (arith, size)) in
          ap (list_any begins_outcome) (front ∙ ap (λ (l : List (List ℕ)). lines ++ l) empty ∙ append-nil lines) ∙ none
    ]
      where
        short : (xs : List (List ℕ)) → length xs ≡ 0 → xs ≡ []
        short [] e = refl
        short (x ∷ xs) e = absurd (omega (arith, e))
