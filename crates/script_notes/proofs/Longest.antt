-- The whole entries of a text are its longest front that ends with the line of an outcome.
use Rattle.std.proofs.Common.{◌≡◌, ◌⊎◌, ◌∙◌, ◌++◌, ◌∷◌, [], ℕ, List, Bool, true, false, refl, sym, ap, subst, inl, inr, append_assoc, append-nil}
use Rattle.std.specs.Prelude.{◌==◌, flat_map}
use Rattle.std.specs.List.{list_any}
use Rattle.std.proofs.lemmas.Bool.{cases_Bool}
use Rattle.std.proofs.lemmas.List.Concat.{flat_map-append}
use Rattle.si_lists.proofs.Lists.{all_front}
use Rattle.si_causes.specs.Lines.{onto_whole, whole_lines}
use Rattle.script_notes.specs.ReportLaws.{EndsWithOutcome, WholeEntriesAreLongest}
use Rattle.script_notes.specs.Whole.{begins_outcome, up_to_last, whole_entries, with_end}
use Rattle.script_notes.proofs.ReportLineFacts.{AreLines, IsOneLine, up_end, up_more, up_none, up_over, whole_many, whole_rest}

-- each whole line is one line
onto_lines : (b : ℕ) (lines : List (List ℕ)) → (b == 10) ≡ false → AreLines lines → AreLines (onto_whole b lines)
onto_lines b [] e h = tt
onto_lines b (line ∷ lines) e h = (rw e h.0, h.1)

are_lines : (text : List ℕ) → AreLines (whole_lines text)
are_lines [] = tt
are_lines (b ∷ bs) = elim (cases_Bool (b == 10)) [
  | inl e ↦ rw e (refl, are_lines bs)
  | inr e ↦ rw e (onto_lines b (whole_lines bs) e (are_lines bs))
]

module _ {A : Type 0} (test : A → Bool) where
  -- those up to the last that passes come first
  up_front : (xs : List A) → (more : List A) × (xs ≡ up_to_last test xs ++ more)
  up_front [] = ([], refl)
  up_front (x ∷ xs) = elim (cases_Bool (list_any test (x ∷ xs))) [
    | inl e ↦ let (more, is) = up_front xs in (more, rw e (ap (λ (l : List A). x ∷ l) is))
    | inr e ↦ (x ∷ xs, rw e refl)
  ]

  -- and the last of them passes
  up_last : (xs : List A) → list_any test xs ≡ true → (ys : List A) × (y : A) × (up_to_last test xs ≡ ys ++ y ∷ []) × (test y ≡ true)
  up_last [] h = cc h
  up_last (x ∷ xs) h = elim (cases_Bool (list_any test xs)) [
    | inl e ↦ let (ys, y, is, passes) = up_last xs e in (x ∷ ys, y, up_over test (x ∷ []) xs e ∙ ap (λ (l : List A). x ∷ l) is, passes)
    | inr e ↦ elim (cases_Bool (test x)) [
      | inl passes ↦ ([], x, up_more test (x ∷ []) xs e ∙ up_end test [] x passes, passes)
      | inr fails ↦ absurd (let k = rw (fails, e) at h in cc k)
    ]
  ]

-- ---- the whole entries

module _ (text : List ℕ) where
  abbrev here : List (List ℕ)
  here = up_to_last begins_outcome (whole_lines text)

  here_first : (more : List (List ℕ)) × (whole_lines text ≡ here ++ more)
  here_first = up_front begins_outcome (whole_lines text)

  front_is : (behind : List ℕ) × (text ≡ whole_entries text ++ behind)
  front_is =
      let (tail, is) = whole_rest text in
      let (more, parts) = here_first in
      let split : flat_map with_end (whole_lines text) ≡ whole_entries text ++ flat_map with_end more = ap (flat_map with_end) parts ∙ flat_map-append with_end here more in
      (flat_map with_end more ++ tail, is ∙ ap (λ (l : List ℕ). l ++ tail) split ∙ append_assoc (whole_entries text) (flat_map with_end more) tail)

  ends_so : (whole_entries text ≡ []) ⊎ EndsWithOutcome (whole_entries text)
  ends_so = elim (cases_Bool (list_any begins_outcome (whole_lines text))) [
    | inr none ↦ inl (ap (flat_map with_end) (up_none begins_outcome (whole_lines text) none))
    | inl some ↦
        let (lines, last, is, outcome) = up_last begins_outcome (whole_lines text) some in
        let (more, parts) = here_first in
        let each : AreLines here = all_front IsOneLine here more (subst AreLines parts (are_lines text)) in
        inr (record {
          lines = lines;
          last = last;
          text_is = ap (flat_map with_end) is;
          one_each = subst AreLines is each;
          outcome = outcome;
        })
  ]

  longest_is : (other behind : List ℕ) → text ≡ other ++ behind → EndsWithOutcome other → (more : List ℕ) × (whole_entries text ≡ other ++ more)
  longest_is other behind parts ends =
      let all = ends.lines ++ ends.last ∷ [] in
      let lines : whole_lines text ≡ all ++ whole_lines behind =
      ap whole_lines (parts ∙ ap (λ (l : List ℕ). l ++ behind) ends.text_is) ∙ whole_many all behind ends.one_each in
      elim (cases_Bool (list_any begins_outcome (whole_lines behind))) [
        | inl some ↦
            let rest = up_to_last begins_outcome (whole_lines behind) in (
              flat_map with_end rest,
              ap (λ (l : List (List ℕ)). flat_map with_end (up_to_last begins_outcome l)) lines
                  ∙ ap (flat_map with_end) (up_over begins_outcome all (whole_lines behind) some)
                  ∙ flat_map-append with_end all rest
                  ∙ ap (λ (l : List ℕ). l ++ flat_map with_end rest) (sym ends.text_is),
            )
        | inr none ↦ (
          [],
          ap (λ (l : List (List ℕ)). flat_map with_end (up_to_last begins_outcome l)) lines
              ∙ ap (flat_map with_end) (up_more begins_outcome all (whole_lines behind) none ∙ up_end begins_outcome ends.lines ends.last ends.outcome)
              ∙ sym ends.text_is
              ∙ sym (append-nil other),
        )
      ]

pub entries_are_longest : WholeEntriesAreLongest
entries_are_longest text = record { front = front_is text; ends = ends_so text; longest = longest_is text }
