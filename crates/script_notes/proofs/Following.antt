-- What may be ahead of a reader, before lines that were handed out.
use Rattle.std.proofs.Common.{◌≡◌, ◌+◌, ℕ, Bool, true, false, List, [], ◌∷◌, ◌++◌, length, refl, sym, ap, ◌∙◌, arith, length-append}
use Rattle.std.specs.Prelude.{map}
use Rattle.si_causes.specs.Reading.{Reading}
use Rattle.si_causes.specs.Lines.{after_line, first_line, raw_lines, shown}
use Rattle.si_causes.proofs.LineFacts.{raw_step}
use Rattle.input_lines.specs.Going.{HandedOut, shown_all}
use Rattle.input_lines.specs.Ahead.{Tail, Ends}
use Rattle.input_lines.proofs.LastLines.{nothing_front}
use Rattle.input_lines.proofs.LineReads.{Known}
use Rattle.script_notes.specs.Held.{MayBeAhead}

nothing_behind : {A : Type 0} (xs ys : List A) → xs ++ ys ≡ [] → ys ≡ []
nothing_behind [] ys e = e
nothing_behind (x ∷ xs) ys e = absurd cc

no_bytes : (held : List ℕ) → shown_all (held ++ []) ≡ [] → held ≡ []
no_bytes [] e = refl
no_bytes (b ∷ bs) e =
    let lines : shown_all (b ∷ (bs ++ [])) ≡ shown (first_line (b ∷ (bs ++ []))) ∷ map shown (raw_lines (after_line (b ∷ (bs ++ [])))) = ap (map shown) (raw_step (b ∷ (bs ++ [])) (λ none. cc)) in
    let none : [] ≡ shown (first_line (b ∷ (bs ++ []))) ∷ map shown (raw_lines (after_line (b ∷ (bs ++ [])))) = sym e ∙ lines in
    absurd (cc none)

still_ended : (old new : Bool) → (new ≡ false → old ≡ false) → old ≡ true → new ≡ true
still_ended old true since e = refl
still_ended old false since e = cc (e, since refl)

-- A reader that has ended and holds no byte hands out no line, and stays so.
at_end_still : {S : Type 0} (left : S → Known) (now new : Reading S) (lines : List (List ℕ)) → HandedOut left now new lines → now.ended ≡ true → now.held ≡ [] → (lines ≡ []) × (new.ended ≡ true) × (new.held ≡ [])
at_end_still left now new lines handed ended nothing =
    let quiet : handed.more ≡ [] = handed.quiet ended in
    let bytes : (now.held ++ handed.more) ++ [] ≡ [] = ap (λ (l : List ℕ). (l ++ handed.more) ++ []) nothing ∙ ap (λ (l : List ℕ). l ++ []) quiet in
    let all : lines ++ shown_all (new.held ++ []) ≡ [] = sym (handed.all [] (λ e. refl)) ∙ ap shown_all bytes in (
      nothing_front lines (shown_all (new.held ++ [])) all,
      still_ended now.ended new.ended handed.since ended,
      no_bytes new.held (nothing_behind lines (shown_all (new.held ++ [])) all),
    )

-- What may be ahead of a reader may be ahead of it behind the lines that it handed out.
pub before_more : {S : Type 0} (left : S → Known) (now new : Reading S) (lines more : List (List ℕ)) (tail : Tail) → HandedOut left now new lines → new.number ≡ now.number + length lines
    → MayBeAhead new more tail → MayBeAhead now (lines ++ more) tail
before_more left now new lines more tail handed count may = record {
  last = λ n is. omega (arith, may.last n is, count, length-append lines more);
  ended = λ ended nothing.
      let still = at_end_still left now new lines handed ended nothing in
      let b = may.ended still.1 still.2 in
      let same : new.number ≡ now.number = omega (arith, count, ap length still.0) in
      (ap (λ l. l ++ more) still.0 ∙ b.0, b.1 ∙ ap (λ k. Ends (k + 1)) same);
}
