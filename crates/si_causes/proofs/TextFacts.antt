-- The lines of a text, one after another, and what `next` gives of them.
use Rattle.std.proofs.Common.{◌≡◌, ◌≢◌, ℕ, ◌+◌, ◌-◌, ◌<◌, ◌≤◌, Bool, true, false, cond, List, [], ◌∷◌, ◌++◌, length, take, map, refl, sym, ap, ◌∙◌, subst, arith, inl, inr, append-nil, append_assoc, length-append}
use Rattle.std.specs.Prelude.{nat_le, Option, Some, None, Ok, Err}
use Rattle.std.specs.Io.KnownBytes.{Consumes, IsAtEnd, prepend_known}
use Rattle.std.proofs.KnownBytes.{prepend_known-nil}
use Rattle.std.proofs.lemmas.Bool.Decides.{nat_tests, leb_tells}
use Rattle.std.proofs.Math.Seq.{take-append-add, take-append_seam}
use Rattle.std.proofs.lemmas.Bool.{le-leb, cases_Bool}
use Rattle.si_causes.specs.Lines.{first_line, after_line, has_end, raw_lines, whole_lines, shown}
use Rattle.si_causes.specs.Text.{TextEnd, AtEnd, PastLimit, text_limit, lines_in, end_in, lines_left}
use Rattle.si_causes.specs.Reading.{Reading, LineCame, EndCame, StopCame, GivesLine, fresh, fresh_to, text_left, room}
use Rattle.si_causes.specs.Gathering.{GatherStop, hand}
use Rattle.si_causes.specs.declared.stop.ReadStop.{ReadStop}
use Rattle.si_causes.specs.declared.stop.ReadStop.TheVariants.{Failed, TooLong}
use Rattle.si_causes.proofs.LineFacts.{raw_step, whole_step, whole_none, parted, first_of_front, after_of_front, end_of_front, after_line_none, some_length}

lt-leb-false : (a b : ℕ) → b < a → nat_le a b ≡ false
lt-leb-false a b lt = grind (arith, nat_tests)

-- The first line of a text of which n bytes may be taken, where these hold an LF.
lines_step : (n : ℕ) (a b : List ℕ) → has_end a ≡ true → length a ≤ n
    → (lines_in n (a ++ b) ≡ first_line a ∷ lines_in (n - (length (first_line a) + 1)) (after_line a ++ b)) × (end_in n (a ++ b) ≡ end_in (n - (length (first_line a) + 1)) (after_line a ++ b))
lines_step n a b h le =
    let first = first_line a in
    let part = parted a h in
    let m = n - (length first + 1) in
    elim (leb_tells (length (a ++ b)) n) [
      | inl within ↦
          let inside : nat_le (length (a ++ b)) n ≡ true = within.0 in
          let then : nat_le (length (after_line a ++ b)) m ≡ true = le-leb _ _ (omega (arith, within.1, part, length-append a b, length-append (after_line a) b)) in
          let ne : a ++ b ≢ [] = λ e. absurd (omega (arith, part, ap length e, length-append a b)) in (
            ap (λ t. cond t (raw_lines (a ++ b)) (whole_lines (take n (a ++ b)))) inside
                ∙ raw_step (a ++ b) ne ∙ ap (λ l. l ∷ raw_lines (after_line (a ++ b))) (first_of_front a b h) ∙ ap (λ l. first ∷ raw_lines l) (after_of_front a b h)
                ∙ ap (λ t. first ∷ cond t (raw_lines (after_line a ++ b)) (whole_lines (take m (after_line a ++ b)))) (sym then),
            ap (λ t. cond t AtEnd PastLimit) (inside ∙ sym then),
          )
      | inr beyond ↦
          let outside : nat_le (length (a ++ b)) n ≡ false = beyond.0 in
          let then : nat_le (length (after_line a ++ b)) m ≡ false = lt-leb-false _ _ (omega (arith, beyond.1, part, length-append a b, length-append (after_line a) b)) in
          let k = n - length a in
          let whole : n ≡ length a + k = omega arith in
          let rest : m ≡ length (after_line a) + k = omega (arith, part) in
          let front : take n (a ++ b) ≡ a ++ take k b = ap (λ x. take x (a ++ b)) whole ∙ take-append-add a b k in
          let back : take m (after_line a ++ b) ≡ after_line a ++ take k b = ap (λ x. take x (after_line a ++ b)) rest ∙ take-append-add (after_line a) b k in (
            ap (λ t. cond t (raw_lines (a ++ b)) (whole_lines (take n (a ++ b)))) outside
                ∙ ap whole_lines front ∙ whole_step (a ++ take k b) (end_of_front a (take k b) h)
                ∙ ap (λ l. l ∷ whole_lines (after_line (a ++ take k b))) (first_of_front a (take k b) h)
                ∙ ap (λ l. first ∷ whole_lines l) (after_of_front a (take k b) h ∙ sym back)
                ∙ ap (λ t. first ∷ cond t (raw_lines (after_line a ++ b)) (whole_lines (take m (after_line a ++ b)))) (sym then),
            ap (λ t. cond t AtEnd PastLimit) (outside ∙ sym then),
          )
    ]

-- a last line without an LF
lines_last : (n m : ℕ) (a : List ℕ) → has_end a ≡ false → a ≢ [] → length a ≤ n
    → (lines_in n a ≡ first_line a ∷ lines_in m []) × (end_in n a ≡ end_in m [])
lines_last n m a h ne le =
    let in_n : nat_le (length a) n ≡ true = grind (arith, nat_tests) in
    let in_m : nat_le 0 m ≡ true = grind (arith, nat_tests) in
    (rw (in_n, in_m) (raw_step a ne ∙ ap (λ l. first_line a ∷ raw_lines l) (after_line_none a h)), rw (in_n, in_m) refl)

-- the shown lines from the raw ones
lines_shown : (n m : ℕ) (a b first : List ℕ) → lines_in n a ≡ first ∷ lines_in m b → end_in n a ≡ end_in m b → lines_left n a ≡ (shown first ∷ (lines_left m b).0, (lines_left m b).1)
lines_shown n m a b first lines end =
    ap (λ (l : List (List ℕ)). let p : List (List ℕ) × TextEnd = (map shown l, end_in n a) in p) lines
    ∙ ap (λ (e : TextEnd). let p : List (List ℕ) × TextEnd = (shown first ∷ map shown (lines_in m b), e) in p) end

-- what a told source has left after it gave some bytes
still_told : (old new : Option (List ℕ)) (more all : List ℕ) → old ≡ Some all → Consumes old new more → (rest : List ℕ) × (new ≡ Some rest) × (all ≡ more ++ rest)
still_told None new more all e c = cc
still_told (Some xs) None more all e c = absurd c
still_told (Some xs) (Some ys) more all e c = let same : xs ≡ all = cc in (ys, refl, sym same ∙ c)

-- what a source has left behind the bytes that are held
held_told : (held : List ℕ) (left : Option (List ℕ)) (text : List ℕ) → prepend_known held left ≡ Some text → (rest : List ℕ) × (left ≡ Some rest) × (text ≡ held ++ rest)
held_told held None text e = cc
held_told held (Some rest) text e = let same : held ++ rest ≡ text = cc in (rest, refl, sym same)

pub nothing_left : (o : Option (List ℕ)) (rest : List ℕ) → o ≡ Some rest → IsAtEnd o → rest ≡ []
nothing_left None rest e end = cc
nothing_left (Some xs) rest e end = let same : xs ≡ rest = cc in sym same ∙ end

-- each line takes a byte
pub line_falls : {S : Type 0} (left : S → Option (List ℕ)) (old new : Reading S) (n : ℕ) (more : List ℕ) → LineCame left old new n more → room new < room old
line_falls left old new n more came =
    let t = old.held ++ more in
    elim (cases_Bool (has_end t)) [
      | inl whole ↦ omega (arith, came.passed, came.within, came.limit, parted t whole, ap length came.rest)
      | inr open_end ↦ omega (arith, came.passed, came.within, came.limit, some_length t (came.last open_end).0, ap length (came.rest ∙ after_line_none t open_end))
    ]

-- the line that came is the first of those that were left of a told text
pub line_gives : {S : Type 0} (left : S → Option (List ℕ)) (old new : Reading S) (n : ℕ) (more text : List ℕ) → LineCame left old new n more → text_left left old ≡ Some text
    → GivesLine left old new (lines_left (room old) text) (Ok (Some n))
line_gives left old new n more text came told =
    let h = held_told old.held (left old.source) text told in
    let s = still_told (left old.source) (left new.source) more h.0 h.1 came.gave in
    let t = old.held ++ more in
    let fits : length t ≤ room old = omega (arith, came.passed, came.within) in
    elim (cases_Bool (has_end t)) [
      | inl whole ↦
          let all : text ≡ t ++ s.0 = h.2 ∙ ap (λ l. old.held ++ l) s.2 ∙ sym (append_assoc old.held more s.0) in
          let less : room old - (length (first_line t) + 1) ≡ room new = omega (arith, came.passed, came.within, came.limit, parted t whole, ap length came.rest) in
          let step = lines_step (room old) t s.0 whole fits in
          let now : text_left left new ≡ Some (after_line t ++ s.0) = ap (prepend_known new.held) s.1 ∙ ap (λ l. Some (l ++ s.0)) came.rest in
          let lines = ap (lines_left (room old)) all
          ∙ lines_shown (room old) (room old - (length (first_line t) + 1)) (t ++ s.0) (after_line t ++ s.0) (first_line t) step.0 step.1
          ∙ ap (λ (m : ℕ). let p : List (List ℕ) × TextEnd = (shown (first_line t) ∷ (lines_left m (after_line t ++ s.0)).0, (lines_left m (after_line t ++ s.0)).1) in p) less in
          subst (λ p. GivesLine left old new p (Ok (Some n))) (sym lines) (came.number, came.line, (after_line t ++ s.0, now, refl))
      | inr open_end ↦
          let last = came.last open_end in
          let none : s.0 ≡ [] = nothing_left (left new.source) s.0 s.1 last.1 in
          let all : text ≡ t = h.2 ∙ ap (λ l. old.held ++ l) (s.2 ∙ ap (λ l. more ++ l) none ∙ append-nil more) in
          let step = lines_last (room old) (room new) t open_end last.0 fits in
          let now : text_left left new ≡ Some [] = ap (prepend_known new.held) (s.1 ∙ ap Some none) ∙ ap (λ l. Some (l ++ [])) (came.rest ∙ after_line_none t open_end) in
          let lines = ap (lines_left (room old)) all ∙ lines_shown (room old) (room new) t [] (first_line t) step.0 step.1 in
          subst (λ p. GivesLine left old new p (Ok (Some n))) (sym lines) (came.number, came.line, ([], now, refl))
    ]

-- the end comes where nothing is left of a told text
pub end_gives : {S : Type 0} (left : S → Option (List ℕ)) (old new : Reading S) (text : List ℕ) → EndCame left old new → text_left left old ≡ Some text
    → GivesLine left old new (lines_left (room old) text) (Ok None)
end_gives left old new text came told =
    let h = held_told old.held (left old.source) text told in
    let s = still_told (left old.source) (left new.source) [] h.0 h.1 came.gave in
    let none : s.0 ≡ [] = nothing_left (left new.source) s.0 s.1 came.at_end in
    let all : text ≡ [] = h.2 ∙ ap (λ l. l ++ h.0) came.held ∙ s.2 ∙ none in
    let within : nat_le 0 (room old) ≡ true = grind (arith, nat_tests) in
    let now : text_left left new ≡ Some [] = ap (prepend_known new.held) (s.1 ∙ ap Some none) ∙ ap (λ l. Some (l ++ [])) came.rest in
    let lines : lines_left (room old) text ≡ ([], AtEnd) = ap (lines_left (room old)) all
    ∙ ap (λ (b : Bool). let p : List (List ℕ) × TextEnd = (map shown (cond b [] (whole_lines (take (room old) []))), cond b AtEnd PastLimit) in p) within in
    subst (λ p. GivesLine left old new p (Ok None)) (sym lines) now

-- a told text is past its limit before its next line is whole
past_lines : {S : Type 0} (left : S → Option (List ℕ)) (old : Reading S) (source : S) (text more : List ℕ) (byte : ℕ)
    → Consumes (left old.source) (left source) (more ++ byte ∷ []) → old.passed + length (old.held ++ more) ≡ old.limit → has_end (old.held ++ more) ≡ false → text_left left old ≡ Some text
    → lines_left (room old) text ≡ ([], PastLimit)
past_lines left old source text more byte gave full no_end told =
    let h = held_told old.held (left old.source) text told in
    let s = still_told (left old.source) (left source) (more ++ byte ∷ []) h.0 h.1 gave in
    let t = old.held ++ more in
    let all : text ≡ t ++ byte ∷ s.0 = h.2 ∙ ap (λ l. old.held ++ l) (s.2 ∙ append_assoc more (byte ∷ []) s.0) ∙ sym (append_assoc old.held more (byte ∷ s.0)) in
    let size : room old ≡ length t = omega (arith, full) in
    let beyond : nat_le (length (t ++ byte ∷ s.0)) (room old) ≡ false = lt-leb-false _ _ (omega (arith, size, length-append t (byte ∷ s.0))) in
    let fore : take (room old) (t ++ byte ∷ s.0) ≡ t = ap (λ n. take n (t ++ byte ∷ s.0)) size ∙ take-append_seam t (byte ∷ s.0) in
    ap (lines_left (room old)) all
    ∙ ap (λ (b : Bool). let p : List (List ℕ) × TextEnd = (map shown (cond b (raw_lines (t ++ byte ∷ s.0)) (whole_lines (take (room old) (t ++ byte ∷ s.0)))), cond b AtEnd PastLimit) in p) beyond
    ∙ ap (λ (l : List (List ℕ)). let p : List (List ℕ) × TextEnd = (map shown l, PastLimit) in p) (ap whole_lines fore ∙ whole_none t no_end)

-- a read that failed gives nothing of the lines
failed_gives : {S : Type 0} (left : S → Option (List ℕ)) (old new : Reading S) (lines : List (List ℕ) × TextEnd) → GivesLine left old new lines (Err Failed)
failed_gives left old new (line ∷ lines, AtEnd) = tt
failed_gives left old new (line ∷ lines, PastLimit) = tt
failed_gives left old new ([], AtEnd) = tt
failed_gives left old new ([], PastLimit) = tt

-- what a stop gives of the lines that were left
pub stop_gives : {S : Type 0} (left : S → Option (List ℕ)) (faults : S → ℕ) (old new : Reading S) (line new_line : List ℕ) (taken new_taken : ℕ) (stop : ReadStop) (text : List ℕ)
    → taken ≡ old.passed + length old.held → GatherStop left faults (hand old.source old.held line taken old.limit) (hand new.source new.held new_line new_taken new.limit) stop → text_left left old ≡ Some text
    → GivesLine left old new (lines_left (room old) text) (Err stop)
stop_gives left faults old new line new_line taken new_taken Failed text start stopped told = failed_gives left old new (lines_left (room old) text)
stop_gives left faults old new line new_line taken new_taken TooLong text start stopped told =
    let full : old.passed + length (old.held ++ stopped.0) ≡ old.limit = omega (arith, start, stopped.3, length-append old.held stopped.0) in
    subst (λ p. GivesLine left old new p (Err TooLong)) (sym (past_lines left old new.source text stopped.0 stopped.1 stopped.2 full stopped.4 told)) tt

-- what a stop tells, where nothing else of the reader changed
pub stop_came : {S : Type 0} (left : S → Option (List ℕ)) (faults : S → ℕ) (old new : Reading S) (line new_line : List ℕ) (taken new_taken : ℕ) (stop : ReadStop)
    → taken ≡ old.passed + length old.held → GatherStop left faults (hand old.source old.held line taken old.limit) (hand new.source new.held new_line new_taken new.limit) stop
    → new.passed ≡ old.passed → new.number ≡ old.number → new.stop ≡ Some stop → StopCame left faults old new stop
stop_came left faults old new line new_line taken new_taken Failed start stopped passed count is =
    record { front = (stopped.0, stopped.1, stopped.2); cause = stopped.3; passed = passed; count = count; stopped = is }
stop_came left faults old new line new_line taken new_taken TooLong start stopped passed count is =
    let full : old.passed + length (old.held ++ stopped.0) ≡ old.limit = omega (arith, start, stopped.3, length-append old.held stopped.0) in
    record { over = (stopped.0, stopped.1, stopped.2, full, stopped.4); passed = passed; count = count; stopped = is }

-- ---- what a caller takes from the clause `lines`

-- a reader that has read nothing has the source's text left
pub fresh_text_to : {S : Type 0} (left : S → Option (List ℕ)) (limit : ℕ) (source : S) → text_left left (fresh_to limit source) ≡ left source
fresh_text_to left limit source = prepend_known-nil (left source)

pub fresh_text : {S : Type 0} (left : S → Option (List ℕ)) (source : S) → text_left left (fresh source) ≡ left source
fresh_text left source = fresh_text_to left text_limit source

-- and as much room as a text may have
pub fresh_room : {S : Type 0} (source : S) → room (fresh source) ≡ text_limit
fresh_room source = refl

-- a line was the first of those left, and the others are left
pub given_line : {S : Type 0} (left : S → Option (List ℕ)) (old new : Reading S) (lines : List (List ℕ) × TextEnd) (n : ℕ) → GivesLine left old new lines (Ok (Some n))
    → (n ≡ old.number + 1) × ((rest : List ℕ) × (text_left left new ≡ Some rest) × (lines ≡ (new.line ∷ (lines_left (room new) rest).0, (lines_left (room new) rest).1)))
given_line left old new (line ∷ lines, end) n gives = (
  gives.0,
  (
    gives.2.0,
    gives.2.1,
    ap (λ (l : List ℕ). let p : List (List ℕ) × TextEnd = (l ∷ lines, end) in p) (sym gives.1)
        ∙ ap (λ (q : List (List ℕ) × TextEnd). let p : List (List ℕ) × TextEnd = (new.line ∷ q.0, q.1) in p) (sym gives.2.2),
  ),
)
given_line left old new ([], AtEnd) n gives = absurd gives
given_line left old new ([], PastLimit) n gives = absurd gives

-- the end comes where no line is left, and nothing behind it
pub given_end : {S : Type 0} (left : S → Option (List ℕ)) (old new : Reading S) (lines : List (List ℕ) × TextEnd) → GivesLine left old new lines (Ok None)
    → (lines ≡ ([], AtEnd)) × (text_left left new ≡ Some [])
given_end left old new (line ∷ lines, end) gives = absurd gives
given_end left old new ([], AtEnd) gives = (refl, gives)
given_end left old new ([], PastLimit) gives = absurd gives

-- TooLong comes where no line is left before the limit
pub given_past : {S : Type 0} (left : S → Option (List ℕ)) (old new : Reading S) (lines : List (List ℕ) × TextEnd) → GivesLine left old new lines (Err TooLong)
    → lines ≡ ([], PastLimit)
given_past left old new (line ∷ lines, end) gives = absurd gives
given_past left old new ([], AtEnd) gives = absurd gives
given_past left old new ([], PastLimit) gives = refl

-- one more line is done: of all lines the first were done, and then a line came
pub lines_more : (all left rest : List (List ℕ) × TextEnd) (done : List (List ℕ)) (line : List ℕ) → all ≡ (done ++ left.0, left.1) → left ≡ (line ∷ rest.0, rest.1)
    → all ≡ ((done ++ line ∷ []) ++ rest.0, rest.1)
lines_more all left rest done line all_is left_is =
    all_is ∙ ap (λ (q : List (List ℕ) × TextEnd). let p : List (List ℕ) × TextEnd = (done ++ q.0, q.1) in p) left_is
    ∙ ap (λ (l : List (List ℕ)). let p : List (List ℕ) × TextEnd = (l, rest.1) in p) (sym (append_assoc done (line ∷ []) rest.0))
