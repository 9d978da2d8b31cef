-- Lines, one after another, of which some are passed over.
use Rattle.std.proofs.Common.{◌≡◌, ◌≢◌, ℕ, ◌+◌, ◌≤◌, Bool, true, false, List, [], ◌∷◌, ◌++◌, length, map, refl, sym, ap, ◌∙◌, subst, arith, inl, inr, append-nil, append_assoc, length-append}
use Rattle.std.specs.Prelude.{Option, Some, None, Ok, Err, Result, IfSome}
use Rattle.std.specs.List.{list_all}
use Rattle.std.proofs.KnownBytes.{Consumes-nil, Consumes-trans}
use Rattle.std.proofs.lemmas.List.Folds.{list_all-append}
use Rattle.std.proofs.lemmas.Bool.{cases_Bool}
use Rattle.si_causes.proofs.CauseFacts.{Rose-from}
use Rattle.si_causes.specs.Causes.{Rose}
use Rattle.si_causes.specs.Lines.{first_line, after_line, has_end, shown}
use Rattle.si_causes.specs.Reading.{Reading, LineCame as Came, EndCame, FailedCame, StopCame, GivesLine, text_left}
use Rattle.si_causes.specs.Text.{TextEnd, AtEnd, PastLimit}
use Rattle.si_causes.specs.declared.stop.ReadStop.{ReadStop}
use Rattle.si_causes.specs.declared.stop.ReadStop.TheVariants.{Failed, TooLong}
use Rattle.si_causes.proofs.LineFacts.{raw_step, whole_step, whole_none, first_of_front, after_of_front, end_of_front}
use Rattle.si_causes.proofs.TextFacts.{given_line, given_end, given_past}
use Rattle.input_lines.specs.Lines.{Lines, is_passed, lines_of, record_lines}
use Rattle.input_lines.specs.Going.{HandedOut, WereWhole, LineCame, NoneCame, FaultCame, RecordCame, shown_whole, shown_all}
use Rattle.input_lines.specs.Records.{FirstRecord, NoRecord, NoneInLimit, GivesRecord}

abbrev Known : Type 0
Known = Option (List ℕ)

-- ---- over bytes

pub handed_none : {S : Type 0} (left : S → Known) (reader : Reading S) → HandedOut left reader reader []
handed_none left reader = record {
  more = [];
  gave = Consumes-nil (left reader.source);
  since = λ e. e;
  quiet = λ e. refl;
  whole = λ e behind. ap (λ l. shown_whole (l ++ behind)) (append-nil reader.held);
  all = λ behind last. ap (λ l. shown_all (l ++ behind)) (append-nil reader.held);
}

-- a reader that has ended stays so
stays_ended : (a b : Bool) → (b ≡ false → a ≡ false) → a ≡ true → b ≡ true
stays_ended a true since e = refl
stays_ended a false since e = cc (e, since refl)

-- lines of bytes that are given in two parts
in_parts : (lines : List ℕ → List (List ℕ)) (a b c more then_more : List ℕ) (before then : List (List ℕ)) (behind : List ℕ)
    → lines ((a ++ more) ++ (then_more ++ behind)) ≡ before ++ lines (b ++ (then_more ++ behind))
    → lines ((b ++ then_more) ++ behind) ≡ then ++ lines (c ++ behind)
    → lines ((a ++ (more ++ then_more)) ++ behind) ≡ (before ++ then) ++ lines (c ++ behind)
in_parts lines a b c more then_more before then behind first second =
    ap (λ l. lines (l ++ behind)) (sym (append_assoc a more then_more))
    ∙ ap lines (append_assoc (a ++ more) then_more behind)
    ∙ first
    ∙ ap (λ l. before ++ lines l) (sym (append_assoc b then_more behind))
    ∙ ap (λ l. before ++ l) second
    ∙ sym (append_assoc before then (lines (c ++ behind)))

pub handed_more : {S : Type 0} (left : S → Known) (a b c : Reading S) (before then : List (List ℕ)) → HandedOut left a b before → HandedOut left b c then → HandedOut left a c (before ++ then)
handed_more left a b c before then h k = record {
  more = h.more ++ k.more;
  gave = Consumes-trans (left a.source) (left b.source) (left c.source) h.more k.more h.gave k.gave;
  since = λ e. h.since (k.since e);
  quiet = λ e. ap (λ l. l ++ k.more) (h.quiet e) ∙ k.quiet (stays_ended a.ended b.ended h.since e);
  whole = λ e behind. in_parts shown_whole a.held b.held c.held h.more k.more before then behind (h.whole (k.since e) (k.more ++ behind)) (k.whole e behind);
  all = λ behind last. in_parts shown_all a.held b.held c.held h.more k.more before then behind
      (h.all (k.more ++ behind) (λ e. ap (λ l. l ++ behind) (k.quiet e) ∙ last (stays_ended b.ended c.ended k.since e)))
      (k.all behind last);
}

pub whole_more : {S : Type 0} (left : S → Known) (a b c : Reading S) (before then : List (List ℕ)) → HandedOut left a b before → b.ended ≡ false → WereWhole left b c then → WereWhole left a c (before ++ then)
whole_more left a b c before then h e k = record {
  more = h.more ++ k.more;
  gave = Consumes-trans (left a.source) (left b.source) (left c.source) h.more k.more h.gave k.gave;
  whole =
      ap shown_whole (sym (append_assoc a.held h.more k.more))
      ∙ h.whole e k.more
      ∙ ap (λ l. before ++ l) k.whole;
}

some_end : (t : List ℕ) → has_end t ≡ true → t ≢ []
some_end [] h none = cc
some_end (b ∷ t) h none = cc

line_whole : {S : Type 0} (left : S → Known) (old new : Reading S) (n : ℕ) (more : List ℕ) → Came left old new n more → new.ended ≡ false → (behind : List ℕ)
    → shown_whole ((old.held ++ more) ++ behind) ≡ new.line ∷ shown_whole (new.held ++ behind)
line_whole left old new n more came going behind =
    let t = old.held ++ more in
    elim (cases_Bool (has_end t)) [
      | inl whole ↦
          ap (map shown) (whole_step (t ++ behind) (end_of_front t behind whole))
          ∙ ap (λ (l : List ℕ). shown l ∷ shown_whole (after_line (t ++ behind))) (first_of_front t behind whole)
          ∙ ap (λ (l : List ℕ). shown (first_line t) ∷ shown_whole l) (after_of_front t behind whole)
          ∙ ap (λ (l : List ℕ). shown (first_line t) ∷ shown_whole (l ++ behind)) (sym came.rest)
          ∙ ap (λ (l : List ℕ). l ∷ shown_whole (new.held ++ behind)) (sym came.line)
      | inr open_end ↦ cc (going, (came.last open_end).2)
    ]

line_all : {S : Type 0} (left : S → Known) (old new : Reading S) (n : ℕ) (more : List ℕ) → Came left old new n more → (behind : List ℕ) → (new.ended ≡ true → behind ≡ [])
    → shown_all ((old.held ++ more) ++ behind) ≡ new.line ∷ shown_all (new.held ++ behind)
line_all left old new n more came behind last =
    let t = old.held ++ more in
    elim (cases_Bool (has_end t)) [
      | inl whole ↦
          ap (map shown) (raw_step (t ++ behind) (some_end (t ++ behind) (end_of_front t behind whole)))
          ∙ ap (λ (l : List ℕ). shown l ∷ shown_all (after_line (t ++ behind))) (first_of_front t behind whole)
          ∙ ap (λ (l : List ℕ). shown (first_line t) ∷ shown_all l) (after_of_front t behind whole)
          ∙ ap (λ (l : List ℕ). shown (first_line t) ∷ shown_all (l ++ behind)) (sym came.rest)
          ∙ ap (λ (l : List ℕ). l ∷ shown_all (new.held ++ behind)) (sym came.line)
      | inr open_end ↦
          let at = came.last open_end in
          let none : behind ≡ [] = last at.2 in
          ap (λ (l : List ℕ). shown_all (t ++ l)) none
          ∙ ap shown_all (append-nil t)
          ∙ ap (map shown) (raw_step t at.0)
          ∙ ap (λ (l : List ℕ). shown (first_line t) ∷ shown_all l) (sym came.rest)
          ∙ ap (λ (l : List ℕ). l ∷ shown_all new.held) (sym came.line)
          ∙ ap (λ (l : List ℕ). new.line ∷ shown_all l) (sym (append-nil new.held))
          ∙ ap (λ (l : List ℕ). new.line ∷ shown_all (new.held ++ l)) (sym none)
    ]

-- a line was handed out
pub line_handed : {S : Type 0} (left : S → Known) (old new : Reading S) (n : ℕ) (more : List ℕ) → Came left old new n more → old.ended ≡ false → HandedOut left old new (new.line ∷ [])
line_handed left old new n more came unended = record {
  more = more;
  gave = came.gave;
  since = λ e. unended;
  quiet = λ e. cc (e, unended);
  whole = line_whole left old new n more came;
  all = line_all left old new n more came;
}

-- the end was told, and no line was handed out
pub end_handed : {S : Type 0} (left : S → Known) (old new : Reading S) → EndCame left old new → HandedOut left old new []
end_handed left old new came = record {
  more = [];
  gave = came.gave;
  since = λ e. cc (e, came.ended);
  quiet = λ e. refl;
  whole = λ e behind. cc (e, came.ended);
  all = λ behind last. ap (λ l. shown_all ((l ++ []) ++ behind)) came.held ∙ ap (λ l. shown_all (l ++ behind)) (sym came.rest);
}

-- no line was whole when a read failed
pub failed_whole : {S : Type 0} (left : S → Known) (faults : S → ℕ) (old new : Reading S) → FailedCame left faults old new → WereWhole left old new []
failed_whole left faults old new came = record {
  more = came.front.0;
  gave = came.front.1;
  whole = ap (map shown) (whole_none (old.held ++ came.front.0) came.front.2);
}

-- ---- over the lines of a text

-- these lines are passed over
pub records_past : (n : ℕ) (over rest : List (List ℕ)) → list_all is_passed over ≡ true → record_lines n (over ++ rest) ≡ record_lines (n + length over) rest
records_past n [] rest h = let e : n ≡ n + 0 = omega arith in ap (λ k. record_lines k rest) e
records_past n (line ∷ over) rest h =
    elim (cases_Bool (is_passed line)) [
      | inl passes ↦
          let e : n + 1 + length over ≡ n + length (line ∷ over) = omega arith in
          rw passes (records_past (n + 1) over rest (rw passes at h) ∙ ap (λ k. record_lines k rest) e)
      | inr stays ↦ cc (rw stays at h)
    ]

pub record_first : (n : ℕ) (line : List ℕ) (rest : List (List ℕ)) → is_passed line ≡ false → record_lines n (line ∷ rest) ≡ (n, line) ∷ record_lines (n + 1) rest
record_first n line rest h = rw h refl

pub passed_more : (over : List (List ℕ)) (line : List ℕ) → list_all is_passed over ≡ true → is_passed line ≡ true → list_all is_passed (over ++ line ∷ []) ≡ true
passed_more over line h e = list_all-append is_passed over (line ∷ []) ∙ rw (h, e) refl

-- from old to now all lines were passed over
pub record Over {S : Type 0} (left : S → Known) (old now : Reading S) : Type 0 where
  pub over : List (List ℕ)
  pub passed : list_all is_passed over ≡ true
  pub going : now.stop ≡ None
  pub count : now.number ≡ old.number + length over
  pub handed : HandedOut left old now over
  pub told : (text : List ℕ) → text_left left old ≡ Some text → (rest : List ℕ) × (text_left left now ≡ Some rest) × (lines_of old text ≡ (over ++ (lines_of now rest).0, (lines_of now rest).1))

pub over_none : {S : Type 0} (left : S → Known) (reader : Reading S) → reader.stop ≡ None → Over left reader reader
over_none left reader going = record {
  over = [];
  passed = refl;
  going = going;
  count = omega arith;
  handed = handed_none left reader;
  told = λ text told. (text, told, refl);
}

-- what the next line tells, behind lines that were passed over
pub record NextLine {S : Type 0} (left : S → Known) (now new : Reading S) (n : ℕ) : Type 0 where
  pub came : (more : List ℕ) × Came left now new n more
  pub gives : (text : List ℕ) → text_left left now ≡ Some text → GivesLine left now new (lines_of now text) (Ok (Some n))
  pub more_to_come : now.ended ≡ false

line_count : {S : Type 0} (left : S → Known) (old now new : Reading S) (n : ℕ) → (o : Over left old now) → NextLine left now new n → new.number ≡ old.number + length o.over + 1
line_count left old now new n o next = let came = next.came.1 in omega (arith, came.number, came.count, o.count)

line_told : {S : Type 0} (left : S → Known) (old now new : Reading S) (n : ℕ) (o : Over left old now) → NextLine left now new n → (text : List ℕ) → text_left left old ≡ Some text
    → (rest : List ℕ) × (text_left left new ≡ Some rest) × (lines_of old text ≡ (o.over ++ new.line ∷ (lines_of new rest).0, (lines_of new rest).1))
line_told left old now new n o next text told =
    let t = o.told text told in
    let given = given_line left now new (lines_of now t.0) n (next.gives t.0 t.1) in
    (given.1.0, given.1.1, t.2 ∙ ap (λ (q : Lines). let p : Lines = (o.over ++ q.0, q.1) in p) given.1.2)

line_out : {S : Type 0} (left : S → Known) (old now new : Reading S) (n : ℕ) (o : Over left old now) → NextLine left now new n → HandedOut left old new (o.over ++ new.line ∷ [])
line_out left old now new n o next =
    handed_more left old now new o.over (new.line ∷ []) o.handed (line_handed left now new n next.came.0 next.came.1 next.more_to_come)

-- one more line is passed over
pub over_more : {S : Type 0} (left : S → Known) (old now new : Reading S) (n : ℕ) → Over left old now → NextLine left now new n → is_passed new.line ≡ true → Over left old new
over_more left old now new n o next pass = record {
  over = o.over ++ new.line ∷ [];
  passed = passed_more o.over new.line o.passed pass;
  going = next.came.1.going;
  count = omega (arith, line_count left old now new n o next, length-append o.over (new.line ∷ []));
  handed = line_out left old now new n o next;
  told = λ text told.
      let t = line_told left old now new n o next text told in
      (t.0, t.1, t.2 ∙ ap (λ (l : List (List ℕ)). let p : Lines = (l, (lines_of new t.0).1) in p) (sym (append_assoc o.over (new.line ∷ []) (lines_of new t.0).0)));
}

-- the next line is a record
pub over_line : {S : Type 0} (left : S → Known) (old now new : Reading S) (n : ℕ) → Over left old now → NextLine left now new n → is_passed new.line ≡ false → LineCame left old new n
over_line left old now new n o next pass = record {
  over = o.over;
  passed = o.passed;
  line = pass;
  number = let came = next.came.1 in omega (arith, came.count, line_count left old now new n o next);
  count = next.came.1.count;
  going = next.came.1.going;
  unended = o.handed.since next.more_to_come;
  handed = line_out left old now new n o next;
}

pub over_first : {S : Type 0} (left : S → Known) (old now new : Reading S) (n : ℕ) → Over left old now → NextLine left now new n → is_passed new.line ≡ false → (text : List ℕ) → text_left left old ≡ Some text
    → FirstRecord left old new (lines_of old text) n
over_first left old now new n o next pass text told =
    let t = line_told left old now new n o next text told in
    let came = next.came.1 in
    let number : old.number + 1 + length o.over ≡ n = omega (arith, came.count, line_count left old now new n o next) in
    record {
      rest = t.0;
      told = t.1;
      first =
          ap (λ (q : Lines). record_lines (old.number + 1) q.0) t.2
          ∙ records_past (old.number + 1) o.over (new.line ∷ (lines_of new t.0).0) o.passed
          ∙ ap (λ k. record_lines k (new.line ∷ (lines_of new t.0).0)) number
          ∙ record_first n new.line (lines_of new t.0).0 pass;
      stop = ap (λ (q : Lines). q.1) t.2;
      count = came.count;
      last = omega (arith, number, ap (λ (q : Lines). length q.0) t.2, length-append o.over (new.line ∷ (lines_of new t.0).0));
    }

none_left : (n : ℕ) (over : List (List ℕ)) (all : Lines) (end : TextEnd) → list_all is_passed over ≡ true → all ≡ (over ++ [], end) → record_lines n all.0 ≡ []
none_left n over all end passed e = ap (λ (q : Lines). record_lines n q.0) e ∙ records_past n over [] passed

-- the end comes behind lines that were passed over
pub over_end : {S : Type 0} (left : S → Known) (old now new : Reading S) → Over left old now → EndCame left now new → ((text : List ℕ) → text_left left now ≡ Some text → GivesLine left now new (lines_of now text) (Ok None))
    → (text : List ℕ) → text_left left old ≡ Some text → NoRecord left old new (lines_of old text)
over_end left old now new o came gives text told =
    let t = o.told text told in
    let given = given_end left now new (lines_of now t.0) (gives t.0 t.1) in
    let all : lines_of old text ≡ (o.over ++ [], AtEnd) = t.2 ∙ ap (λ (q : Lines). let p : Lines = (o.over ++ q.0, q.1) in p) given.0 in
    record {
      none = none_left (old.number + 1) o.over (lines_of old text) AtEnd o.passed all;
      stop = ap (λ (q : Lines). q.1) all;
      told = given.1;
      count = omega (arith, came.count, o.count, ap (λ (q : Lines). length q.0) all, length-append o.over []);
    }

pub over_none_left : {S : Type 0} (left : S → Known) (old now new : Reading S) → Over left old now → EndCame left now new → NoneCame left old new
over_none_left left old now new o came = record {
  over = o.over;
  passed = o.passed;
  count = omega (arith, came.count, o.count);
  going = came.going;
  done = record { ended = came.ended; nothing = came.rest; at_end = came.at_end };
  handed = subst (HandedOut left old new) (append-nil o.over) (handed_more left old now new o.over [] o.handed (end_handed left now new came));
}

-- the text is past its limit behind lines that were passed over
pub over_limit : {S : Type 0} (left : S → Known) (old now new : Reading S) → Over left old now → ((text : List ℕ) → text_left left now ≡ Some text → GivesLine left now new (lines_of now text) (Err TooLong))
    → (text : List ℕ) → text_left left old ≡ Some text → NoneInLimit old new (lines_of old text)
over_limit left old now new o gives text told =
    let t = o.told text told in
    let given = given_past left now new (lines_of now t.0) (gives t.0 t.1) in
    let all : lines_of old text ≡ (o.over ++ [], PastLimit) = t.2 ∙ ap (λ (q : Lines). let p : Lines = (o.over ++ q.0, q.1) in p) given in
    record { none = none_left (old.number + 1) o.over (lines_of old text) PastLimit o.passed all; stop = ap (λ (q : Lines). q.1) all }

-- a read fails behind lines that were passed over
pub over_fault : {S : Type 0} (left : S → Known) (faults : S → ℕ) (old now new : Reading S) → Over left old now → FailedCame left faults now new → now.ended ≡ false → Rose (faults old.source) (faults new.source) → FaultCame left faults old new
over_fault left faults old now new o came unended rose = record {
  over = o.over;
  passed = o.passed;
  whole = subst (WereWhole left old new) (append-nil o.over) (whole_more left old now new o.over [] o.handed unended (failed_whole left faults now new came));
  cause = rose;
  count = omega (arith, came.count, o.count);
  unended = o.handed.since unended;
  stopped = came.stopped;
}

-- ---- what a call of `next` tells

abbrev Says : Result (Option ℕ) ReadStop → Result (Option ℕ) ReadStop → Type 0
Says a b = a ≡ b

-- a reader that gave a line had not ended
pub not_ended : (ended : Bool) (n : ℕ) (P : Type 0) → (ended ≡ true → Says (Ok (Some n)) (Ok None) × P) → ended ≡ false
not_ended true n P h = cc (h refl).0
not_ended false n P h = refl

pub not_ended_stop : (ended : Bool) (stop : ReadStop) (P : Type 0) → (ended ≡ true → Says (Err stop) (Ok None) × P) → ended ≡ false
not_ended_stop true stop P h = cc (h refl).0
not_ended_stop false stop P h = refl

pub stuck_at : {S : Type 0} (o : Option ReadStop) (reader : Reading S) → IfSome o (λ stop. reader ≡ reader)
stuck_at None reader = tt
stuck_at (Some stop) reader = refl

pub if_none : {X : Type 0} (P : X → Type 0) (o : Option X) → o ≡ None → IfSome o P
if_none P None e = tt
if_none P (Some x) e = cc e

-- a reader that stands stopped gives no line, and no end
pub no_stop : {S : Type 0} (o : Option ReadStop) (found : Option ℕ) (old new : Reading S) → IfSome o (λ stop. ((let r : Result (Option ℕ) ReadStop = Ok found in r) ≡ Err stop) × (new ≡ old)) → o ≡ None
no_stop None found old new h = refl
no_stop (Some stop) found old new h = absurd (let e = h.0 in cc e)

-- what a reader that stands stopped answers
pub sticky_on : {S : Type 0} (o : Option ReadStop) (P : ReadStop → Type 0) (old now new : Reading S) → o ≡ old.stop → IfSome o (λ stop. now ≡ old) → IfSome now.stop (λ stop. P stop × (new ≡ now)) → IfSome o (λ stop. P stop × (new ≡ old))
sticky_on None P old now new e h sticky = tt
sticky_on {S = S} (Some stop) P old now new e h sticky =
    let at : now.stop ≡ Some stop = ap (λ (r : Reading S). r.stop) h ∙ sym e in
    let stays = subst (λ (s : Option ReadStop). IfSome s (λ stop. P stop × (new ≡ now))) at sticky in
    (stays.0, stays.1 ∙ h)

pub no_stop_on : {S : Type 0} (o : Option ReadStop) (found : Option ℕ) (old now new : Reading S) → o ≡ old.stop → IfSome o (λ stop. now ≡ old)
    → IfSome now.stop (λ stop. ((let r : Result (Option ℕ) ReadStop = Ok found in r) ≡ Err stop) × (new ≡ now)) → o ≡ None
no_stop_on o found old now new e h sticky = no_stop o found old new (sticky_on o (λ stop. (let r : Result (Option ℕ) ReadStop = Ok found in r) ≡ Err stop) old now new e h sticky)

pub stays_stuck : {S : Type 0} (o : Option ReadStop) (old now new : Reading S) (n : ℕ) → o ≡ old.stop → IfSome o (λ stop. now ≡ old) → IfSome now.stop (λ stop. Says (Ok (Some n)) (Err stop) × (new ≡ now)) → IfSome o (λ stop. new ≡ old)
stays_stuck o old now new n e h sticky = if_none (λ stop. new ≡ old) o (no_stop_on o (Some n) old now new e h sticky)

-- a stop behind lines that were passed over
pub over_stop : {S : Type 0} (left : S → Known) (faults : S → ℕ) (old now new : Reading S) (stop : ReadStop) → Over left old now → now.ended ≡ false → StopCame left faults now new stop → faults old.source ≤ faults now.source
    → RecordCame left faults old new (Err stop)
over_stop left faults old now new Failed o unended came later = over_fault left faults old now new o came unended (Rose-from _ _ _ later came.cause)
over_stop left faults old now new TooLong o unended came later = came.stopped

pub over_stop_records : {S : Type 0} (left : S → Known) (old now new : Reading S) (stop : ReadStop) → Over left old now → ((text : List ℕ) → text_left left now ≡ Some text → GivesLine left now new (lines_of now text) (Err stop))
    → (text : List ℕ) → text_left left old ≡ Some text → GivesRecord left old new (lines_of old text) (Err stop)
over_stop_records left old now new Failed o gives text told = tt
over_stop_records left old now new TooLong o gives text told = over_limit left old now new o gives text told

-- what was found of a line
pub found_passed : (b c : Bool) (a line : List ℕ) → b ≡ c → b ≡ is_passed a → a ≡ line → is_passed line ≡ c
found_passed b c a line is e same = ap is_passed (sym same) ∙ sym e ∙ is
