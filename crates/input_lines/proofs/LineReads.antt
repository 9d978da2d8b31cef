-- Values that are read from the lines ahead, one after another: what a call of a reader tells, put together of what its parts tell.
use Rattle.std.proofs.Common.{◌≡◌, ◌≤◌, ◌<◌, ℕ, ◌+◌, List, [], ◌∷◌, ◌++◌, length, refl, sym, ap, subst, ◌∙◌, inl, inr, arith, append-nil, append_assoc, length-append}
use Rattle.std.specs.Prelude.{true, Option, Some, None, Ok, Err, Result, IfOk, IfSome, OnOk}
use Rattle.std.specs.List.{list_all}
use Rattle.si_causes.proofs.CauseFacts.{Rose-from}
use Rattle.si_causes.specs.Reading.{Reading, room, text_left}
use Rattle.si_causes.specs.declared.stop.ReadStop.{ReadStop}
use Rattle.si_causes.specs.declared.stop.ReadStop.TheVariants.{Failed, TooLong as Overlong}
use Rattle.input_lines.specs.Lines.{is_passed, lines_of, record_lines}
use Rattle.input_lines.specs.Going.{LineCame, NoneCame, FaultCame, RecordCame}
use Rattle.input_lines.specs.Records.{FirstRecord, NoRecord, NoneInLimit, GivesRecord, NextRecord}
use Rattle.input_lines.specs.declared.stop.EditStop.{EditStop}
use Rattle.input_lines.specs.declared.stop.EditStop.TheVariants.{NoCommand as Refused, Read, Memory}
use Rattle.input_lines.specs.Ahead.{Ahead, Row, Tail, Ends, Exceeds, Breaks, Found, Came, Stopped, Stop, NoCommand, TooLong, Unread, and_then, first_row, row_of, tail_of, stop_at, missing_at, on_line, ahead}
use Rattle.input_lines.specs.Reads.{Leaves, Gives, Looked, Passes, RefusesEnd, Faulted, Takes, Says, ahead_with, none_ahead, stopped_by, ReadsStopped, ReadOf, GivesNext, TakesNext, NextOf}
use Rattle.input_lines.proofs.LastLines.{none_last, last_split, before_last, front_passed}
use Rattle.input_lines.proofs.Steps.{handed_none, handed_more, whole_more, records_past, record_first, stuck_at, if_none, no_stop}

abbrev pub Known : Type 0
Known = Option (List ℕ)

-- ---- one value and then what is behind it

abbrev looked_none : {S T : Type 0} (left : S → Known) (f : Ahead → Found T) (reader : Reading S) → reader.stop ≡ None → Looked left f reader reader
looked_none left f reader going = record {
  lines = [];
  handed = handed_none left reader;
  count = omega arith;
  going = going;
  needed = λ front last e. absurd (none_last front last e);
}

abbrev looked_step : {S T U : Type 0} (left : S → Known) (first : Ahead → Found T) (f : Ahead → Found U) (old new : Reading S)
    → ((a : Ahead) (s : Stop) → first a ≡ Stopped s → f a ≡ Stopped s) → Looked left first old new → Looked left f old new
looked_step left first f old new stops l = record {
  lines = l.lines;
  handed = l.handed;
  count = l.count;
  going = l.going;
  needed = λ front last e. stops (ahead_with old front Breaks) Unread (l.needed front last e);
}

abbrev looked_join : {S T : Type 0} (left : S → Known) (f g : Ahead → Found T) (a b c : Reading S) → Passes left f g a b → Looked left g b c → Looked left f a c
looked_join left f g a b c p k = record {
  lines = p.looked.lines ++ k.lines;
  handed = handed_more left a b c p.looked.lines k.lines p.looked.handed k.handed;
  count = omega (arith, p.looked.count, k.count, length-append p.looked.lines k.lines);
  going = k.going;
  needed = λ front last e. elim (last_split p.looked.lines k.lines front last e) [
    | inl here ↦ p.looked.needed front last here
    | inr (rest, there, is) ↦ ap (λ l. f (ahead_with a l Breaks)) is ∙ p.reads rest Breaks ∙ k.needed rest last there
  ];
}

passes_step : {S T U : Type 0} (left : S → Known) (first : Ahead → Found T) (value : T) (f g : Ahead → Found U) (old new : Reading S)
    → ((a b : Ahead) → first a ≡ Came value b → f a ≡ g b) → ((a : Ahead) (s : Stop) → first a ≡ Stopped s → f a ≡ Stopped s) → Passes left first (Came value) old new → Passes left f g old new
passes_step left first value f g old new goes stops p = record {
  looked = looked_step left first f old new stops p.looked;
  reads = λ more tail. goes (ahead_with old (p.looked.lines ++ more) tail) (ahead_with new more tail) (p.reads more tail);
}

leaves_step : {S T U : Type 0} (left : S → Known) (first : Ahead → Found T) (value : T) (f g : Ahead → Found U) (old new : Reading S) (text : List ℕ)
    → ((a b : Ahead) → first a ≡ Came value b → f a ≡ g b) → Leaves left first (Came value) old new text → Leaves left f g old new text
leaves_step left first value f g old new text goes p = record { rest = p.rest; told = p.told; reads = goes (ahead old text) (ahead new p.rest) p.reads }

passes_same : {S T : Type 0} (left : S → Known) (f g : Ahead → Found T) (reader : Reading S) → reader.stop ≡ None → ((a : Ahead) → f a ≡ g a) → Passes left f g reader reader
passes_same left f g reader going same = record { looked = looked_none left f reader going; reads = λ more tail. same (ahead_with reader more tail) }

leaves_same : {S T : Type 0} (left : S → Known) (f g : Ahead → Found T) (reader : Reading S) (text : List ℕ) → text_left left reader ≡ Some text → ((a : Ahead) → f a ≡ g a) → Leaves left f g reader reader text
leaves_same left f g reader text told same = record { rest = text; told = told; reads = same (ahead reader text) }

passes_join : {S T : Type 0} (left : S → Known) (f g h : Ahead → Found T) (a b c : Reading S) → Passes left f g a b → Passes left g h b c → Passes left f h a c
passes_join left f g h a b c p k = record {
  looked = looked_join left f g a b c p k.looked;
  reads = λ more tail. ap (λ l. f (ahead_with a l tail)) (append_assoc p.looked.lines k.looked.lines more) ∙ p.reads (k.looked.lines ++ more) tail ∙ k.reads more tail;
}

leaves_join : {S T : Type 0} (left : S → Known) (f g h : Ahead → Found T) (a b c : Reading S) (text : List ℕ) → (l : Leaves left f g a b text) → Leaves left g h b c l.rest → Leaves left f h a c text
leaves_join left f g h a b c text l k = record { rest = k.rest; told = k.told; reads = l.reads ∙ k.reads }

-- ---- answers

takes_join : {S T : Type 0} (left : S → Known) (faults : S → ℕ) (f g : Ahead → Found T) (a b c : Reading S) (r : Result T EditStop) → Passes left f g a b → faults a.source ≤ faults b.source → Takes left faults g b c r → Takes left faults f a c r
takes_join left faults f g a b c (Ok value) p le k = passes_join left f g (Came value) a b c p k
takes_join left faults f g a b c (Err (Refused n)) p le (inl k) = inl (record {
  looked = looked_join left f g a b c p k.looked;
  reads = λ more tail. ap (λ l. f (ahead_with a l tail)) (append_assoc p.looked.lines k.looked.lines more) ∙ p.reads (k.looked.lines ++ more) tail ∙ k.reads more tail;
})
takes_join left faults f g a b c (Err (Refused n)) p le (inr k) = inr (record {
  looked = looked_join left f g a b c p k.looked;
  done = k.done;
  reads = p.reads k.looked.lines (Ends (c.number + 1)) ∙ k.reads;
})
takes_join left faults f g a b c (Err (Read Overlong)) p le k = k
takes_join left faults f g a b c (Err (Read Failed)) p le k = record {
  lines = p.looked.lines ++ k.lines;
  whole = whole_more left a b c p.looked.lines k.lines p.looked.handed k.unended k.whole;
  unended = p.looked.handed.since k.unended;
  cause = Rose-from _ _ _ le k.cause;
  stopped = k.stopped;
  reads = p.reads k.lines Breaks ∙ k.reads;
}
takes_join left faults f g a b c (Err Memory) p le k = looked_join left f g a b c p k

gives_join : {S T : Type 0} (left : S → Known) (f g : Ahead → Found T) (a b c : Reading S) (text : List ℕ) (r : Result T EditStop) → (l : Leaves left f g a b text) → Gives left g b c l.rest r → Gives left f a c text r
gives_join left f g a b c text (Ok value) l k = leaves_join left f g (Came value) a b c text l k
gives_join left f g a b c text (Err (Refused n)) l k = l.reads ∙ k
gives_join left f g a b c text (Err (Read Overlong)) l k = l.reads ∙ k
gives_join left f g a b c text (Err (Read Failed)) l k = tt
gives_join left f g a b c text (Err Memory) l k = tt

-- a stop at the first value is the stop
takes_stop : {S T U : Type 0} (left : S → Known) (faults : S → ℕ) (first : Ahead → Found T) (f : Ahead → Found U) (old new : Reading S) (stop : EditStop)
    → ((a : Ahead) (s : Stop) → first a ≡ Stopped s → f a ≡ Stopped s) → Takes {T = T} left faults first old new (Err stop) → Takes {T = U} left faults f old new (Err stop)
takes_stop left faults first f old new (Refused n) stops (inl k) = inl (record {
  looked = looked_step left first f old new stops k.looked;
  reads = λ more tail. stops (ahead_with old (k.looked.lines ++ more) tail) (NoCommand n) (k.reads more tail);
})
takes_stop left faults first f old new (Refused n) stops (inr k) = inr (record {
  looked = looked_step left first f old new stops k.looked;
  done = k.done;
  reads = stops (ahead_with old k.looked.lines (Ends (new.number + 1))) (NoCommand n) k.reads;
})
takes_stop left faults first f old new (Read Overlong) stops k = k
takes_stop left faults first f old new (Read Failed) stops k = record {
  lines = k.lines;
  whole = k.whole;
  unended = k.unended;
  cause = k.cause;
  stopped = k.stopped;
  reads = stops (ahead_with old k.lines Breaks) Unread k.reads;
}
takes_stop left faults first f old new Memory stops k = looked_step left first f old new stops k

gives_stop : {S T U : Type 0} (left : S → Known) (first : Ahead → Found T) (f : Ahead → Found U) (old new : Reading S) (text : List ℕ) (stop : EditStop)
    → ((a : Ahead) (s : Stop) → first a ≡ Stopped s → f a ≡ Stopped s) → Gives {T = T} left first old new text (Err stop) → Gives {T = U} left f old new text (Err stop)
gives_stop left first f old new text (Refused n) stops k = stops (ahead old text) (NoCommand n) k
gives_stop left first f old new text (Read Overlong) stops k = stops (ahead old text) TooLong k
gives_stop left first f old new text (Read Failed) stops k = tt
gives_stop left first f old new text Memory stops k = tt

-- ---- the next line

-- the lines before the one that came were passed over
row_passes : {S : Type 0} (left : S → Known) (stop : Tail → Stop) (old new : Reading S) (n : ℕ) → stop Breaks ≡ Unread → LineCame left old new n → Passes left (first_row stop) (Came (n, new.line)) old new
row_passes left stop old new n unread came =
    let number : old.number + 1 + length came.over ≡ n = omega (arith, came.number) in
    let over : (front : List (List ℕ)) (last : List ℕ) → came.over ++ new.line ∷ [] ≡ front ++ last ∷ [] → front ≡ came.over ++ [] =
    λ front last e. before_last came.over new.line front last e in
    record {
      looked = record {
        lines = came.over ++ new.line ∷ [];
        handed = came.handed;
        count = omega (arith, came.number, came.count, length-append came.over (new.line ∷ []));
        going = came.going;
        needed = λ front last e.
            ap (λ (rows : List Row). row_of stop rows Breaks) (ap (record_lines (old.number + 1)) (over front last e) ∙ records_past (old.number + 1) came.over [] came.passed)
            ∙ ap (λ s. let r : Found Row = Stopped s in r) unread;
      };
      reads = λ more tail.
          ap (λ (rows : List Row). row_of stop rows tail)
          (ap (record_lines (old.number + 1)) (append_assoc came.over (new.line ∷ []) more)
          ∙ records_past (old.number + 1) came.over (new.line ∷ more) came.passed
          ∙ ap (λ k. record_lines k (new.line ∷ more)) number
          ∙ record_first n new.line more came.line
          ∙ ap (λ k. let rows : List Row = (n, new.line) ∷ record_lines (k + 1) more in rows) (sym came.count));
    }

-- lines that are passed over, and then this, are no row
none_passed : (n : ℕ) (over : List (List ℕ)) (stop : Tail → Stop) (tail : Tail) → list_all is_passed over ≡ true → row_of stop (record_lines n over) tail ≡ Stopped (stop tail)
none_passed n over stop tail passed =
    ap (λ (rows : List Row). row_of stop rows tail) (ap (record_lines n) (sym (append-nil over)) ∙ records_past n over [] passed)

-- all lines that were left were passed over, and a line is missing behind them
row_refused : {S : Type 0} (left : S → Known) (old new : Reading S) → NoneCame left old new → RefusesEnd left (first_row missing_at) old new (new.number + 1)
row_refused left old new came = record {
  looked = record {
    lines = came.over;
    handed = came.handed;
    count = came.count;
    going = came.going;
    needed = λ front last e. none_passed (old.number + 1) front missing_at Breaks (front_passed came.over front last came.passed e);
  };
  done = came.done;
  reads = none_passed (old.number + 1) came.over missing_at (Ends (new.number + 1)) came.passed;
}

row_faulted : {S : Type 0} (left : S → Known) (faults : S → ℕ) (stop : Tail → Stop) (old new : Reading S) → stop Breaks ≡ Unread → FaultCame left faults old new → Faulted left faults (first_row stop) old new
row_faulted left faults stop old new e came = record {
  lines = came.over;
  whole = came.whole;
  unended = came.unended;
  cause = came.cause;
  stopped = came.stopped;
  reads =
      ap (λ (rows : List Row). row_of stop rows Breaks) (ap (record_lines (old.number + 1)) (sym (append-nil came.over)) ∙ records_past (old.number + 1) came.over [] came.passed)
      ∙ ap (λ s. let r : Found Row = Stopped s in r) e;
}

row_leaves : {S : Type 0} (left : S → Known) (stop : Tail → Stop) (old new : Reading S) (text : List ℕ) (n : ℕ) → FirstRecord left old new (lines_of old text) n → Leaves left (first_row stop) (Came (n, new.line)) old new text
row_leaves left stop old new text n came =
    let number : old.number + 1 + length (lines_of old text).0 ≡ new.number + 1 + length (lines_of new came.rest).0 = omega (arith, came.last, came.count) in
    record {
      rest = came.rest;
      told = came.told;
      reads =
          ap (λ (rows : List Row). row_of stop rows (tail_of (old.number + 1 + length (lines_of old text).0) (lines_of old text).1)) (came.first ∙ ap (λ k. let rows : List Row = (n, new.line) ∷ record_lines (k + 1) (lines_of new came.rest).0 in rows) (sym came.count))
          ∙ ap (λ k. let r : Found Row = Came (n, new.line) (record { rows = record_lines (new.number + 1) (lines_of new came.rest).0; tail = tail_of k (lines_of old text).1 }) in r) number
          ∙ ap (λ t. let r : Found Row = Came (n, new.line) (record { rows = record_lines (new.number + 1) (lines_of new came.rest).0; tail = tail_of (new.number + 1 + length (lines_of new came.rest).0) t }) in r) came.stop;
    }

row_none : {S : Type 0} (left : S → Known) (stop : Tail → Stop) (old new : Reading S) (text : List ℕ) → NoRecord left old new (lines_of old text) → first_row stop (ahead old text) ≡ Stopped (stop (Ends (new.number + 1)))
row_none left stop old new text came =
    let number : old.number + 1 + length (lines_of old text).0 ≡ new.number + 1 = omega (arith, came.count) in
    ap (λ (rows : List Row). row_of stop rows (tail_of (old.number + 1 + length (lines_of old text).0) (lines_of old text).1)) came.none
    ∙ ap (λ t. let r : Found Row = Stopped (stop (tail_of (old.number + 1 + length (lines_of old text).0) t)) in r) came.stop
    ∙ ap (λ k. let r : Found Row = Stopped (stop (Ends k)) in r) number

row_limit : {S : Type 0} (stop : Tail → Stop) (old new : Reading S) (text : List ℕ) → NoneInLimit old new (lines_of old text) → first_row stop (ahead old text) ≡ Stopped (stop Exceeds)
row_limit stop old new text came =
    ap (λ (rows : List Row). row_of stop rows (tail_of (old.number + 1 + length (lines_of old text).0) (lines_of old text).1)) came.none
    ∙ ap (λ t. let r : Found Row = Stopped (stop (tail_of (old.number + 1 + length (lines_of old text).0) t)) in r) came.stop

-- a stop in place of a line
row_stop_takes : {S : Type 0} (left : S → Known) (faults : S → ℕ) (stop : Tail → Stop) (old new : Reading S) (s : ReadStop) → stop Breaks ≡ Unread → RecordCame left faults old new (Err s) → Takes {T = Row} left faults (first_row stop) old new (Err (Read s))
row_stop_takes left faults stop old new Failed e came = row_faulted left faults stop old new e came
row_stop_takes left faults stop old new Overlong e came = came

row_stop_gives : {S : Type 0} (left : S → Known) (stop : Tail → Stop) (old new : Reading S) (text : List ℕ) (s : ReadStop) → stop Exceeds ≡ TooLong → GivesRecord left old new (lines_of old text) (Err s) → Gives {T = Row} left (first_row stop) old new text (Err (Read s))
row_stop_gives left stop old new text Failed e came = tt
row_stop_gives left stop old new text Overlong e came = row_limit stop old new text came ∙ ap (λ k. let r : Found Row = Stopped k in r) e

-- ---- a reader that had stopped

if_some : {X : Type 0} (P : X → Type 0) (o : Option X) → ((x : X) → P x) → IfSome o P
if_some P None f = tt
if_some P (Some x) f = f x

if_both : {X : Type 0} (P Q R : X → Type 0) (o : Option X) → IfSome o P → IfSome o Q → ((x : X) → P x → Q x → R x) → IfSome o R
if_both P Q R None p q f = tt
if_both P Q R (Some x) p q f = f x p q

if_then : {X : Type 0} (P Q : X → Type 0) (o : Option X) → IfSome o P → ((x : X) → P x → Q x) → IfSome o Q
if_then P Q None p f = tt
if_then P Q (Some x) p f = f x p

-- what holds of the stop of a later reader that is the same
at_stop : {S : Type 0} (o : Option ReadStop) (a b : Reading S) (P : ReadStop → Type 0) → o ≡ a.stop → IfSome o (λ s. b ≡ a) → IfSome b.stop P → IfSome o P
at_stop None a b P e h k = tt
at_stop {S = S} (Some s) a b P e h k = subst (λ (q : Option ReadStop). IfSome q P) (ap (λ (r : Reading S). r.stop) h ∙ sym e) k

stopped_as : {T : Type 0} (f g : Ahead → Found T) (s : ReadStop) (r : Result T EditStop) → f (none_ahead s) ≡ g (none_ahead s) → ReadsStopped g s r → ReadsStopped f s r
stopped_as f g s (Ok value) e h = e ∙ h
stopped_as f g s (Err (Refused n)) e h = e ∙ h
stopped_as f g s (Err (Read t)) e h = (h.0, e ∙ h.1)
stopped_as f g s (Err Memory) e h = tt

stopped_so : {T U : Type 0} (f : Ahead → Found T) (g : Ahead → Found U) (s : ReadStop) (stop : EditStop) → ((a : Ahead) (x : Stop) → f a ≡ Stopped x → g a ≡ Stopped x) → ReadsStopped {T = T} f s (Err stop) → ReadsStopped {T = U} g s (Err stop)
stopped_so f g s (Refused n) stops h = stops (none_ahead s) (NoCommand n) h
stopped_so f g s (Read t) stops h = (h.0, stops (none_ahead s) (stopped_by s) h.1)
stopped_so f g s Memory stops h = tt

-- ---- what a call tells

further : {T : Type 0} (r : Result T EditStop) (a b c : ℕ) → b ≤ a → OnOk r (c ≤ b) → OnOk r (c ≤ a)
further (Ok value) a b c le h = omega (arith, le, h)
further (Err stop) a b c le h = tt

-- a value is a value that came
abbrev pub some_ok : {T : Type 0} → Result T EditStop → Result (Option T) EditStop
some_ok (Ok value) = Ok (Some value)
some_ok (Err stop) = Err stop

-- From old to now, what `first` reads is what `next` reads on.
pub record ReadsOn {S T : Type 0} (left : S → Known) (faults : S → ℕ) (alike : S → S → Type 0) (first next : Ahead → Found T) (old now : Reading S) : Type 0 where
  pub gives : old.stop ≡ None → (text : List ℕ) → text_left left old ≡ Some text → Leaves left first next old now text
  pub takes : old.stop ≡ None → Passes left first next old now
  pub stopped : IfSome old.stop (λ stop. first (none_ahead stop) ≡ next (none_ahead stop))
  pub sticky : IfSome old.stop (λ stop. now ≡ old)
  pub goes_on : room now ≤ room old
  pub later : faults old.source ≤ faults now.source
  pub same : alike old.source now.source

module _ {S : Type 0} (left : S → Known) (faults : S → ℕ) (alike : S → S → Type 0) (once : (a : S) → alike a a) (onward : (a b c : S) → alike a b → alike b c → alike a c) where
  -- nothing was taken
  pub on_none : {T : Type 0} (first next : Ahead → Found T) (reader : Reading S) → ((a : Ahead) → first a ≡ next a) → ReadsOn left faults alike first next reader reader
  on_none first next reader is = record {
    gives = λ going text told. leaves_same left first next reader text told is;
    takes = λ going. passes_same left first next reader going is;
    stopped = if_some (λ s. first (none_ahead s) ≡ next (none_ahead s)) reader.stop (λ s. is (none_ahead s));
    sticky = stuck_at reader.stop reader;
    goes_on = omega arith;
    later = omega arith;
    same = once reader.source;
  }

  pub on_join : {T : Type 0} (f g h : Ahead → Found T) (a b c : Reading S) → ReadsOn left faults alike f g a b → ReadsOn left faults alike g h b c → ReadsOn left faults alike f h a c
  on_join f g h a b c p k = record {
    gives = λ going text told.
        let l = p.gives going text told in
        leaves_join left f g h a b c text l (k.gives (p.takes going).looked.going l.rest l.told);
    takes = λ going. let w = p.takes going in passes_join left f g h a b c w (k.takes w.looked.going);
    stopped = if_both (λ s. f (none_ahead s) ≡ g (none_ahead s)) (λ s. g (none_ahead s) ≡ h (none_ahead s)) (λ s. f (none_ahead s) ≡ h (none_ahead s)) a.stop p.stopped
        (at_stop a.stop a b (λ s. g (none_ahead s) ≡ h (none_ahead s)) refl p.sticky k.stopped) (λ s x y. x ∙ y);
    sticky = if_both (λ s. b ≡ a) (λ s. c ≡ b) (λ s. c ≡ a) a.stop p.sticky (at_stop a.stop a b (λ s. c ≡ b) refl p.sticky k.sticky) (λ s x y. y ∙ x);
    goes_on = omega (arith, p.goes_on, k.goes_on);
    later = omega (arith, p.later, k.later);
    same = onward a.source b.source c.source p.same k.same;
  }

  -- a value was read
  pub on_value : {T U : Type 0} (first : Ahead → Found T) (value : T) (f g : Ahead → Found U) (old new : Reading S)
      → ((a b : Ahead) → first a ≡ Came value b → f a ≡ g b) → ((a : Ahead) (s : Stop) → first a ≡ Stopped s → f a ≡ Stopped s) → ReadOf left faults alike first old new (Ok value) → ReadsOn left faults alike f g old new
  on_value first value f g old new goes stops r = record {
    gives = λ going text told. leaves_step left first value f g old new text goes (r.gives going text told);
    takes = λ going. passes_step left first value f g old new goes stops (r.takes going);
    stopped = if_then (λ s. first (none_ahead s) ≡ Came value (none_ahead s)) (λ s. f (none_ahead s) ≡ g (none_ahead s)) old.stop r.stopped (λ s. goes (none_ahead s) (none_ahead s));
    sticky = r.sticky;
    goes_on = r.goes_on;
    later = r.later;
    same = r.same;
  }

  -- and then the rest was
  pub read_on : {T : Type 0} (f g : Ahead → Found T) (a b c : Reading S) (r : Result T EditStop) → ReadsOn left faults alike f g a b → ReadOf left faults alike g b c r → ReadOf left faults alike f a c r
  read_on f g a b c r p k = record {
    gives = λ going text told.
        let l = p.gives going text told in
        gives_join left f g a b c text r l (k.gives (p.takes going).looked.going l.rest l.told);
    takes = λ going. let w = p.takes going in takes_join left faults f g a b c r w p.later (k.takes w.looked.going);
    stopped = if_both (λ s. f (none_ahead s) ≡ g (none_ahead s)) (λ s. ReadsStopped g s r) (λ s. ReadsStopped f s r) a.stop p.stopped
        (at_stop a.stop a b (λ s. ReadsStopped g s r) refl p.sticky k.stopped) (λ s. stopped_as f g s r);
    sticky = if_both (λ s. b ≡ a) (λ s. c ≡ b) (λ s. c ≡ a) a.stop p.sticky (at_stop a.stop a b (λ s. c ≡ b) refl p.sticky k.sticky) (λ s x y. y ∙ x);
    goes_on = further r (room a) (room b) (room c) p.goes_on k.goes_on;
    later = omega (arith, p.later, k.later);
    same = onward a.source b.source c.source p.same k.same;
  }

  -- no value was read, and so nothing more
  pub read_not : {T U : Type 0} (first : Ahead → Found T) (f : Ahead → Found U) (old new : Reading S) (stop : EditStop)
      → ((a : Ahead) (s : Stop) → first a ≡ Stopped s → f a ≡ Stopped s) → ReadOf {T = T} left faults alike first old new (Err stop) → ReadOf {T = U} left faults alike f old new (Err stop)
  read_not {T = T} {U = U} first f old new stop stops r = record {
    gives = λ going text told. gives_stop left first f old new text stop stops (r.gives going text told);
    takes = λ going. takes_stop left faults first f old new stop stops (r.takes going);
    stopped = if_then (λ s. ReadsStopped {T = T} first s (Err stop)) (λ s. ReadsStopped {T = U} f s (Err stop)) old.stop r.stopped (λ s. stopped_so first f s stop stops);
    sticky = r.sticky;
    goes_on = tt;
    later = r.later;
    same = r.same;
  }

  -- what is read as another is
  pub read_as : {T : Type 0} (f g : Ahead → Found T) (old new : Reading S) (r : Result T EditStop) → ((a : Ahead) → f a ≡ g a) → ReadOf left faults alike g old new r → ReadOf left faults alike f old new r
  read_as f g old new r is k = read_on f g old old new r (on_none f g old is) k

  -- no line is needed
  pub read_value : {T : Type 0} (f : Ahead → Found T) (value : T) (reader : Reading S) → ((a : Ahead) → f a ≡ Came value a) → ReadOf left faults alike f reader reader (Ok value)
  read_value f value reader is =
      let on = on_none f (Came value) reader is in
      record { gives = on.gives; takes = on.takes; stopped = on.stopped; sticky = on.sticky; goes_on = on.goes_on; later = on.later; same = on.same }

  pub read_refused : {T : Type 0} (f : Ahead → Found T) (n : ℕ) (reader : Reading S) → ((a : Ahead) → f a ≡ Stopped (NoCommand n)) → ReadOf {T = T} left faults alike f reader reader (Err (Refused n))
  read_refused f n reader is = record {
    gives = λ going text told. is (ahead reader text);
    takes = λ going. inl (record { looked = looked_none left f reader going; reads = λ more tail. is (ahead_with reader more tail) });
    stopped = if_some (λ s. f (none_ahead s) ≡ Stopped (NoCommand n)) reader.stop (λ s. is (none_ahead s));
    sticky = stuck_at reader.stop reader;
    goes_on = tt;
    later = omega arith;
    same = once reader.source;
  }

  pub read_memory : {T : Type 0} (f : Ahead → Found T) (reader : Reading S) → ReadOf {T = T} left faults alike f reader reader (Err Memory)
  read_memory f reader = record {
    gives = λ going text told. tt;
    takes = λ going. looked_none left f reader going;
    stopped = if_some (λ s. Unit {0}) reader.stop (λ s. tt);
    sticky = stuck_at reader.stop reader;
    goes_on = tt;
    later = omega arith;
    same = once reader.source;
  }

  -- what line n is
  pub read_said : {T : Type 0} (n : ℕ) (found : Option T) (reader : Reading S) (r : Result T EditStop) → Says n found r → ReadOf left faults alike (on_line n found) reader reader r
  read_said n found reader (Ok value) says = read_value (on_line n found) value reader (λ a. ap (λ o. on_line n o a) says)
  read_said {T = T} n found reader (Err (Refused at)) says =
      read_refused (on_line n found) at reader (λ a. ap (λ o. on_line n o a) says.1 ∙ ap (λ k. let q : Found T = Stopped (NoCommand k) in q) (sym says.0))
  read_said n found reader (Err (Read stop)) says = absurd says
  read_said n found reader (Err Memory) says = read_memory (on_line n found) reader

  -- a value, and then what it says of those behind it
  pub read_then : {T U : Type 0} (first : Ahead → Found T) (next : T → Ahead → Found U) (a b c : Reading S) (value : T) (r : Result U EditStop)
      → ReadOf left faults alike first a b (Ok value) → ReadOf left faults alike (next value) b c r → ReadOf left faults alike (λ l. and_then (first l) next) a c r
  read_then {T = T} first next a b c value r p k =
      read_on (λ l. and_then (first l) next) (next value) a b c r
      (on_value first value (λ l. and_then (first l) next) (next value) a b (λ x y e. ap (λ (q : Found T). and_then q next) e) (λ x s e. ap (λ (q : Found T). and_then q next) e) p) k

  pub read_unread : {T U : Type 0} (first : Ahead → Found T) (next : T → Ahead → Found U) (old new : Reading S) (stop : EditStop)
      → ReadOf {T = T} left faults alike first old new (Err stop) → ReadOf {T = U} left faults alike (λ l. and_then (first l) next) old new (Err stop)
  read_unread {T = T} first next old new stop p = read_not first (λ l. and_then (first l) next) old new stop (λ x s e. ap (λ (q : Found T). and_then q next) e) p

  -- ---- the next line

  pub line_read : (stop : Tail → Stop) (old new : Reading S) (n : ℕ) (line : List ℕ) → stop Breaks ≡ Unread → line ≡ new.line → NextRecord left faults alike old new (Ok (Some n)) → ReadOf left faults alike (first_row stop) old new (Ok (n, line))
  line_read stop old new n line unread is e =
      let going = no_stop old.stop (Some n) old new e.sticky in
      subst (λ (l : List ℕ). ReadOf left faults alike (first_row stop) old new (Ok (n, l))) (sym is) (record {
        gives = λ o text told. row_leaves left stop old new text n (e.records o text told);
        takes = λ o. row_passes left stop old new n unread (e.came o);
        stopped = if_none (λ s. ReadsStopped (first_row stop) s (Ok (n, new.line))) old.stop going;
        sticky = if_none (λ s. new ≡ old) old.stop going;
        goes_on = omega (arith, e.falls.1);
        later = e.later;
        same = e.same;
      })

  -- the line that has to come does not
  pub line_missing : (old new : Reading S) (n : ℕ) → n ≡ new.number + 1 → NextRecord left faults alike old new (Ok None) → ReadOf {T = Row} left faults alike (first_row missing_at) old new (Err (Refused n))
  line_missing old new n is e =
      let going = no_stop old.stop None old new e.sticky in
      subst (λ k. ReadOf {T = Row} left faults alike (first_row missing_at) old new (Err (Refused k))) (sym is) (record {
        gives = λ o text told. row_none left missing_at old new text (e.records o text told);
        takes = λ o. inr (row_refused left old new (e.came o));
        stopped = if_none (λ s. ReadsStopped {T = Row} (first_row missing_at) s (Err (Refused (new.number + 1)))) old.stop going;
        sticky = if_none (λ s. new ≡ old) old.stop going;
        goes_on = tt;
        later = e.later;
        same = e.same;
      })

  row_stops : (stop : Tail → Stop) (s : ReadStop) → stop Breaks ≡ Unread → stop Exceeds ≡ TooLong → first_row stop (none_ahead s) ≡ Stopped (stopped_by s)
  row_stops stop Failed unread past = ap (λ k. let r : Found Row = Stopped k in r) unread
  row_stops stop Overlong unread past = ap (λ k. let r : Found Row = Stopped k in r) past

  pub line_stopped : (stop : Tail → Stop) (old new : Reading S) (s : ReadStop) → stop Breaks ≡ Unread → stop Exceeds ≡ TooLong → NextRecord left faults alike old new (Err s) → ReadOf {T = Row} left faults alike (first_row stop) old new (Err (Read s))
  line_stopped stop old new s unread past e = record {
    gives = λ o text told. row_stop_gives left stop old new text s past (e.records o text told);
    takes = λ o. row_stop_takes left faults stop old new s unread (e.came o);
    stopped = if_then (λ t. ((let r : Result (Option ℕ) ReadStop = Err s in r) ≡ Err t) × (new ≡ old)) (λ t. (s ≡ t) × (first_row stop (none_ahead t) ≡ Stopped (stopped_by t))) old.stop e.sticky
        (λ t h. let is = h.0 in (cc is, row_stops stop t unread past));
    sticky = if_then (λ t. ((let r : Result (Option ℕ) ReadStop = Err s in r) ≡ Err t) × (new ≡ old)) (λ t. new ≡ old) old.stop e.sticky (λ t h. h.1);
    goes_on = tt;
    later = e.later;
    same = e.same;
  }

  -- ---- the next value, which begins with the next line

  next_gives : {T : Type 0} (first : Ahead → Found T) (old new : Reading S) (text : List ℕ) (r : Result T EditStop) → Gives left first old new text r → GivesNext left first old new text (some_ok r)
  next_gives first old new text (Ok value) k = k
  next_gives first old new text (Err stop) k = k

  next_takes : {T : Type 0} (first : Ahead → Found T) (old new : Reading S) (r : Result T EditStop) → Takes left faults first old new r → TakesNext left faults first old new (some_ok r)
  next_takes first old new (Ok value) k = k
  next_takes first old new (Err stop) k = k

  next_falls : {T : Type 0} (old mid new : Reading S) (r : Result T EditStop) → room mid < room old → OnOk r (room new ≤ room mid) → IfOk (some_ok r) (λ found. IfSome found (λ value. room new < room old))
  next_falls old mid new (Ok value) less le = omega (arith, less, le)
  next_falls old mid new (Err stop) less le = tt

  never_end : {T : Type 0} (r : Result T EditStop) (P : Type 0) → some_ok r ≡ Ok None → P
  never_end (Ok value) P e = absurd (cc e)
  never_end (Err stop) P e = absurd (cc e)

  pub next_read : {T : Type 0} (body : Row → Ahead → Found T) (old mid new : Reading S) (n : ℕ) (line : List ℕ) (r : Result T EditStop) → line ≡ mid.line → NextRecord left faults alike old mid (Ok (Some n))
      → ReadOf left faults alike (body (n, line)) mid new r → NextOf left faults alike (λ l. and_then (first_row stop_at l) body) old new (some_ok r)
  next_read {T = T} body old mid new n line r is e k =
      let first : Ahead → Found T = λ l. and_then (first_row stop_at l) body in
      let whole = read_then (first_row stop_at) body old mid new (n, line) r (line_read stop_at old mid n line refl is e) k in
      record {
        gives = λ o text told. next_gives first old new text r (whole.gives o text told);
        takes = λ o. next_takes first old new r (whole.takes o);
        falls = next_falls old mid new r e.falls.1 k.goes_on;
        sticky = if_none (λ s. (some_ok r ≡ Err (Read s)) × (new ≡ old)) old.stop (no_stop old.stop (Some n) old mid e.sticky);
        at_end = never_end r _;
        later = whole.later;
        same = whole.same;
      }

  pub next_end : {T : Type 0} (body : Row → Ahead → Found T) (old new : Reading S) → NextRecord left faults alike old new (Ok None) → NextOf {T = T} left faults alike (λ l. and_then (first_row stop_at l) body) old new (Ok None)
  next_end {T = T} body old new e = record {
    gives = λ o text told. let k = e.records o text told in (ap (λ (q : Found Row). and_then q body) (row_none left stop_at old new text k), k.told);
    takes = e.came;
    falls = tt;
    sticky = if_none (λ s. ((let r : Result (Option T) EditStop = Ok None in r) ≡ Err (Read s)) × (new ≡ old)) old.stop (no_stop old.stop None old new e.sticky);
    at_end = λ is. e.at_end refl;
    later = e.later;
    same = e.same;
  }

  pub next_stopped : {T : Type 0} (body : Row → Ahead → Found T) (old new : Reading S) (s : ReadStop) → NextRecord left faults alike old new (Err s) → NextOf {T = T} left faults alike (λ l. and_then (first_row stop_at l) body) old new (Err (Read s))
  next_stopped {T = T} body old new s e =
      let whole = read_unread (first_row stop_at) body old new (Read s) (line_stopped stop_at old new s refl refl e) in
      record {
        gives = whole.gives;
        takes = whole.takes;
        falls = tt;
        sticky = if_then (λ t. ((let r : Result (Option ℕ) ReadStop = Err s in r) ≡ Err t) × (new ≡ old)) (λ t. ((let r : Result (Option T) EditStop = Err (Read s) in r) ≡ Err (Read t)) × (new ≡ old)) old.stop e.sticky
            (λ t h. let is = h.0 in (cc is, h.1));
        at_end = λ is. cc is;
        later = e.later;
        same = e.same;
      }
