-- The steps of reading notings, put together of what reading lines tells.
use Rattle.std.proofs.Common.{◌≡◌, ◌≤◌, ℕ, ◌+◌, ◌*◌, true, List, [], ◌++◌, length, refl, sym, ap, ◌∙◌, inl, inr, arith, append-nil, append_assoc, length-append}
use Rattle.std.specs.Prelude.{Some, None, Ok, Err}
use Rattle.std.specs.List.{list_all}
use Rattle.si_causes.specs.Reading.{Reading, room}
use Rattle.si_causes.specs.declared.stop.ReadStop.{ReadStop}
use Rattle.si_causes.specs.declared.stop.ReadStop.TheVariants.{Failed, TooLong as Overlong}
use Rattle.input_lines.specs.Lines.{is_passed, lines_of, record_lines}
use Rattle.input_lines.specs.Going.{NoneCame}
use Rattle.input_lines.specs.Records.{NextRecord, NoRecord}
use Rattle.input_lines.specs.declared.stop.EditStop.TheVariants.{Read, Memory}
use Rattle.input_lines.specs.Ahead.{Ahead, Row, Tail, Ends, Breaks, Found, Came, Stopped, End, Unread, ahead, first_row, stop_at, tail_of}
use Rattle.input_lines.specs.Reads.{Gives, Looked, Passes, ReadOf, ReadsStopped, Takes, ahead_with, stopped_by}
use Rattle.input_lines.proofs.LastLines.{front_passed, last_split}
use Rattle.input_lines.proofs.LineReads.{Known, ReadsOn, line_read, line_stopped, read_memory, read_on}
use Rattle.input_lines.proofs.Steps.{handed_more, if_none, no_stop, records_past}
use Rattle.script_notes.specs.declared.noting.Held.{Held}
use Rattle.script_notes.specs.declared.noting.Held.TheVariants.{Ended}
use Rattle.script_notes.specs.declared.noting.Noting.{Noting}
use Rattle.script_notes.specs.Held.{IsHeldBy, came_held, left_over, nothing_ahead}
use Rattle.script_notes.specs.Walks.{NotedTo, RowsEnd}

-- ---- all lines that were left were passed over

over_rows : (n : ℕ) (over : List (List ℕ)) → list_all is_passed over ≡ true → record_lines n over ≡ []
over_rows n over passed = ap (record_lines n) (sym (append-nil over)) ∙ records_past n over [] passed

pub over_ahead : {S : Type 0} (reader : Reading S) (over : List (List ℕ)) (tail : Tail) → list_all is_passed over ≡ true → ahead_with reader over tail ≡ record { rows = []; tail = tail }
over_ahead reader over tail passed = ap (λ (rows : List Row). let a : Ahead = record { rows = rows; tail = tail } in a) (over_rows (reader.number + 1) over passed)

pub text_ahead : {S : Type 0} (left : S → Known) (old new : Reading S) (text : List ℕ) → NoRecord left old new (lines_of old text) → ahead old text ≡ nothing_ahead (new.number + 1)
text_ahead left old new text came =
    let number : old.number + 1 + length (lines_of old text).0 ≡ new.number + 1 = omega (arith, came.count) in
    ap (λ (rows : List Row). let a : Ahead = record { rows = rows; tail = tail_of (old.number + 1 + length (lines_of old text).0) (lines_of old text).1 } in a) came.none
    ∙ ap (λ t. let a : Ahead = record { rows = []; tail = tail_of (old.number + 1 + length (lines_of old text).0) t } in a) came.stop
    ∙ ap nothing_ahead number

abbrev pub end_looked : {S T : Type 0} (left : S → Known) (first : Ahead → Found T) (old new : Reading S) → first (record { rows = []; tail = Breaks }) ≡ Stopped Unread → NoneCame left old new → Looked left first old new
end_looked left first old new unread came = record {
  lines = came.over;
  handed = came.handed;
  count = came.count;
  going = came.going;
  needed = λ front last e. ap first (over_ahead old front Breaks (front_passed came.over front last came.passed e)) ∙ unread;
}

-- and then more lines were looked at
abbrev then_looked : {S T : Type 0} (left : S → Known) (f g : Ahead → Found T) (a b c : Reading S) → Passes left f g a b → Looked left g b c → Looked left f a c
then_looked left f g a b c p k = record {
  lines = p.looked.lines ++ k.lines;
  handed = handed_more left a b c p.looked.lines k.lines p.looked.handed k.handed;
  count = omega (arith, p.looked.count, k.count, length-append p.looked.lines k.lines);
  going = k.going;
  needed = λ front last e. elim (last_split p.looked.lines k.lines front last e) [
    | inl here ↦ p.looked.needed front last here
    | inr (rest, there, is) ↦ ap (λ l. f (ahead_with a l Breaks)) is ∙ p.reads rest Breaks ∙ k.needed rest last there
  ];
}

module _ {S : Type 0} (left : S → Known) (faults : S → ℕ) (alike : S → S → Type 0) (once : (a : S) → alike a a) (onward : (a b c : S) → alike a b → alike b c → alike a c) where
  -- ---- the next line

  -- a line came: what `f` reads of it and of what is behind it, `g` reads of what is behind it
  pub row_on : {T : Type 0} (f g : Ahead → Found T) (old new : Reading S) (n : ℕ) → NextRecord left faults alike old new (Ok (Some n))
      → ((a b : Ahead) → first_row stop_at a ≡ Came (n, new.line) b → f a ≡ g b) → ((a : Ahead) → first_row stop_at a ≡ Stopped Unread → f a ≡ Stopped Unread) → ReadsOn left faults alike f g old new
  row_on f g old new n e goes unread =
      let r = line_read left faults alike once onward stop_at old new n new.line refl refl e in
      let going = no_stop old.stop (Some n) old new e.sticky in
      record {
        gives = λ o text told. let p = r.gives o text told in record { rest = p.rest; told = p.told; reads = goes (ahead old text) (ahead new p.rest) p.reads };
        takes = λ o.
            let p = r.takes o in
            record {
              looked = record {
                lines = p.looked.lines;
                handed = p.looked.handed;
                count = p.looked.count;
                going = p.looked.going;
                needed = λ front last is. unread (ahead_with old front Breaks) (p.looked.needed front last is);
              };
              reads = λ more tail. goes (ahead_with old (p.looked.lines ++ more) tail) (ahead_with new more tail) (p.reads more tail);
            };
        stopped = if_none (λ s. f _ ≡ g _) old.stop going;
        sticky = if_none (λ s. new ≡ old) old.stop going;
        goes_on = omega (arith, e.falls.1);
        later = e.later;
        same = e.same;
      }

  -- no line came
  pub stop_as : {T : Type 0} (f : Ahead → Found T) (old new : Reading S) (s : ReadStop) → old.stop ≡ None → NextRecord left faults alike old new (Err s)
      → ((a : Ahead) → first_row stop_at a ≡ Stopped (stopped_by s) → f a ≡ Stopped (stopped_by s)) → ReadOf {T = T} left faults alike f old new (Err (Read s))
  stop_as {T = T} f old new s going e stops =
      let r = line_stopped left faults alike once onward stop_at old new s refl refl e in
      record {
        gives = λ o text told. gives s stops text (r.gives o text told);
        takes = λ o. takes s stops (r.takes o);
        stopped = if_none (λ t. ReadsStopped {T = T} f t (Err (Read s))) old.stop going;
        sticky = r.sticky;
        goes_on = tt;
        later = r.later;
        same = r.same;
      }
    where
      gives : (t : ReadStop) → ((a : Ahead) → first_row stop_at a ≡ Stopped (stopped_by t) → f a ≡ Stopped (stopped_by t)) → (text : List ℕ) → Gives {T = Row} left (first_row stop_at) old new text (Err (Read t)) → Gives {T = T} left f old new text (Err (Read t))
      gives Failed stops text k = tt
      gives Overlong stops text k = stops (ahead old text) k

      takes : (t : ReadStop) → ((a : Ahead) → first_row stop_at a ≡ Stopped (stopped_by t) → f a ≡ Stopped (stopped_by t)) → Takes {T = Row} left faults (first_row stop_at) old new (Err (Read t)) → Takes {T = T} left faults f old new (Err (Read t))
      takes Failed stops k = record { lines = k.lines; whole = k.whole; unended = k.unended; cause = k.cause; stopped = k.stopped; reads = stops (ahead_with old k.lines Breaks) k.reads }
      takes Overlong stops k = k

  -- memory was wanting behind the lines that were read
  pub memory_on : {T : Type 0} (f g : Ahead → Found T) (old new : Reading S) → ReadsOn left faults alike f g old new → ReadOf {T = T} left faults alike f old new (Err Memory)
  memory_on f g old new on = read_on left faults alike once onward f g old new new (Err Memory) on (read_memory left faults alike once onward g new)

  -- ---- a noting

  -- it was read where nothing more is
  pub noted_on : (f : Ahead → Found Noting) (noting : Noting) (held : Held) (old new : Reading S) → old.stop ≡ None → ReadsOn left faults alike f (came_held noting held new) old new → IsHeldBy left held new → left_over held new ≤ 2 * room old + 1
      → NotedTo left faults alike f noting held old new
  noted_on f noting held old new going on by falls =
      let p = on.takes going in
      record {
        gives = on.gives going;
        takes = record { looked = p.looked; reads = λ more tail may. p.reads more tail };
        held_by = by;
        falls = falls;
        later = on.later;
        same = on.same;
      }

  -- behind lines that were read it was
  pub noted_join : (f g : Ahead → Found Noting) (noting : Noting) (held : Held) (a b c : Reading S) → a.stop ≡ None → ReadsOn left faults alike f g a b → NotedTo left faults alike g noting held b c
      → NotedTo left faults alike f noting held a c
  noted_join f g noting held a b c going on k =
      let p = on.takes going in
      let next = came_held noting held c in
      record {
        gives = λ text told.
            let l = on.gives going text told in
            let m = k.gives l.rest l.told in
            record { rest = m.rest; told = m.told; reads = l.reads ∙ m.reads };
        takes = record {
          looked = then_looked left f g a b c p k.takes.looked;
          reads = λ more tail may.
              ap (λ l. f (ahead_with a l tail)) (append_assoc p.looked.lines k.takes.looked.lines more) ∙ p.reads (k.takes.looked.lines ++ more) tail ∙ k.takes.reads more tail may;
        };
        held_by = k.held_by;
        falls = omega (arith, k.falls, on.goes_on);
        later = omega (arith, on.later, k.later);
        same = onward a.source b.source c.source on.same k.same;
      }

  -- a line is missing at the end
  pub noted_end : (f : Ahead → Found Noting) (noting : Noting) (old new : Reading S) → NextRecord left faults alike old new (Ok None)
      → f (record { rows = []; tail = Breaks }) ≡ Stopped Unread → f (nothing_ahead (new.number + 1)) ≡ Came noting (nothing_ahead (new.number + 1)) → NotedTo left faults alike f noting Ended old new
  noted_end f noting old new e unread is =
      let going = no_stop old.stop None old new e.sticky in
      let came = e.came going in
      record {
        gives = λ text told.
            let k = e.records going text told in
            record { rest = []; told = k.told; reads = ap f (text_ahead left old new text k) ∙ is };
        takes = record {
          looked = end_looked left f old new unread came;
          reads = λ more tail may.
              let b = may.ended came.done.ended came.done.nothing in
              ap (λ l. f (ahead_with old l tail)) (ap (λ m. came.over ++ m) b.0 ∙ append-nil came.over)
              ∙ ap f (over_ahead old came.over tail came.passed)
              ∙ ap (λ t. f (record { rows = []; tail = t })) b.1
              ∙ is;
        };
        held_by = came.done;
        falls = omega arith;
        later = e.later;
        same = e.same;
      }

  -- ---- no line is left

  pub rows_end : (first : Ahead → Found Row) (old new : Reading S) → NextRecord left faults alike old new (Ok None) → first (record { rows = []; tail = Breaks }) ≡ Stopped Unread
      → ((n : ℕ) → first (nothing_ahead n) ≡ Stopped End) → RowsEnd left faults alike first old new
  rows_end first old new e unread ends =
      let going = no_stop old.stop None old new e.sticky in
      let came = e.came going in
      record {
        gives = λ text told. let k = e.records going text told in (ap first (text_ahead left old new text k) ∙ ends (new.number + 1), k.told);
        takes = record {
          looked = end_looked left first old new unread came;
          done = came.done;
          reads = ap first (over_ahead old came.over (Ends (new.number + 1)) came.passed) ∙ ends (new.number + 1);
        };
        at_end = e.at_end refl;
        later = e.later;
        same = e.same;
      }

  -- behind lines that were read none is left
  pub ends_join : (f g : Ahead → Found Row) (a b c : Reading S) → a.stop ≡ None → ReadsOn left faults alike f g a b → RowsEnd left faults alike g b c → RowsEnd left faults alike f a c
  ends_join f g a b c going on k =
      let p = on.takes going in
      record {
        gives = λ text told.
            let l = on.gives going text told in
            let m = k.gives l.rest l.told in
            (l.reads ∙ m.0, m.1);
        takes = record {
          looked = then_looked left f g a b c p k.takes.looked;
          done = k.takes.done;
          reads = p.reads k.takes.looked.lines (Ends (c.number + 1)) ∙ k.takes.reads;
        };
        at_end = k.at_end;
        later = omega (arith, on.later, k.later);
        same = onward a.source b.source c.source on.same k.same;
      }
