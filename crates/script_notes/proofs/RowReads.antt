-- The line that is read as a command.
use Rattle.std.proofs.Common.{◌≡◌, ℕ, true, false, List, [], ◌∷◌, refl, sym, ap, ◌∙◌, arith}
use Rattle.std.specs.Prelude.{Option, Some, None, Ok, Err, Result}
use Rattle.std.specs.Io.KnownBytes.{IsAtEnd, prepend_known}
use Rattle.si_causes.specs.Reading.{Reading, text_left}
use Rattle.si_causes.specs.declared.stop.ReadStop.{ReadStop}
use Rattle.input_lines.specs.Going.{HasEnded}
use Rattle.input_lines.specs.Records.{NextRecord}
use Rattle.input_lines.specs.declared.stop.EditStop.TheVariants.{Read}
use Rattle.input_lines.specs.Ahead.{Ahead, Row, Tail, Found, Came, Stopped, Stop, first_row, row_of, stop_at}
use Rattle.input_lines.proofs.LineReads.{Known, ReadsOn, line_read, line_stopped, on_join, on_none, on_value, read_not, read_on, read_value}
use Rattle.script_notes.specs.declared.noting.Held.TheVariants.{Nothing, Attached, Line, Ended}
use Rattle.script_notes.specs.Notings.{is_attached, past_attached, unattached}
use Rattle.script_notes.specs.Walks.{IsRowRead, row_held}
use Rattle.script_notes.proofs.Steps.{ends_join, rows_end}

-- the first line that is not attached
abbrev pub unattached_row : Ahead → Found Row
unattached_row lines = first_row stop_at (unattached lines)

over_rows : (rows : List Row) (tail : Tail) (row : Row) (b : Ahead) → row_of stop_at rows tail ≡ Came row b → is_attached row.1 ≡ true → row_of stop_at (past_attached rows) tail ≡ row_of stop_at (past_attached b.rows) b.tail
over_rows [] tail row b e h = absurd cc
over_rows (first ∷ rows) tail row b e h =
    let same : first ≡ row = cc in
    let rest : (let a : Ahead = record { rows = rows; tail = tail } in a) ≡ b = cc in
    let yes : is_attached first.1 ≡ true = ap (λ (r : Row). is_attached r.1) same ∙ h in
    rw yes (ap (λ (a : Ahead). row_of stop_at (past_attached a.rows) a.tail) rest)

over : (row : Row) (a b : Ahead) → first_row stop_at a ≡ Came row b → is_attached row.1 ≡ true → unattached_row a ≡ unattached_row b
over row a b e h = over_rows a.rows a.tail row b e h

here_rows : (rows : List Row) (tail : Tail) (row : Row) (b : Ahead) → row_of stop_at rows tail ≡ Came row b → is_attached row.1 ≡ false → row_of stop_at (past_attached rows) tail ≡ Came row b
here_rows [] tail row b e h = absurd cc
here_rows (first ∷ rows) tail row b e h =
    let same : first ≡ row = cc in
    let other : is_attached first.1 ≡ false = ap (λ (r : Row). is_attached r.1) same ∙ h in
    rw other e

here : (row : Row) (a b : Ahead) → first_row stop_at a ≡ Came row b → is_attached row.1 ≡ false → unattached_row a ≡ Came row b
here row a b e h = here_rows a.rows a.tail row b e h

none_rows : (rows : List Row) (tail : Tail) (s : Stop) → row_of stop_at rows tail ≡ Stopped s → row_of stop_at (past_attached rows) tail ≡ Stopped s
none_rows [] tail s e = e
none_rows (row ∷ rows) tail s e = absurd cc

none : (a : Ahead) (s : Stop) → first_row stop_at a ≡ Stopped s → unattached_row a ≡ Stopped s
none a s e = none_rows a.rows a.tail s e

-- behind its end a source has nothing to give
told_none : (known : Known) (held text : List ℕ) → IsAtEnd known → held ≡ [] → prepend_known held known ≡ Some text → prepend_known held known ≡ Some []
told_none None held text end none e = absurd cc
told_none (Some xs) held text end none e = rw (none, end) refl

nothing_left : {S : Type 0} (left : S → Known) (reader : Reading S) (text : List ℕ) → HasEnded left reader → text_left left reader ≡ Some text → text_left left reader ≡ Some []
nothing_left left reader text done e = told_none (left reader.source) reader.held text done.at_end done.nothing e

module _ {S : Type 0} (left : S → Known) (faults : S → ℕ) (alike : S → S → Type 0) (once : (a : S) → alike a a) (onward : (a b c : S) → alike a b → alike b c → alike a c) where
  -- ---- nothing is held

  pub plain_row : (old new : Reading S) (r : Result (Option ℕ) ReadStop) → old.stop ≡ None → NextRecord left faults alike old new r → IsRowRead left faults alike Nothing old new r
  plain_row old new (Ok (Some n)) going e = record {
    number = sym (e.came going).count;
    going = e.falls.0;
    reads = line_read left faults alike once onward stop_at old new n new.line refl refl e;
    falls = let lt = e.falls.1 in omega arith;
  }
  plain_row old new (Ok None) going e = rows_end left faults alike once onward (first_row stop_at) old new e refl (λ n. refl)
  plain_row old new (Err s) going e = line_stopped left faults alike once onward stop_at old new s refl refl e

  -- ---- attached lines are passed over

  pub over_on : (old now new : Reading S) (n : ℕ) → ReadsOn left faults alike unattached_row unattached_row old now → NextRecord left faults alike now new (Ok (Some n)) → is_attached new.line ≡ true
      → ReadsOn left faults alike unattached_row unattached_row old new
  over_on old now new n on e attached =
      on_join left faults alike once onward unattached_row unattached_row unattached_row old now new on
      (on_value left faults alike once onward (first_row stop_at) (n, new.line) unattached_row unattached_row now new (λ a b h. over (n, new.line) a b h attached) none
      (line_read left faults alike once onward stop_at now new n new.line refl refl e))

  pub over_came : (old now new : Reading S) (n : ℕ) → now.stop ≡ None → ReadsOn left faults alike unattached_row unattached_row old now → NextRecord left faults alike now new (Ok (Some n)) → is_attached new.line ≡ false
      → IsRowRead left faults alike Attached old new (Ok (Some n))
  over_came old now new n going on e other =
      let row : Row = (n, new.line) in
      record {
        number = sym (e.came going).count;
        going = e.falls.0;
        reads =
            read_on left faults alike once onward unattached_row (Came row) old new new (Ok row)
            (on_join left faults alike once onward unattached_row unattached_row (Came row) old now new on
            (on_value left faults alike once onward (first_row stop_at) row unattached_row (Came row) now new (λ a b h. here row a b h other) none
            (line_read left faults alike once onward stop_at now new n new.line refl refl e)))
            (read_value left faults alike once onward (Came row) row new (λ a. refl));
        falls = let lt = e.falls.1 in let le = on.goes_on in omega arith;
      }

  pub over_ends : (old now new : Reading S) → old.stop ≡ None → ReadsOn left faults alike unattached_row unattached_row old now → NextRecord left faults alike now new (Ok None) → IsRowRead left faults alike Attached old new (Ok None)
  over_ends old now new going on e =
      ends_join left faults alike once onward unattached_row unattached_row old now new going on (rows_end left faults alike once onward unattached_row now new e refl (λ n. refl))

  pub over_stopped : (old now new : Reading S) (s : ReadStop) → ReadsOn left faults alike unattached_row unattached_row old now → NextRecord left faults alike now new (Err s) → IsRowRead left faults alike Attached old new (Err s)
  over_stopped old now new s on e =
      read_on left faults alike once onward unattached_row unattached_row old now new (Err (Read s)) on
      (read_not left faults alike once onward (first_row stop_at) unattached_row now new (Read s) none (line_stopped left faults alike once onward stop_at now new s refl refl e))

  pub none_over : (reader : Reading S) → ReadsOn left faults alike unattached_row unattached_row reader reader
  none_over reader = on_none left faults alike once onward unattached_row unattached_row reader (λ a. refl)

  -- ---- a line is held

  pub held_row : (reader : Reading S) → reader.stop ≡ None → IsRowRead left faults alike Line reader reader (Ok (Some reader.number))
  held_row reader going = record {
    number = refl;
    going = going;
    reads = read_value left faults alike once onward (row_held Line reader) (reader.number, reader.line) reader (λ a. refl);
    falls = omega arith;
  }

  -- ---- the lines have ended

  pub ended_row : (reader : Reading S) → reader.stop ≡ None → HasEnded left reader → IsRowRead left faults alike Ended reader reader (Ok None)
  ended_row reader going done = record {
    gives = λ text told. (refl, nothing_left left reader text done told);
    takes = record {
      looked = ((on_none left faults alike once onward (row_held Ended reader) (row_held Ended reader) reader (λ a. refl)).takes going).looked;
      done = done;
      reads = refl;
    };
    at_end = done.at_end;
    later = omega arith;
    same = once reader.source;
  }
