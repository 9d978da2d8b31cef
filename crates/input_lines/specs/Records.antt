-- What the next line that is a record is, by the lines of the text that is left.
use Rattle.std.specs.Prelude.{◌≡◌, ℕ, ◌+◌, ◌≤◌, List, [], ◌∷◌, length, Option, Some, None, Ok, Err, Result, IfSome}
use Rattle.std.specs.Io.KnownBytes.{IsAtEnd}
use Rattle.si_causes.specs.Reading.{Reading, Falls, text_left}
use Rattle.si_causes.specs.Text.{AtEnd, PastLimit}
use Rattle.si_causes.specs.declared.stop.ReadStop.{ReadStop}
use Rattle.si_causes.specs.declared.stop.ReadStop.TheVariants.{Failed, TooLong}
use Rattle.input_lines.specs.Going.{RecordCame}
use Rattle.input_lines.specs.Lines.{Lines, lines_of, record_lines}

-- a line came: it is the first record that was left, and has number n; the others are left
pub record FirstRecord {S : Type 0} (left : S → Option (List ℕ)) (old new : Reading S) (lines : Lines) (n : ℕ) : Type 0 where
  pub rest : List ℕ
  pub told : text_left left new ≡ Some rest
  pub first : record_lines (old.number + 1) lines.0 ≡ (n, new.line) ∷ record_lines (n + 1) (lines_of new rest).0
  pub stop : lines.1 ≡ (lines_of new rest).1
  pub count : new.number ≡ n
  -- the last line keeps its number
  pub last : old.number + length lines.0 ≡ n + length (lines_of new rest).0

-- no record was left, and the text ends
pub record NoRecord {S : Type 0} (left : S → Option (List ℕ)) (old new : Reading S) (lines : Lines) : Type 0 where
  pub none : record_lines (old.number + 1) lines.0 ≡ []
  pub stop : lines.1 ≡ AtEnd
  pub told : text_left left new ≡ Some []
  pub count : new.number ≡ old.number + length lines.0

-- no record was left before the limit of a text
pub record NoneInLimit {S : Type 0} (old new : Reading S) (lines : Lines) : Type 0 where
  pub none : record_lines (old.number + 1) lines.0 ≡ []
  pub stop : lines.1 ≡ PastLimit

abbrev pub GivesRecord : {S : Type 0} → (S → Option (List ℕ)) → Reading S → Reading S → Lines → Result (Option ℕ) ReadStop → Type 0
GivesRecord left old new lines (Ok (Some n)) = FirstRecord left old new lines n
GivesRecord left old new lines (Ok None) = NoRecord left old new lines
GivesRecord left old new lines (Err TooLong) = NoneInLimit old new lines
GivesRecord left old new lines (Err Failed) = Unit {0}

-- A call went on to the next line that is a record, or to the end, or it says why not. Behind a line less of the text is left, and a
-- reader that has stopped gives its stop.
pub record NextRecord {S : Type 0} (left : S → Option (List ℕ)) (faults : S → ℕ) (alike : S → S → Type 0) (old new : Reading S) (result : Result (Option ℕ) ReadStop) : Type 0 where
  pub records : old.stop ≡ None → (text : List ℕ) → text_left left old ≡ Some text → GivesRecord left old new (lines_of old text) result
  pub came : old.stop ≡ None → RecordCame left faults old new result
  pub falls : Falls old new result
  pub at_end : result ≡ Ok None → IsAtEnd (left new.source)
  pub sticky : IfSome old.stop (λ stop. (result ≡ Err stop) × (new ≡ old))
  pub later : faults old.source ≤ faults new.source
  pub same : alike old.source new.source
