-- What reading from the lines ahead tells, of a text that the source tells and of the bytes that it gave.
use Rattle.std.specs.Prelude.{◌≡◌, ◌⊎◌, ℕ, ◌+◌, ◌≤◌, ◌<◌, false, List, [], ◌∷◌, ◌++◌, length, Option, Some, None, Ok, Err, Result, IfOk, IfSome, OnOk}
use Rattle.std.specs.Io.KnownBytes.{IsAtEnd}
use Rattle.si_causes.specs.Reading.{Reading, room, text_left}
use Rattle.si_causes.specs.Causes.{Rose}
use Rattle.si_causes.specs.declared.stop.ReadStop.{ReadStop}
use Rattle.si_causes.specs.declared.stop.ReadStop.TheVariants.{Failed, TooLong as Overlong}
use Rattle.input_lines.specs.Lines.{record_lines}
use Rattle.input_lines.specs.Going.{HandedOut, HasEnded, NoneCame, WereWhole}
use Rattle.input_lines.specs.declared.stop.EditStop.{EditStop}
use Rattle.input_lines.specs.declared.stop.EditStop.TheVariants.{NoCommand as Refused, Read, Memory}
use Rattle.input_lines.specs.Ahead.{Ahead, Tail, Ends, Breaks, Exceeds, Found, Came, Stopped, Stop, End, NoCommand, TooLong, Unread, ahead}

-- Of a told text another is left, and what `first` reads of the one is what `next` reads of the other.
pub record Leaves {S T : Type 0} (left : S → Option (List ℕ)) (first next : Ahead → Found T) (old new : Reading S) (text : List ℕ) : Type 0 where
  pub rest : List ℕ
  pub told : text_left left new ≡ Some rest
  pub reads : first (ahead old text) ≡ next (ahead new rest)

-- a value was read of a told text, or exactly this stop comes
abbrev pub Gives : {S T : Type 0} → (S → Option (List ℕ)) → (Ahead → Found T) → Reading S → Reading S → List ℕ → Result T EditStop → Type 0
Gives left first old new text (Ok value) = Leaves left first (Came value) old new text
Gives left first old new text (Err (Refused n)) = first (ahead old text) ≡ Stopped (NoCommand n)
Gives left first old new text (Err (Read Overlong)) = first (ahead old text) ≡ Stopped TooLong
Gives left first old new text (Err (Read Failed)) = Unit {0}
Gives left first old new text (Err Memory) = Unit {0}

-- these lines are ahead of a reader, and then this
abbrev pub ahead_with : {S : Type 0} → Reading S → List (List ℕ) → Tail → Ahead
ahead_with reader lines tail = record { rows = record_lines (reader.number + 1) lines; tail = tail }

-- From old to new the reader handed out these lines, and no more than `first` has to look at: without the last of them it reads nothing
-- yet.
pub record Looked {S T : Type 0} (left : S → Option (List ℕ)) (first : Ahead → Found T) (old new : Reading S) : Type 0 where
  pub lines : List (List ℕ)
  pub handed : HandedOut left old new lines
  pub count : new.number ≡ old.number + length lines
  pub going : new.stop ≡ None
  pub needed : (front : List (List ℕ)) (last : List ℕ) → lines ≡ front ++ last ∷ [] → first (ahead_with old front Breaks) ≡ Stopped Unread

-- What `first` reads of the lines that were handed out and of what is behind them, whatever that is, is what `next` reads of what is
-- behind them.
pub record Passes {S T : Type 0} (left : S → Option (List ℕ)) (first next : Ahead → Found T) (old new : Reading S) : Type 0 where
  pub looked : Looked left first old new
  pub reads : (more : List (List ℕ)) (tail : Tail) → first (ahead_with old (looked.lines ++ more) tail) ≡ next (ahead_with new more tail)

-- The lines that were handed out are refused as line n, whatever is behind them.
pub record RefusesLines {S T : Type 0} (left : S → Option (List ℕ)) (first : Ahead → Found T) (old new : Reading S) (n : ℕ) : Type 0 where
  pub looked : Looked left first old new
  pub reads : (more : List (List ℕ)) (tail : Tail) → first (ahead_with old (looked.lines ++ more) tail) ≡ Stopped (NoCommand n)

-- The lines that were handed out are all that were left, and the line behind them is missing: it is refused as line n.
pub record RefusesEnd {S T : Type 0} (left : S → Option (List ℕ)) (first : Ahead → Found T) (old new : Reading S) (n : ℕ) : Type 0 where
  pub looked : Looked left first old new
  pub done : HasEnded left new
  pub reads : first (ahead_with old looked.lines (Ends (new.number + 1))) ≡ Stopped (NoCommand n)

-- a refusal: the reader stands behind the refused line, or at the end, where a line is missing
abbrev pub Refuses : {S T : Type 0} → (S → Option (List ℕ)) → (Ahead → Found T) → Reading S → Reading S → ℕ → Type 0
Refuses left first old new n = RefusesLines left first old new n ⊎ RefusesEnd left first old new n

-- A read failed: the lines that were whole in the bytes taken are too few to read by, and no refusal stands in them.
pub record Faulted {S T : Type 0} (left : S → Option (List ℕ)) (faults : S → ℕ) (first : Ahead → Found T) (old new : Reading S) : Type 0 where
  pub lines : List (List ℕ)
  pub whole : WereWhole left old new lines
  pub unended : old.ended ≡ false
  pub cause : Rose (faults old.source) (faults new.source)
  pub stopped : new.stop ≡ Some Failed
  pub reads : first (ahead_with old lines Breaks) ≡ Stopped Unread

-- what reading a value tells of the bytes, whether or not the source tells its text
abbrev pub Takes : {S T : Type 0} → (S → Option (List ℕ)) → (S → ℕ) → (Ahead → Found T) → Reading S → Reading S → Result T EditStop → Type 0
Takes left faults first old new (Ok value) = Passes left first (Came value) old new
Takes left faults first old new (Err (Refused n)) = Refuses left first old new n
Takes left faults first old new (Err (Read Overlong)) = new.stop ≡ Some Overlong
Takes left faults first old new (Err (Read Failed)) = Faulted left faults first old new
Takes left faults first old new (Err Memory) = Looked left first old new

-- what line n is, or the refusal of it
abbrev pub Says : {T : Type 0} → ℕ → Option T → Result T EditStop → Type 0
Says n found (Ok value) = found ≡ Some value
Says n found (Err (Refused at)) = (at ≡ n) × (found ≡ None)
Says n found (Err (Read stop)) = ⊥
Says n found (Err Memory) = Unit {0}

-- ---- a reader that has stopped

-- no line is ahead, and then this
abbrev pub none_ahead : ReadStop → Ahead
none_ahead Failed = record { rows = []; tail = Breaks }
none_ahead Overlong = record { rows = []; tail = Exceeds }

abbrev pub stopped_by : ReadStop → Stop
stopped_by Failed = Unread
stopped_by Overlong = TooLong

-- What is read by a reader that has stopped: what needs no line, or its stop.
abbrev pub ReadsStopped : {T : Type 0} → (Ahead → Found T) → ReadStop → Result T EditStop → Type 0
ReadsStopped first stop (Ok value) = first (none_ahead stop) ≡ Came value (none_ahead stop)
ReadsStopped first stop (Err (Refused n)) = first (none_ahead stop) ≡ Stopped (NoCommand n)
ReadsStopped first stop (Err (Read s)) = (s ≡ stop) × (first (none_ahead stop) ≡ Stopped (stopped_by stop))
ReadsStopped first stop (Err Memory) = Unit {0}

-- ---- what a call tells

-- A call read a value as `first` reads it of the lines ahead, or it says why not.
pub record ReadOf {S T : Type 0} (left : S → Option (List ℕ)) (faults : S → ℕ) (alike : S → S → Type 0) (first : Ahead → Found T) (old new : Reading S) (result : Result T EditStop) : Type 0 where
  pub gives : old.stop ≡ None → (text : List ℕ) → text_left left old ≡ Some text → Gives left first old new text result
  pub takes : old.stop ≡ None → Takes left faults first old new result
  pub stopped : IfSome old.stop (λ stop. ReadsStopped first stop result)
  pub sticky : IfSome old.stop (λ stop. new ≡ old)
  pub goes_on : OnOk result (room new ≤ room old)
  pub later : faults old.source ≤ faults new.source
  pub same : alike old.source new.source

-- the next value was read of a told text, or there is none, or exactly this stop comes
abbrev pub GivesNext : {S T : Type 0} → (S → Option (List ℕ)) → (Ahead → Found T) → Reading S → Reading S → List ℕ → Result (Option T) EditStop → Type 0
GivesNext left first old new text (Ok (Some value)) = Leaves left first (Came value) old new text
GivesNext left first old new text (Ok None) = (first (ahead old text) ≡ Stopped End) × (text_left left new ≡ Some [])
GivesNext {T = T} left first old new text (Err stop) = Gives {T = T} left first old new text (Err stop)

abbrev pub TakesNext : {S T : Type 0} → (S → Option (List ℕ)) → (S → ℕ) → (Ahead → Found T) → Reading S → Reading S → Result (Option T) EditStop → Type 0
TakesNext left faults first old new (Ok (Some value)) = Passes left first (Came value) old new
TakesNext left faults first old new (Ok None) = NoneCame left old new
TakesNext {T = T} left faults first old new (Err stop) = Takes {T = T} left faults first old new (Err stop)

-- A call read the next value as `first` reads it of the lines ahead, or none exactly at the end, or it says why not. Behind a value
-- less of the text is left, and a reader that has stopped gives its stop.
pub record NextOf {S T : Type 0} (left : S → Option (List ℕ)) (faults : S → ℕ) (alike : S → S → Type 0) (first : Ahead → Found T) (old new : Reading S) (result : Result (Option T) EditStop) : Type 0 where
  pub gives : old.stop ≡ None → (text : List ℕ) → text_left left old ≡ Some text → GivesNext left first old new text result
  pub takes : old.stop ≡ None → TakesNext left faults first old new result
  pub falls : IfOk result (λ found. IfSome found (λ value. room new < room old))
  pub sticky : IfSome old.stop (λ stop. (result ≡ Err (Read stop)) × (new ≡ old))
  pub at_end : result ≡ Ok None → IsAtEnd (left new.source)
  pub later : faults old.source ≤ faults new.source
  pub same : alike old.source new.source
