-- What reading notings tells, of a text that the source tells and of the bytes that it gave.
use Rattle.std.specs.Prelude.{◌≡◌, ℕ, ◌+◌, ◌*◌, ◌≤◌, ◌<◌, Bool, true, List, [], ◌∷◌, ◌++◌, length, Option, Some, Ok, Err, Result}
use Rattle.std.specs.Io.KnownBytes.{IsAtEnd}
use Rattle.si_causes.specs.Reading.{Reading, room, text_left}
use Rattle.si_causes.specs.declared.stop.ReadStop.TheVariants.{Failed, TooLong as Overlong}
use Rattle.input_lines.specs.Going.{HasEnded}
use Rattle.input_lines.specs.declared.stop.EditStop.{EditStop}
use Rattle.input_lines.specs.declared.stop.EditStop.TheVariants.{NoCommand as Refused, Read, Memory}
use Rattle.input_lines.specs.Ahead.{Ahead, Tail, Ends, Found, Came, Stopped, End, ahead}
use Rattle.input_lines.specs.Reads.{Faulted, Gives, Leaves, Looked, ahead_with}
use Rattle.script_lines.specs.declared.script.ScriptItem.TheVariants as item
use Rattle.script_lines.specs.Script.{IsItemWithin, IsShapedScriptItem}
use Rattle.script_notes.specs.declared.noting.Noting.{Noting}
use Rattle.script_notes.specs.declared.noting.Noting.TheVariants.{Item, Bad}
use Rattle.script_notes.specs.declared.noting.Held.{Held}
use Rattle.script_notes.specs.declared.noting.Held.TheVariants.{Nothing, Attached, Line, Ended}
use Rattle.script_notes.specs.Notings.{first_noting, unattached}
use Rattle.script_notes.specs.Whys.{CanBeSaid}

-- ---- what is ahead with what is held

-- the reader's last line in front
abbrev pub with_line : {S : Type 0} → Reading S → Ahead → Ahead
with_line reader lines = record { rows = (reader.number, reader.line) ∷ lines.rows; tail = lines.tail }

-- no line is ahead, and the one that is missing has this number
abbrev pub nothing_ahead : ℕ → Ahead
nothing_ahead n = record { rows = []; tail = Ends n }

abbrev pub with_held : {S : Type 0} → Held → Reading S → Ahead → Ahead
with_held Nothing reader lines = lines
with_held Attached reader lines = unattached lines
with_held Line reader lines = with_line reader lines
with_held Ended reader lines = nothing_ahead (reader.number + 1)

-- what is ahead of a reader that holds this and has still to give this text
abbrev pub ahead_held : {S : Type 0} → Held → Reading S → List ℕ → Ahead
ahead_held held reader text = with_held held reader (ahead reader text)

-- the next noting of what is ahead with what is held
abbrev pub first_held : {S : Type 0} → Bool → Held → Reading S → Ahead → Found Noting
first_held after held reader lines = first_noting after (with_held held reader lines)

-- this noting came, and the rest is ahead with what is held
abbrev pub came_held : {S : Type 0} → Noting → Held → Reading S → Ahead → Found Noting
came_held noting held reader lines = Came noting (with_held held reader lines)

-- where the lines have ended, the source told its end and the reader holds no byte
abbrev pub IsHeldBy : {S : Type 0} → (S → Option (List ℕ)) → Held → Reading S → Type 0
IsHeldBy left Ended reader = HasEnded left reader
IsHeldBy left held reader = Unit {0}

-- How much is left: twice the room of the reader, and one more for a line that is held. It falls with each noting.
abbrev pub left_over : {S : Type 0} → Held → Reading S → ℕ
left_over Ended reader = 0
left_over Line reader = 2 * room reader + 2
left_over held reader = 2 * room reader + 1

-- ---- what a call tells

-- These lines, and then this, may be ahead of a reader: the line that is missing has its number, and behind the end there is nothing.
pub record MayBeAhead {S : Type 0} (reader : Reading S) (lines : List (List ℕ)) (tail : Tail) : Type 0 where
  pub last : (n : ℕ) → tail ≡ Ends n → n ≡ reader.number + 1 + length lines
  pub ended : reader.ended ≡ true → reader.held ≡ [] → (lines ≡ []) × (tail ≡ Ends (reader.number + 1))

-- What `first` reads of the lines that were handed out and of what is behind them, whatever that may be, is what `next` reads of what is
-- behind them.
pub record PassesTo {S T : Type 0} (left : S → Option (List ℕ)) (first next : Ahead → Found T) (old new : Reading S) : Type 0 where
  pub looked : Looked left first old new
  pub reads : (more : List (List ℕ)) (tail : Tail) → MayBeAhead new more tail
      → first (ahead_with old (looked.lines ++ more) tail) ≡ next (ahead_with new more tail)

-- The lines that were handed out are all that were left, and `first` reads nothing of them.
pub record EndsThere {S T : Type 0} (left : S → Option (List ℕ)) (first : Ahead → Found T) (old new : Reading S) : Type 0 where
  pub looked : Looked left first old new
  pub done : HasEnded left new
  pub reads : first (ahead_with old looked.lines (Ends (new.number + 1))) ≡ Stopped End

abbrev pub GivesNoting : {S : Type 0} → (S → Option (List ℕ)) → (Ahead → Found Noting) → Held → Reading S → Reading S → List ℕ → Result Noting EditStop → Type 0
GivesNoting left first now old new text (Ok (Item item.End)) = (first (ahead old text) ≡ Stopped End) × (text_left left new ≡ Some [])
GivesNoting left first now old new text (Ok noting) = Leaves left first (came_held noting now new) old new text
GivesNoting left first now old new text (Err (Refused n)) = ⊥
GivesNoting left first now old new text (Err stop) = Gives {T = Noting} left first old new text (Err stop)

abbrev pub TakesNoting : {S : Type 0} → (S → Option (List ℕ)) → (S → ℕ) → (Ahead → Found Noting) → Held → Reading S → Reading S → Result Noting EditStop → Type 0
TakesNoting left faults first now old new (Ok (Item item.End)) = EndsThere left first old new
TakesNoting left faults first now old new (Ok noting) = PassesTo left first (came_held noting now new) old new
TakesNoting left faults first now old new (Err (Refused n)) = ⊥
TakesNoting left faults first now old new (Err (Read Overlong)) = new.stop ≡ Some Overlong
TakesNoting left faults first now old new (Err (Read Failed)) = Faulted left faults first old new
TakesNoting left faults first now old new (Err Memory) = Looked left first old new

-- with each noting but the end less is left
abbrev pub FallsNoting : {S : Type 0} → Held → Held → Reading S → Reading S → Result Noting EditStop → Type 0
FallsNoting held now old new (Ok (Item item.End)) = Unit {0}
FallsNoting held now old new (Ok noting) = left_over now new < left_over held old
FallsNoting held now old new (Err stop) = Unit {0}

-- A call read the next noting of the lines ahead with what was held, or `End` exactly at the end, or it says why not; `now` is held then.
pub record NotingOf {S : Type 0} (left : S → Option (List ℕ)) (faults : S → ℕ) (alike : S → S → Type 0) (after : Bool) (held now : Held) (old new : Reading S) (result : Result Noting EditStop) : Type 0 where
  pub gives : (text : List ℕ) → text_left left old ≡ Some text → GivesNoting left (first_held after held old) now old new text result
  pub takes : TakesNoting left faults (first_held after held old) now old new result
  pub falls : FallsNoting held now old new result
  pub at_end : result ≡ Ok (Item item.End) → IsAtEnd (left new.source)
  pub later : faults old.source ≤ faults new.source
  pub same : alike old.source new.source

-- ---- what a noting has

-- what a desk may be asked, and what can be written
abbrev pub IsSoundNoting : Noting → Type 0
IsSoundNoting (Item item) = IsItemWithin item × IsShapedScriptItem item
IsSoundNoting (Bad n why) = CanBeSaid why
