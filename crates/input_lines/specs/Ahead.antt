-- What is ahead of a reader of lines: the lines that are records, each with its number, and what stands behind them.
use Rattle.std.specs.Prelude.{ℕ, zero, suc, ◌+◌, List, [], ◌∷◌, length, Option, Some, None}
use Rattle.si_causes.specs.Reading.{Reading}
use Rattle.si_causes.specs.Text.{TextEnd, AtEnd, PastLimit}
use Rattle.input_lines.specs.Lines.{Lines, lines_of, record_lines}

-- a line with its number
abbrev pub Row : Type 0
Row = ℕ × List ℕ

pub data Tail : Type 0 where
  -- the text ends, and the line behind its last one would have this number
  Ends : ℕ → Tail
  -- the text goes on behind the last byte that it may have
  Exceeds : Tail
  -- a read failed before a further line was whole
  Breaks : Tail

pub record Ahead : Type 0 where
  pub rows : List Row
  pub tail : Tail

-- why no more is read: the text ended, the line with this number is not read there, the text is too long, or a read failed
pub data Stop : Type 0 where
  End : Stop
  NoCommand : ℕ → Stop
  TooLong : Stop
  Unread : Stop

-- what is read of the lines ahead: a value, and what is ahead behind its lines; or the stop
pub data Found (T : Type 0) : Type 0 where
  Came : T → Ahead → Found T
  Stopped : Stop → Found T

-- and then another, of what is ahead behind it
abbrev pub and_then : {T U : Type 0} → Found T → (T → Ahead → Found U) → Found U
and_then (Came value behind) next = next value behind
and_then (Stopped stop) next = Stopped stop

-- a value that came has this
abbrev pub IfCame : {T : Type 0} → (T → Type 0) → Found T → Type 0
IfCame P (Came value behind) = P value
IfCame P (Stopped stop) = Unit {0}

-- the stop where a value may begin
abbrev pub stop_at : Tail → Stop
stop_at (Ends n) = End
stop_at Exceeds = TooLong
stop_at Breaks = Unread

-- the stop where a line has to come: at the end it is the line that is not there
abbrev pub missing_at : Tail → Stop
missing_at (Ends n) = NoCommand n
missing_at Exceeds = TooLong
missing_at Breaks = Unread

abbrev pub row_of : (Tail → Stop) → List Row → Tail → Found Row
row_of stop [] tail = Stopped (stop tail)
row_of stop (row ∷ rows) tail = Came row (record { rows = rows; tail = tail })

-- the first line ahead
abbrev pub first_row : (Tail → Stop) → Ahead → Found Row
first_row stop ahead = row_of stop ahead.rows ahead.tail

-- what line n is read as; it is no command where it is nothing
abbrev pub on_line : {T : Type 0} → ℕ → Option T → Ahead → Found T
on_line n None behind = Stopped (NoCommand n)
on_line n (Some value) behind = Came value behind

abbrev pub tail_of : ℕ → TextEnd → Tail
tail_of n AtEnd = Ends n
tail_of n PastLimit = Exceeds

-- what is ahead in these lines, of which the first has number n
abbrev pub ahead_in : ℕ → Lines → Ahead
ahead_in n lines = record { rows = record_lines n lines.0; tail = tail_of (n + length lines.0) lines.1 }

-- what is ahead of a reader that has still to give this text
abbrev pub ahead : {S : Type 0} → Reading S → List ℕ → Ahead
ahead reader text = ahead_in (reader.number + 1) (lines_of reader text)

-- ---- one value after another

-- a value before those of what is ahead behind it, and their stop
abbrev pub and_all : {T : Type 0} → Found T → (T → Ahead → List T × Stop) → List T × Stop
and_all (Came value behind) others = (value ∷ (others value behind).0, (others value behind).1)
and_all (Stopped stop) others = ([], stop)

-- the values ahead, so many at most; what may come can depend on the value before
abbrev pub values_upto : {T Q : Type 0} → (Q → Ahead → Found T) → (T → Q) → ℕ → Q → Ahead → List T × Stop
values_upto first after zero q lines = ([], stop_at lines.tail)
values_upto first after (suc n) q lines = and_all (first q lines) (λ value behind. values_upto first after n (after value) behind)

-- the values ahead, which are no more than the lines, and why no more is read
abbrev pub values_ahead : {T Q : Type 0} → (Q → Ahead → Found T) → (T → Q) → Q → Ahead → List T × Stop
values_ahead first after q lines = values_upto first after (length lines.rows) q lines
