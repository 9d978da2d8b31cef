-- What `next` of a reader of lines does.
use Rattle.std.specs.Prelude.{◌≡◌, ◌≢◌, ℕ, ◌+◌, ◌-◌, ◌≤◌, ◌<◌, Bool, true, false, List, [], ◌∷◌, ◌++◌, length, Option, Some, None, Ok, Err, Result}
use Rattle.std.specs.Io.KnownBytes.{Consumes, IsAtEnd, prepend_known}
use Rattle.si_causes.specs.Causes.{Rose}
use Rattle.si_causes.specs.Lines.{first_line, after_line, has_end, shown}
use Rattle.si_causes.specs.Text.{TextEnd, AtEnd, PastLimit, text_limit, lines_left}
use Rattle.si_causes.specs.declared.stop.ReadStop.{ReadStop}
use Rattle.si_causes.specs.declared.stop.ReadStop.TheVariants.{Failed, TooLong}

-- a reader of lines over a source
pub record Reading (S : Type 0) : Type 0 where
  pub source : S
  -- bytes that the source gave and that stand in no line yet
  pub held : List ℕ
  -- how many bytes of the text stand in the lines handed out, with their LFs
  pub passed : ℕ
  -- how many lines were handed out
  pub number : ℕ
  -- the last of them
  pub line : List ℕ
  -- whether the source told its end
  pub ended : Bool
  -- why there are no more lines
  pub stop : Option ReadStop
  -- how many bytes the text may have
  pub limit : ℕ

-- a reader that has read nothing of a text that may have so many bytes
abbrev pub fresh_to : {S : Type 0} → ℕ → S → Reading S
fresh_to limit source = record { source = source; held = []; passed = 0; number = 0; line = []; ended = false; stop = None; limit = limit }

-- the same, with the limit of a script
abbrev pub fresh : {S : Type 0} → S → Reading S
fresh source = fresh_to text_limit source

-- the text that a reader has still to give, where the source tells it
abbrev pub text_left : {S : Type 0} → (S → Option (List ℕ)) → Reading S → Option (List ℕ)
text_left left reader = prepend_known reader.held (left reader.source)

-- how many bytes the text that is left may have
abbrev pub room : {S : Type 0} → Reading S → ℕ
room reader = reader.limit - reader.passed

-- a line came, and `more` is what the source gave in this call
pub record LineCame {S : Type 0} (left : S → Option (List ℕ)) (old new : Reading S) (n : ℕ) (more : List ℕ) : Type 0 where
  pub gave : Consumes (left old.source) (left new.source) more
  pub line : new.line ≡ shown (first_line (old.held ++ more))
  pub rest : new.held ≡ after_line (old.held ++ more)
  -- no byte is lost
  pub passed : new.passed + length new.held ≡ old.passed + length (old.held ++ more)
  pub within : new.passed + length new.held ≤ old.limit
  pub limit : new.limit ≡ old.limit
  pub number : n ≡ old.number + 1
  pub count : new.number ≡ n
  -- a line without an LF is the last, and has a byte
  pub last : has_end (old.held ++ more) ≡ false → (old.held ++ more ≢ []) × IsAtEnd (left new.source) × (new.ended ≡ true)
  pub going : new.stop ≡ None

-- there is no further line
pub record EndCame {S : Type 0} (left : S → Option (List ℕ)) (old new : Reading S) : Type 0 where
  pub gave : Consumes (left old.source) (left new.source) []
  pub held : old.held ≡ []
  pub rest : new.held ≡ []
  pub at_end : IsAtEnd (left new.source)
  pub ended : new.ended ≡ true
  pub passed : new.passed ≡ old.passed
  pub count : new.number ≡ old.number
  pub going : new.stop ≡ None

-- the source gave a byte behind the last that a text may have, and the line was not whole
pub record TooLongCame {S : Type 0} (left : S → Option (List ℕ)) (old new : Reading S) : Type 0 where
  pub over : (more : List ℕ) × (byte : ℕ) × Consumes (left old.source) (left new.source) (more ++ byte ∷ []) × (old.passed + length (old.held ++ more) ≡ old.limit) × (has_end (old.held ++ more) ≡ false)
  pub passed : new.passed ≡ old.passed
  pub count : new.number ≡ old.number
  pub stopped : new.stop ≡ Some TooLong

-- the source failed before the line was whole: what it gave in this call is `more`
pub record FailedCame {S : Type 0} (left : S → Option (List ℕ)) (faults : S → ℕ) (old new : Reading S) : Type 0 where
  pub front : (more : List ℕ) × Consumes (left old.source) (left new.source) more × (has_end (old.held ++ more) ≡ false)
  pub cause : Rose (faults old.source) (faults new.source)
  pub passed : new.passed ≡ old.passed
  pub count : new.number ≡ old.number
  pub stopped : new.stop ≡ Some Failed

-- what a call that stops tells
abbrev pub StopCame : {S : Type 0} → (S → Option (List ℕ)) → (S → ℕ) → Reading S → Reading S → ReadStop → Type 0
StopCame left faults old new Failed = FailedCame left faults old new
StopCame left faults old new TooLong = TooLongCame left old new

-- what a call tells that gives a line or the end
abbrev pub LineOrEnd : {S : Type 0} → (S → Option (List ℕ)) → Reading S → Reading S → Option ℕ → Type 0
LineOrEnd left old new (Some n) = (more : List ℕ) × LineCame left old new n more
LineOrEnd left old new None = EndCame left old new

-- what a call tells where no earlier one stopped
abbrev pub NextCame : {S : Type 0} → (S → Option (List ℕ)) → (S → ℕ) → Reading S → Reading S → Result (Option ℕ) ReadStop → Type 0
NextCame left faults old new (Ok found) = LineOrEnd left old new found
NextCame left faults old new (Err stop) = StopCame left faults old new stop

-- a call met no fault, but where it answers `Failed`: the count is as it was
abbrev pub IsQuietUnlessFailed : {T : Type 0} → ℕ → ℕ → Result T ReadStop → Type 0
IsQuietUnlessFailed before now (Err Failed) = Unit {0}
IsQuietUnlessFailed before now result = now ≡ before

-- What a call gives of the lines that were left of a told text: the first of them with its number, and then the
-- others are left; or the stop. A read that failed gives nothing of them.
abbrev pub GivesLine : {S : Type 0} → (S → Option (List ℕ)) → Reading S → Reading S → List (List ℕ) × TextEnd → Result (Option ℕ) ReadStop → Type 0
GivesLine left old new (line ∷ lines, end) (Ok (Some n)) =
    (n ≡ old.number + 1) × (new.line ≡ line) × ((rest : List ℕ) × (text_left left new ≡ Some rest) × (lines_left (room new) rest ≡ (lines, end)))
GivesLine left old new ([], AtEnd) (Ok None) = text_left left new ≡ Some []
GivesLine left old new ([], PastLimit) (Err TooLong) = Unit {0}
GivesLine left old new lines (Err Failed) = Unit {0}
GivesLine left old new lines result = ⊥

-- after a line a loop may call again, and less of the text is left
abbrev pub Falls : {S : Type 0} → Reading S → Reading S → Result (Option ℕ) ReadStop → Type 0
Falls old new (Ok (Some n)) = (new.stop ≡ None) × (room new < room old)
Falls old new result = Unit {0}
