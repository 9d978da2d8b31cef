-- How a reader goes on over the bytes that its source gives, whether or not the source tells them.
use Rattle.std.specs.Prelude.{◌≡◌, ℕ, ◌+◌, true, false, List, [], ◌∷◌, ◌++◌, length, map, Option, Some, None, Ok, Err, Result}
use Rattle.std.specs.List.{list_all}
use Rattle.std.specs.Io.KnownBytes.{Consumes, IsAtEnd}
use Rattle.si_causes.specs.Causes.{Rose}
use Rattle.si_causes.specs.Lines.{shown, raw_lines, whole_lines}
use Rattle.si_causes.specs.Reading.{Reading}
use Rattle.si_causes.specs.declared.stop.ReadStop.{ReadStop}
use Rattle.si_causes.specs.declared.stop.ReadStop.TheVariants.{Failed, TooLong}
use Rattle.input_lines.specs.Lines.{is_passed}

-- the lines that are whole in these bytes, as a reader shows them
abbrev pub shown_whole : List ℕ → List (List ℕ)
shown_whole bytes = map shown (whole_lines bytes)

-- all lines of these bytes, as a reader shows them, where the last may have no LF
abbrev pub shown_all : List ℕ → List (List ℕ)
shown_all bytes = map shown (raw_lines bytes)

-- From old to new the reader handed out these lines; `more` is what the source gave.
pub record HandedOut {S : Type 0} (left : S → Option (List ℕ)) (old new : Reading S) (lines : List (List ℕ)) : Type 0 where
  pub more : List ℕ
  pub gave : Consumes (left old.source) (left new.source) more
  -- behind its end a source gives nothing
  pub since : new.ended ≡ false → old.ended ≡ false
  pub quiet : old.ended ≡ true → more ≡ []
  -- they are the first lines, whatever bytes are behind: each has its LF ..
  pub whole : new.ended ≡ false → (behind : List ℕ) → shown_whole ((old.held ++ more) ++ behind) ≡ lines ++ shown_whole (new.held ++ behind)
  -- .. but for the last of a source that told its end, behind which there are no bytes
  pub all : (behind : List ℕ) → (new.ended ≡ true → behind ≡ []) → shown_all ((old.held ++ more) ++ behind) ≡ lines ++ shown_all (new.held ++ behind)

-- the source told its end, and the reader holds no byte
pub record HasEnded {S : Type 0} (left : S → Option (List ℕ)) (reader : Reading S) : Type 0 where
  pub ended : reader.ended ≡ true
  pub nothing : reader.held ≡ []
  pub at_end : IsAtEnd (left reader.source)

-- From old to new the source gave `more`, and these are the lines that are whole in what was held and in that.
pub record WereWhole {S : Type 0} (left : S → Option (List ℕ)) (old new : Reading S) (lines : List (List ℕ)) : Type 0 where
  pub more : List ℕ
  pub gave : Consumes (left old.source) (left new.source) more
  pub whole : shown_whole (old.held ++ more) ≡ lines

-- the last line handed out is a record with number n; those before it were passed over
pub record LineCame {S : Type 0} (left : S → Option (List ℕ)) (old new : Reading S) (n : ℕ) : Type 0 where
  pub over : List (List ℕ)
  pub passed : list_all is_passed over ≡ true
  pub line : is_passed new.line ≡ false
  pub number : n ≡ old.number + length over + 1
  pub count : new.number ≡ n
  pub going : new.stop ≡ None
  -- the source had not told its end
  pub unended : old.ended ≡ false
  pub handed : HandedOut left old new (over ++ new.line ∷ [])

-- no record is left: all lines that were left were handed out and passed over
pub record NoneCame {S : Type 0} (left : S → Option (List ℕ)) (old new : Reading S) : Type 0 where
  pub over : List (List ℕ)
  pub passed : list_all is_passed over ≡ true
  pub count : new.number ≡ old.number + length over
  pub going : new.stop ≡ None
  pub done : HasEnded left new
  pub handed : HandedOut left old new over

-- a read failed: each line that was whole in the bytes taken was passed over
pub record FaultCame {S : Type 0} (left : S → Option (List ℕ)) (faults : S → ℕ) (old new : Reading S) : Type 0 where
  pub over : List (List ℕ)
  pub passed : list_all is_passed over ≡ true
  pub whole : WereWhole left old new over
  pub cause : Rose (faults old.source) (faults new.source)
  pub count : new.number ≡ old.number + length over
  pub unended : old.ended ≡ false
  pub stopped : new.stop ≡ Some Failed

-- what a call tells where no earlier one stopped
abbrev pub RecordCame : {S : Type 0} → (S → Option (List ℕ)) → (S → ℕ) → Reading S → Reading S → Result (Option ℕ) ReadStop → Type 0
RecordCame left faults old new (Ok (Some n)) = LineCame left old new n
RecordCame left faults old new (Ok None) = NoneCame left old new
RecordCame left faults old new (Err Failed) = FaultCame left faults old new
RecordCame left faults old new (Err TooLong) = new.stop ≡ Some TooLong
