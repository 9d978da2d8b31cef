-- What a job that reads commands from lines, and does each in a turn, leaves.
use Rattle.std.specs.Prelude.{◌≡◌, ◌≤◌, ℕ, false, List, map, take, Option, Some, None}
use Rattle.std.specs.Io.KnownBytes.{IsAtEnd}
use Rattle.si_causes.specs.Causes.{Rose}
use Rattle.si_causes.specs.Reading.{Reading, text_left}
use Rattle.si_causes.specs.declared.stop.ReadStop.TheVariants.{Failed, TooLong as Overlong}
use Rattle.input_lines.specs.Going.{WereWhole}
use Rattle.journal_model.specs.declared.edit.Edit.{Edit}
use Rattle.input_lines.specs.declared.stop.EditStop.{EditStop}
use Rattle.input_lines.specs.declared.stop.EditStop.TheVariants.{NoCommand as Refused, Read, Memory}
use Rattle.input_lines.specs.Ahead.{Ahead, Breaks, Stop, End, NoCommand, TooLong, Unread, ahead, values_ahead}
use Rattle.input_lines.specs.Reads.{ahead_with}
use Rattle.journal_model.specs.declared.control.Control.{Control}
use Rattle.journal_model.specs.declared.control.Control.TheVariants.{Tick as tick, Publish as publish}
use Rattle.journal_model.specs.declared.step.Step.{Step}
use Rattle.journal_model.specs.declared.step.Step.TheVariants.{Edit as edit, Tick, Publish}
use Rattle.journal_model.specs.Steps.{Command}
use Rattle.script_lines.specs.Controls.{first_control}
use Rattle.desk_hall.specs.Turn.{View, Did}

-- ---- what is asked for

abbrev pub edit_step : ℕ → Edit → Step
edit_step feed e = edit feed e

abbrev pub control_step : Control → Step
control_step (tick at) = Tick at
control_step publish = Publish

-- each of these is a command of this caller
abbrev pub commands_by : {T : Type 0} → ℕ → (T → Step) → List T → List Command
commands_by who step values = map (λ v. (who, step v)) values

-- the control lines ahead, and why no more is read
unfoldable pub controls_ahead : Ahead → List Control × Stop
controls_ahead lines = values_ahead (λ (any : Unit {0}). first_control) (λ (control : Control). tt) tt lines

-- ---- what a job did of it

module _ {T : Type 0} (did : List T → Type 0) where
  -- Of all that was ahead in a told text, and of why no more is read: all was done, and that is why it stopped; or a read failed, or
  -- memory was wanting, and a front was done.
  abbrev pub ToldDid : List T × Stop → Option EditStop → Type 0
  ToldDid all None = (all.1 ≡ End) × did all.0
  ToldDid all (Some (Refused n)) = (all.1 ≡ NoCommand n) × did all.0
  ToldDid all (Some (Read Overlong)) = (all.1 ≡ TooLong) × did all.0
  ToldDid all (Some (Read Failed)) = (k : ℕ) × did (take k all.0)
  ToldDid all (Some Memory) = (k : ℕ) × did (take k all.0)

  -- A read failed: all was done that stands on lines that were whole in the bytes taken.
  pub record WholeDid {S : Type 0} (left : S → Option (List ℕ)) (all : Ahead → List T × Stop) (old new : Reading S) : Type 0 where
    pub lines : List (List ℕ)
    pub whole : WereWhole left old new lines
    pub unended : old.ended ≡ false
    pub stop : (all (ahead_with old lines Breaks)).1 ≡ Unread
    pub commands : did (all (ahead_with old lines Breaks)).0

  abbrev pub TakenDid : {S : Type 0} → (S → Option (List ℕ)) → (Ahead → List T × Stop) → Reading S → Reading S → Option EditStop → Type 0
  TakenDid left all old new (Some (Read Failed)) = WholeDid left all old new
  TakenDid left all old new stop = Unit {0}

-- the pass made the commands of these more
abbrev pub DidEach : {T : Type 0} → (T → Step) → View → View → List T → Type 0
DidEach step v w values = Did (commands_by v.own.low step values) v w

-- a stop by a failed read has its cause
abbrev pub HasReadCause : ℕ → ℕ → Option EditStop → Type 0
HasReadCause before now (Some (Read Failed)) = Rose before now
HasReadCause before now stop = Unit {0}

-- ---- a job that reads

-- What a source shows: the text that it has left, how many of its reads have failed, and whether it
-- is the one that was lent.
pub record Stream (S : Type 0) : Type 1 where
  pub left : S → Option (List ℕ)
  pub faults : S → ℕ
  pub same : S → S → Type 0

abbrev pub stream : {S : Type 0} → (S → Option (List ℕ)) → (S → ℕ) → (S → S → Type 0) → Stream S
stream left faults same = record { left = left; faults = faults; same = same }

-- A job read from old to new, where `all` is what is ahead, and did the step of each value in a turn
-- of its own, from v to w.
pub record ReaderDid {T S : Type 0} (step : T → Step) (all : Ahead → List T × Stop) (s : Stream S)
    (v w : View) (old new : Reading S) (stop : Option EditStop) : Type 0 where
  pub did : (values : List T) × DidEach step v w values
  pub told : old.stop ≡ None → (text : List ℕ) → text_left s.left old ≡ Some text
      → ToldDid (DidEach step v w) (all (ahead old text)) stop
  pub taken : old.stop ≡ None → TakenDid (DidEach step v w) s.left all old new stop
  pub end : stop ≡ None → IsAtEnd (s.left new.source)
  pub cause : old.stop ≡ None → HasReadCause (s.faults old.source) (s.faults new.source) stop
  pub later : s.faults old.source ≤ s.faults new.source
  pub same : s.same old.source new.source
