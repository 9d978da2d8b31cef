-- The items of a script, one after another: what each does at a desk, and how far the script has come.
use Rattle.std.specs.Prelude.{◌≡◌, ◌⊎◌, ◌<◌, ◌^◌, ℕ, Bool, false, true, List, ◌++◌, Option, Some, None, IfSome, Ok, Err, Result}
use Rattle.std.specs.declared.alloc.AllocError.{AllocError}
use Rattle.si_causes.specs.Reading.{Reading, room, text_left}
use Rattle.input_lines.specs.Ahead.{Ahead, Tail, ahead}
use Rattle.input_lines.specs.Going.{HandedOut}
use Rattle.input_lines.specs.Reads.{ahead_with}
use Rattle.journal_model.specs.declared.step.Step.{Step}
use Rattle.journal_model.specs.declared.step.Outcome.{Outcome}
use Rattle.journal_model.specs.declared.step.Entry.{Entry}
use Rattle.journal_model.specs.Raising.{all_raised, raised}
use Rattle.journal_model.specs.Steps.{AreInWindow, Command, IsInWindow}
use Rattle.desk_core.specs.declared.lean.LeanDesk.{LeanDesk}
use Rattle.desk_core.specs.Desks.{DeskState}
use Rattle.desk_core.specs.Journal.{outcome_of}
use Rattle.desk_core.specs.Lean.{IsLean, StandsFor}
use Rattle.journal_air.specs.OnAir.{and_step, is_swap}
use Rattle.epg_play.specs.declared.desk.ScriptDesk.{ScriptDesk}
use Rattle.epg_play.specs.declared.item.ItemDone.{ItemDone}
use Rattle.epg_play.specs.declared.item.ItemDone.TheVariants as item
use Rattle.epg_play.specs.declared.stop.PlayStop.{PlayStop}
use Rattle.epg_play.specs.Script.{Stop}
use Rattle.epg_play.specs.Played.{RestDid, RestTaken, course, desk_after}

-- ---- the desk of a script

-- a desk without its journal stands for one with it
pub record Stands (state : DeskState) (desk : LeanDesk) : Type 0 where
  pub mux : desk.mux ≡ state.mux
  pub journal : StandsFor state.entries desk

-- The desk of a script stands for this one, whose journal goes on with these entries from the one before, and has them with the numbers of
-- their publications raised, where it keeps them.
pub record IsAt (before now : DeskState) (desk : ScriptDesk) : Type 0 where
  pub more : List Entry
  pub entries : now.entries ≡ before.entries ++ more
  pub stands : Stands now desk.desk
  pub made : desk.keeps ≡ true → desk.made.items ≡ all_raised desk.shift more

-- a script may go on at it
pub record IsReady (desk : ScriptDesk) : Type 0 where
  pub shift : desk.shift < 10 ^ 18
  pub lean : IsLean desk.desk
  pub last : IfSome desk.last IsInWindow
  pub made : AreInWindow desk.made.items

-- it goes on with the same shift, and keeps what is made or not, as before
pub record Stays (old new : ScriptDesk) : Type 0 where
  pub ready : IsReady new
  pub shift : new.shift ≡ old.shift
  pub keeps : new.keeps ≡ old.keeps

-- a step was done at the desk that it has, and gave the outcome raised by the shift, or memory was wanting
abbrev pub Prepared : ℕ → DeskState → Step → LeanDesk → Result Outcome AllocError → Type 0
Prepared shift state step desk (Ok outcome) = (outcome ≡ raised shift (outcome_of state.mux state.entries step)) × ((who : ℕ) → Stands (and_step state who step) desk)
Prepared shift state step desk (Err e) = Stands state desk

-- and so at the desk of a script
abbrev pub StepLeft : DeskState → DeskState → ℕ → Step → ScriptDesk → Result (Unit {0}) AllocError → Type 0
StepLeft before state who step desk (Ok u) =
    IsAt before (and_step state who step) desk × (desk.last ≡ Some (raised desk.shift (outcome_of state.mux state.entries step)))
StepLeft before state who step desk (Err e) = IsAt before state desk

-- ---- an item

-- a step was done at a desk, a swap or another
pub record StepAt (swap : Bool) (old new : DeskState) : Type 0 where
  pub who : ℕ
  pub step : Step
  pub is : is_swap step ≡ swap
  pub did : new ≡ and_step old who step

-- what an item does at a desk; the end of the script and a stop leave the desk as it was
abbrev pub ItemDid : DeskState → DeskState → Result ItemDone PlayStop → Type 0
ItemDid old new (Ok item.Swap) = StepAt true old new
ItemDid old new (Ok item.Other) = StepAt false old new ⊎ (new ≡ old)
ItemDid old new other = new ≡ old

-- with each item but the last less of the script is left
abbrev pub Falls : {S : Type 0} → Reading S → Reading S → Result ItemDone PlayStop → Type 0
Falls old new (Ok item.End) = Unit {0}
Falls old new (Ok done) = room new < room old
Falls old new (Err stop) = Unit {0}

-- what is played of what is ahead of a desk; `made` is the raised outcome of its last entry, where it was made just before
abbrev pub course_at : ℕ → DeskState → Option Outcome → Ahead → List Command × Stop
course_at shift desk made lines = course shift desk.mux desk.entries made lines

-- Of what was ahead these commands were done, and this is what is played after them.
abbrev pub AreDone : ℕ → DeskState → DeskState → Option Outcome → Ahead → Ahead → List Command → Type 0
AreDone shift old desk made lines behind done =
    course_at shift old None lines ≡ (done ++ (course_at shift desk made behind).0, (course_at shift desk made behind).1)

-- From old to now the lines gave the steps that the desk did; kept outcomes have the numbers of publications raised by the shift.
pub record Went {S : Type 0} (shift : ℕ) (left : S → Option (List ℕ)) (old now : Reading S) (before desk : DeskState) (made : Option Outcome) : Type 0 where
  pub done : List Command
  pub did : desk ≡ desk_after before done
  pub told : (text : List ℕ) → text_left left old ≡ Some text → (rest : List ℕ) × (text_left left now ≡ Some rest) × AreDone shift before desk made (ahead old text) (ahead now rest) done
  pub lines : List (List ℕ)
  pub handed : HandedOut left old now lines
  pub reads : (more : List (List ℕ)) (tail : Tail) → AreDone shift before desk made (ahead_with old (lines ++ more) tail) (ahead_with now more tail) done

-- a script stops, for what was ahead of it when it began
abbrev pub Stops : {S : Type 0} → ℕ → (S → Option (List ℕ)) → Reading S → Reading S → DeskState → DeskState → Result (Unit {0}) PlayStop → Type 0
Stops shift left old now before desk result =
    ((text : List ℕ) → text_left left old ≡ Some text → RestDid (course_at shift before None (ahead old text)) before desk result)
    × RestTaken shift left old now before desk result

-- a script that has come so far goes on by an item, or stops
abbrev pub GoesOn : {S : Type 0} → ℕ → (S → Option (List ℕ)) → Reading S → Reading S → DeskState → DeskState → Option Outcome → Result ItemDone PlayStop → Type 0
GoesOn shift left old now before desk made (Ok item.End) = Stops shift left old now before desk (Ok tt)
GoesOn shift left old now before desk made (Ok done) = Went shift left old now before desk made
GoesOn shift left old now before desk made (Err stop) = Stops shift left old now before desk (Err stop)

-- What an item leaves of a script that had come so far, and where its desk stands then.
pub record ItemLeft {S : Type 0} (left : S → Option (List ℕ)) (first new : Reading S) (before state : DeskState) (desk : ScriptDesk) (result : Result ItemDone PlayStop) : Type 0 where
  pub now : DeskState
  pub at : IsAt before now desk
  pub did : ItemDid state now result
  pub goes_on : GoesOn desk.shift left first new before now desk.last result
