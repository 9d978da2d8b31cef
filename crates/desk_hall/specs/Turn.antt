-- What one turn does to the journal of a desk, and to what its pass knows.
use Rattle.std.specs.Prelude.{◌≡◌, ◌⊎◌, ◌<◌, ◌*◌, ℕ, List, [], ◌∷◌, ◌++◌, map, Some, Ok, Err, Result}
use mathlib.Core.List.{IsPrefix}
use Rattle.mux_model.specs.declared.mux.Mux.{Mux}
use Rattle.guide_limits.specs.Limits.{IsGuideWithin}
use Rattle.journal_model.specs.declared.step.Step.{Step}
use Rattle.journal_model.specs.declared.step.Step.TheVariants.{Swap}
use Rattle.journal_model.specs.declared.step.Outcome.{Outcome}
use Rattle.journal_model.specs.declared.step.Outcome.TheVariants.{Swapped}
use Rattle.journal_model.specs.declared.step.Entry.{Entry}
use Rattle.desk_core.specs.declared.airing.Airing.{Airing}
use Rattle.desk_core.specs.Journal.{Legal, outcome_of}
use Rattle.journal_model.specs.Steps.{Command, command_of}
use Rattle.desk_core.specs.Desks.{DeskState, latest_of, on_air_of}
use Rattle.turn_lock.specs.Knowledge.{Knowledge, IsExact, numbers}

-- what a pass of a hall knows
abbrev pub View : Type 0
View = Knowledge Entry Mux

abbrev pub caller_of : Entry → ℕ
caller_of entry = entry.who

abbrev pub entry_of : ℕ → Step → Outcome → Entry
entry_of who step outcome = record { who = who; step = step; outcome = outcome }

-- the desk of a multiplex with this journal
abbrev pub desk_with : Mux → List Entry → DeskState
desk_with mux entries = record { mux = mux; entries = entries }

-- ---- what a turn does to the journal

abbrev pub StepDone : {E : Type 0} → Mux → Step → ℕ → List Entry → List Entry → Result Outcome E → Type 0
StepDone mux step who before after (Ok outcome) = (outcome ≡ outcome_of mux before step) × (after ≡ before ++ entry_of who step outcome ∷ []) × Legal mux after
StepDone mux step who before after (Err e) = (after ≡ before) × Legal mux after

abbrev pub SwapDone : {E : Type 0} → Mux → ℕ → List Entry → List Entry → Result Airing E → Type 0
SwapDone mux who before after (Ok airing) =
    (airing ≡ latest_of (desk_with mux before)) × (after ≡ before ++ entry_of who Swap (Swapped airing.number airing.moment) ∷ []) × Legal mux after × IsGuideWithin airing.guide
    × (airing.moment.0 < 65536 * 86400)
SwapDone mux who before after (Err e) = (after ≡ before) × Legal mux after

-- ---- what it does to the pass

-- a pass that has seen this journal, and made these entries more
abbrev pub with_entries : View → List Entry → List Entry → View
with_entries v seen added = record v { seen = seen; own = record v.own { made = v.own.made ++ added } }

-- A turn of the pass made one entry, of its number, with this step and this outcome. It is the last of what the pass has now
-- seen, which is a legal journal of the multiplex that the hall was opened with, begins with what the pass had seen, and has of
-- each caller that the pass knows exactly what it made.
pub record Made (step : Step) (outcome : Outcome) (v w : View) : Type 0 where
  pub mux : Mux
  pub stands : v.on ≡ Some mux
  pub before : List Entry
  pub began : IsPrefix v.seen before
  pub seen : w.seen ≡ before ++ entry_of v.own.low step outcome ∷ []
  pub outcome_is : outcome ≡ outcome_of mux before step
  pub legal : Legal mux w.seen
  pub gained : w ≡ with_entries v w.seen (entry_of v.own.low step outcome ∷ [])
  pub exact : IsExact caller_of w.seen (numbers w)

-- A turn made no entry.
pub record Idle (v w : View) : Type 0 where
  pub mux : Mux
  pub stands : v.on ≡ Some mux
  pub began : IsPrefix v.seen w.seen
  pub legal : Legal mux w.seen
  pub same : w ≡ record v { seen = w.seen }
  pub exact : IsExact caller_of w.seen (numbers w)

-- the airing is what is on air behind the swap that was just made
abbrev pub IsAiring : View → Airing → Type 0
IsAiring w airing = (mux : Mux) → w.on ≡ Some mux → airing ≡ on_air_of (desk_with mux w.seen)

-- The pass has its numbers, the callers that it took in, its turns and its multiplex as before.
pub record KeepsNumbers (v w : View) : Type 0 where
  pub turns : w.turns ≡ v.turns
  pub low : w.own.low ≡ v.own.low
  pub span : w.own.span ≡ v.own.span
  pub finished : w.finished ≡ v.finished
  pub on : w.on ≡ v.on

-- ---- what several turns do to the pass

-- The pass has seen a legal journal of its hall's multiplex, with exactly what each caller made that the pass knows.
pub record Knows (w : View) : Type 0 where
  pub mux : Mux
  pub stands : w.on ≡ Some mux
  pub legal : Legal mux w.seen
  pub exact : IsExact caller_of w.seen (numbers w)

-- The pass made just these commands more, each once, in order, and nothing else of it changed but what it has seen, which begins
-- with what it had seen. Where it took a turn, it has seen a legal journal.
pub record Did (commands : List Command) (v w : View) : Type 0 where
  pub added : List Entry
  pub commands_are : map command_of added ≡ commands
  pub gained : w ≡ with_entries v w.seen added
  pub began : IsPrefix v.seen w.seen
  pub turned : (w ≡ v) ⊎ Knows w
