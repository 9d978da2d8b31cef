-- The moments of a legal journal of a sound multiplex can be written.
use Rattle.std.proofs.Common.{List, [], ◌∷◌, ◌++◌, sym, subst, inl, inr}
use Rattle.std.specs.Prelude.{nat_lt}
use Rattle.std.specs.List.{AllByRecursion}
use Rattle.std.proofs.lemmas.Bool.{cases_Bool}
use Rattle.si_lists.proofs.Lists.{all_push}
use Rattle.desk_core.proofs.MomentFacts.{InRange, moment_range, written_steps}
use Rattle.si_time.specs.declared.moment.Moment.{Moment}
use Rattle.mux_model.specs.declared.mux.Mux.{Mux}
use Rattle.mux_model.specs.Sound.{IsSound}
use Rattle.journal_model.specs.declared.step.Step.{Step}
use Rattle.journal_model.specs.declared.step.Step.TheVariants.{Edit as edit, Tick, Publish, Swap}
use Rattle.journal_model.specs.declared.step.Outcome.{Outcome}
use Rattle.journal_model.specs.declared.step.Entry.{Entry}
use Rattle.journal_model.specs.Steps.{IsStepWithin, IsInWindow, IsStepInWindow, AreInWindow}
use Rattle.desk_core.specs.Journal.{LegalAfter, Legal, ticked, moment_of, outcome_of}

ticked_range : (now at : Moment) → InRange now → IsInWindow (ticked now at)
ticked_range now at h = elim (cases_Bool (nat_lt at.0 now.0)) [
  | inl late ↦ rw late h
  | inr later ↦ rw later tt
]

pub step_window : (mux : Mux) (before : List Entry) (step : Step) → InRange (moment_of mux before) → IsInWindow (outcome_of mux before step)
step_window mux before (edit feed e) range = tt
step_window mux before (Tick at) range = ticked_range (moment_of mux before) at range
step_window mux before Publish range = tt
step_window mux before Swap range = range

after_window : (mux : Mux) (before entries : List Entry) → IsSound mux → AllByRecursion (λ (entry : Entry). IsStepInWindow entry.step) before
    → AllByRecursion (λ (entry : Entry). IsStepInWindow entry.step) entries → LegalAfter mux before entries → AreInWindow entries
after_window mux before [] sound old within legal = tt
after_window mux before (e ∷ es) sound old within legal = (
  record {
    step = within.0;
    outcome = subst (λ (o : Outcome). IsInWindow o) (sym legal.0) (step_window mux before e.step (moment_range mux before sound old));
  },
  after_window mux (before ++ e ∷ []) es sound (all_push (λ (entry : Entry). IsStepInWindow entry.step) before e old within.0) within.1 legal.1,
)

pub legal_window : (mux : Mux) (journal : List Entry) → IsSound mux → AllByRecursion (λ (entry : Entry). IsStepWithin entry.step) journal → Legal mux journal → AreInWindow journal
legal_window mux journal sound within legal = after_window mux [] journal sound tt (written_steps journal within) legal
