-- A desk without its journal answers as the journal that it stands for determines.
use Rattle.std.proofs.Common.{◌≡◌, ℕ, ◌+◌, ◌≤◌, List, sym, subst, arith, inl, inr}
use Rattle.std.specs.Prelude.{◌<◌, nat_lt}
use Rattle.std.proofs.lemmas.Bool.{cases_Bool}
use Rattle.si_time.specs.declared.moment.Moment.{Moment}
use Rattle.mux_model.specs.declared.mux.Mux.{Mux}
use Rattle.journal_model.specs.declared.step.Step.{Step}
use Rattle.journal_model.specs.declared.step.Step.TheVariants.{Edit as edit, Tick, Publish, Swap}
use Rattle.journal_model.specs.declared.step.Outcome.{Outcome}
use Rattle.journal_model.specs.declared.step.Entry.{Entry}
use Rattle.journal_model.specs.Steps.{IsInWindow}
use Rattle.desk_core.specs.Journal.{moment_of, outcome_of, publishes, ticked}
use Rattle.desk_core.specs.declared.desk_state.Derived.{Derived}
use Rattle.desk_core.specs.Holding.{IsDerived}
use Rattle.desk_core.specs.Lean.{IsNumbered}
use Rattle.desk_core.proofs.MomentFacts.{moment_range, written_steps}
use Rattle.desk_core.proofs.WindowFacts.{step_window}

ticked_numbered : (most : ℕ) (now at : Moment) → IsNumbered most (ticked now at)
ticked_numbered most now at = elim (cases_Bool (nat_lt at.0 now.0)) [
  | inl late ↦ rw late tt
  | inr later ↦ rw later tt
]

pub step_numbered : (mux : Mux) (before : List Entry) (step : Step) (most : ℕ) → 1 + publishes before ≤ most → IsNumbered most (outcome_of mux before step)
step_numbered mux before (edit feed e) most le = tt
step_numbered mux before (Tick at) most le = ticked_numbered most (moment_of mux before) at
step_numbered mux before Publish most le = le
step_numbered mux before Swap most le = omega (arith, le)

pub held_numbered : (mux : Mux) (entries : List Entry) (held : Derived) (step : Step) (most : ℕ) (outcome : Outcome) → IsDerived mux entries held → held.published < most
    → outcome ≡ outcome_of mux entries step → IsNumbered most outcome
held_numbered mux entries held step most outcome h few is =
    subst (IsNumbered most) (sym is) (step_numbered mux entries step most (omega (arith, few, h.published)))

pub held_window : (mux : Mux) (entries : List Entry) (held : Derived) (step : Step) (outcome : Outcome) → IsDerived mux entries held
    → outcome ≡ outcome_of mux entries step → IsInWindow outcome
held_window mux entries held step outcome h is =
    subst IsInWindow (sym is) (step_window mux entries step (moment_range mux entries h.sound (written_steps entries h.steps)))
