use Rattle.std.proofs.Common.{◌≡◌, ◌^◌, rules}
use Rattle.std.specs.Prelude.{IfOk, Result, Ok, Err}
use Rattle.journal_model.specs.declared.step.Outcome.{Outcome}
use Rattle.journal_model.specs.Steps.{IsInWindow}
use Rattle.desk_core.specs.Journal.{outcome_of}
use Rattle.desk_core.specs.Lean.{IsNumbered}
use Rattle.desk_core.proofs.LeanFacts.{held_numbered, held_window}
use Rattle.desk_core.proofs.lean.LeanDesk.step.Goals as goal

if_ok : {E : Type 0} (P Q : Outcome → Type 0) (r : Result Outcome E) → ((o : Outcome) → P o → Q o) → IfOk r P → IfOk r Q
if_ok P Q (Ok o) to h = to o h
if_ok P Q (Err e) to h = tt

pub returns-clause-stands : goal.returns-clause-stands
returns-clause-stands c = λ journal who stands. c.perform.ensures.held c.args.self.now.mux journal who stands

pub returns-clause-window : goal.returns-clause-window
returns-clause-window c = λ (journal, stands).
    if_ok (λ o. o ≡ outcome_of c.args.self.now.mux journal c.args.step.now) IsInWindow c.perform.result
    (λ o is. held_window c.args.self.now.mux journal c.args.self.now.held c.args.step.now o stands is) (c.perform.ensures.outcome c.args.self.now.mux journal stands)

pub returns-clause-numbered : goal.returns-clause-numbered
returns-clause-numbered c = λ (journal, stands).
    if_ok (λ o. o ≡ outcome_of c.args.self.now.mux journal c.args.step.now) (IsNumbered (2 ^ 63)) c.perform.result
    (λ o is. held_numbered c.args.self.now.mux journal c.args.self.now.held c.args.step.now (2 ^ 63) o stands (search rules) is) (c.perform.ensures.outcome c.args.self.now.mux journal stands)
