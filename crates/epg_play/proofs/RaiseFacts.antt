-- An entry that a desk makes can have the number of its publication raised, and be written.
use Rattle.std.proofs.Common.{◌≡◌, ℕ, ◌<◌, ◌^◌, sym, subst, arith}
use Rattle.journal_model.specs.declared.step.Step.{Step}
use Rattle.journal_model.specs.declared.step.Step.TheVariants.{Edit as edit, Tick, Publish, Swap}
use Rattle.journal_model.specs.declared.step.Outcome.{Outcome}
use Rattle.journal_model.specs.declared.step.Outcome.TheVariants.{Edited, Ticked, Late, Published, Swapped}
use Rattle.desk_core.specs.Lean.{IsNumbered}
use Rattle.journal_model.specs.Steps.{IsEntryInWindow, IsInWindow, IsStepInWindow, IsStepWithin}
use Rattle.journal_model.specs.Raising.{raised, CanBeRaised}

pub few_raised : (shift : ℕ) (outcome : Outcome) → shift < 10 ^ 18 → IsNumbered (2 ^ 63) outcome → CanBeRaised shift outcome
few_raised shift (Edited reply) low numbered = tt
few_raised shift Ticked low numbered = tt
few_raised shift (Late at) low numbered = tt
few_raised shift (Published n) low numbered = omega (arith, low, numbered)
few_raised shift (Swapped n at) low numbered = omega (arith, low, numbered)

-- its moment stays as it is
pub raised_window : (shift : ℕ) (outcome : Outcome) → IsInWindow outcome → IsInWindow (raised shift outcome)
raised_window shift (Edited reply) within = tt
raised_window shift Ticked within = tt
raised_window shift (Late at) within = within
raised_window shift (Published n) within = tt
raised_window shift (Swapped n at) within = within

step_window : (s : Step) → IsStepWithin s → IsStepInWindow s
step_window (edit feed e) within = tt
step_window (Tick at) within = within
step_window Publish within = tt
step_window Swap within = tt

pub entry_window : (who shift : ℕ) (s : Step) (outcome raised_to : Outcome) → IsStepWithin s → IsInWindow outcome → raised_to ≡ raised shift outcome
    → IsEntryInWindow (record { who = who; step = s; outcome = raised_to })
entry_window who shift s outcome raised_to within window is = record {
  step = step_window s within;
  outcome = subst IsInWindow (sym is) (raised_window shift outcome window);
}
