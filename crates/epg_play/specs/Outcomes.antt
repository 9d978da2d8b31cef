-- When two outcomes are one: compared as values, not as texts.
use Rattle.std.specs.Prelude.{◌≡◌, ◌↔◌, Bool, true}
use Rattle.journal_model.specs.declared.step.Outcome.{Outcome}
use Rattle.journal_model.specs.contracts.step.OutcomePartialEq.TheImpl as outcome_eq

-- the comparison that is derived of their parts
abbrev pub is_outcome : Outcome → Outcome → Bool
is_outcome = (outcome_eq.ghosts).eq

-- It is true exactly where they are equal.
abbrev pub OutcomesAreCompared : Type 0
OutcomesAreCompared = (a b : Outcome) → (is_outcome a b ≡ true) ↔ (a ≡ b)
