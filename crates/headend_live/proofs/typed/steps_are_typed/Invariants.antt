use Rattle.std.proofs.Common.{take}
use Rattle.std.specs.List.{AllByRecursion}
use Rattle.journal_model.specs.declared.step.Entry.{Entry}
use Rattle.journal_model.specs.Steps.{IsTypedStep}
use Rattle.headend_live.proofs.typed.steps_are_typed.Given as goal

abbrev pub invariant-loop-entry : goal.invariant-loop-entry
invariant-loop-entry l = record {
  all : AllByRecursion (λ (entry : Entry). IsTypedStep entry.step) (take l.entry-index l.entries);
}
