use Rattle.journal_model.specs.Steps.{IsTypedStep}
use Rattle.headend_jobs.proofs.TypedJournals.{entries_typed}
use Rattle.headend_live.proofs.typed.edits_are_typed.Goals as goal

pub returns : goal.returns
returns c = entries_typed IsTypedStep (λ feed e typed. typed.1) c.args.entries.now c.steps_are_typed.ensures
