-- The accepted edits of a journal are as they are read, where its steps are.
use Rattle.std.proofs.Common.{List, [], ◌∷◌, Some, None}
use Rattle.std.specs.Prelude.{IfSome}
use Rattle.std.specs.List.{AllByRecursion}
use Rattle.si_lists.proofs.Outcomes.{if_some}
use Rattle.journal_model.specs.declared.step.Step.{Step}
use Rattle.journal_model.specs.declared.step.Step.TheVariants.{Edit as edit}
use Rattle.journal_model.specs.declared.step.Outcome.{Outcome}
use Rattle.journal_model.specs.declared.step.Outcome.TheVariants.{Edited}
use Rattle.journal_model.specs.declared.step.Entry.{Entry}
use Rattle.journal_model.specs.Edits.{IsTypedEdit}
use Rattle.journal_model.specs.Steps.{IsTypedStep}
use Rattle.guide_limits.proofs.NamesKept.{with_front}
use Rattle.feed_book.specs.Accepted.{is_done}
use Rattle.desk_core.specs.Journal.{accepted, accepted_by}

edit_typed : (s : Step) (outcome : Outcome) → IsTypedStep s → IfSome (accepted_by s outcome) IsTypedEdit
edit_typed (edit feed e) (Edited reply) typed = if_some IsTypedEdit (is_done reply) (Some e) None typed.1 tt
edit_typed s outcome typed = tt

pub accepted_typed : (entries : List Entry) → AllByRecursion (λ (entry : Entry). IsTypedStep entry.step) entries → AllByRecursion IsTypedEdit (accepted entries)
accepted_typed [] typed = tt
accepted_typed (x ∷ xs) typed =
    with_front IsTypedEdit (accepted_by x.step x.outcome) (accepted xs) (edit_typed x.step x.outcome typed.0) (accepted_typed xs typed.1)
