use Rattle.std.proofs.Common.{◌≡◌, ◌++◌, OnOk, subst}
use Rattle.journal_model.specs.declared.edit.Item.{Item}
use Rattle.journal_model.specs.declared.edit.Edit.TheVariants.{Put}
use Rattle.journal_model.specs.declared.step.Step.TheVariants.{Edit as edit}
use Rattle.desk_checkpoint.specs.Text.{step_text}
use Rattle.desk_checkpoint.proofs.text.put_event.Goals as goal

pub returns : goal.returns
returns c =
    subst (λ (item : Item). OnOk c.put_step.result (c.put_step.new.out.items ≡ c.args.out.now.items ++ step_text (0, edit c.args.feed (Put c.args.service item))))
    c.in_ok-item.ensures c.put_step.ensures
