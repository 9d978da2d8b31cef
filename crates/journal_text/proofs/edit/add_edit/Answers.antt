use Rattle.std.proofs.Common.{◌≡◌, OnOk, sym, subst}
use Rattle.journal_model.specs.declared.edit.Edit.{Edit}
use Rattle.script_lines.specs.EditFields.{edit_fields}
use Rattle.journal_text.specs.Lines.{and_fields}
use Rattle.journal_text.proofs.edit.add_edit.Goals as goal

pub returns-in-Put : goal.returns-in-Put
returns-in-Put c =
    subst (λ (e : Edit). OnOk c.add_put.result (c.add_put.new.row ≡ and_fields c.args.row.now (edit_fields e))) (sym c.in-Put.is) c.add_put.ensures
