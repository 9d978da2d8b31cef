use Rattle.std.proofs.Common.{◌≡◌, ℕ, List, ◌∷◌, ◌++◌, OnOk, codes, ap, ◌∙◌, subst}
use Rattle.script_lines.specs.EditFields.{item_fields}
use Rattle.journal_text.specs.Lines.{Line, and_field, and_fields, no_fields}
use Rattle.journal_text.proofs.LineFacts.{ended_line}
use Rattle.journal_text.proofs.edit.put_item.Goals as goal

pub returns : goal.returns
returns c =
    let fields = item_fields c.args.item.now in
    let line : c.add_item.new.row ≡ and_fields no_fields (codes "item" ∷ fields) =
    c.in_ok-add_item.ensures ∙ ap (λ (l : Line). and_fields l fields) (c.in_ok-field.ensures ∙ ap (λ (l : Line). and_field l (codes "item")) c.open-row.ensures) in
    subst (λ (t : List ℕ). OnOk c.end.result (c.end.new.out.items ≡ c.args.out.now.items ++ t)) (ended_line c.add_item.new.row (codes "item") fields line) c.end.ensures
