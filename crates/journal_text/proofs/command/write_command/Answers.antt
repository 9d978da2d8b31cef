use Rattle.std.proofs.Common.{◌≡◌, ℕ, List, ◌∷◌, ◌++◌, decimal, ap, ◌∙◌, flat_map}
use Rattle.journal_model.specs.declared.edit.Item.{Item}
use Rattle.journal_text.specs.Lines.{Line, and_field, and_fields, no_fields, item_text, line_text}
use Rattle.journal_text.specs.Commands.{step_fields, step_items}
use Rattle.journal_text.proofs.LineFacts.{ended_line, behind}
use Rattle.journal_text.proofs.command.write_command.Goals as goal

pub returns : goal.returns
returns c =
    let fields = step_fields c.args.step.now in
    let who = decimal c.args.who in
    let line : c.add_step.new.row ≡ and_fields no_fields (who ∷ fields) =
    c.in_ok-add_step.ensures ∙ ap (λ (l : Line). and_fields l fields) (c.in_ok-number.ensures ∙ ap (λ (l : Line). and_field l who) c.open-row.ensures) in
    behind c.put_items.result c.args.out.now.items (line_text (who ∷ fields)) (flat_map item_text (step_items c.args.step.now)) (flat_map item_text c.step_items.result.now)
    c.end.new.out.items c.put_items.new.out.items
    (c.in_ok-end.ensures ∙ ap (λ (t : List ℕ). c.args.out.now.items ++ t) (ended_line c.add_step.new.row who fields line))
    (ap (λ (l : List Item). flat_map item_text l) c.step_items.ensures) c.put_items.ensures
