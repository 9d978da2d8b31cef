use Rattle.std.proofs.Common.{◌≡◌, ◌++◌, List, flat_map, sym, ap, ◌∙◌}
use Rattle.guide_model.specs.declared.event.Event.{Event}
use Rattle.journal_model.specs.declared.edit.Edit.TheVariants.{Name}
use Rattle.journal_model.specs.declared.step.Step.TheVariants.{Edit as edit}
use Rattle.desk_checkpoint.specs.Items.{put_edits}
use Rattle.journal_text.proofs.LineFacts.{behind}
use Rattle.desk_checkpoint.specs.Text.{feed_steps, put_text, step_text, steps_text}
use Rattle.desk_checkpoint.proofs.TextFacts.{puts_text}
use Rattle.desk_checkpoint.proofs.text.put_filling.Goals as goal

pub returns : goal.returns
returns c =
    let guide = c.args.guide.now in
    let feed = c.args.feed in
    let out = c.args.out.now.items in
    let names : c.put_step.new.out.items ≡ out ++ step_text (0, edit feed (Name guide.service guide.provider guide.name)) =
    c.in_ok-put_step.ensures ∙ (λ k. out ++ step_text (0, edit feed (Name guide.service (c.in_ok-copy.ensures k) (c.in_ok-copy-2.ensures k)))) in
    behind c.put_events.result out (step_text (0, edit feed (Name guide.service guide.provider guide.name))) (steps_text (feed_steps feed (put_edits guide.service guide.events)))
    (flat_map (put_text feed guide.service) c.as_slice.result.now) c.put_step.new.out.items c.put_events.new.out.items names
    (ap (λ (l : List Event). flat_map (put_text feed guide.service) l) c.as_slice.ensures ∙ sym (puts_text feed guide.service guide.events)) c.put_events.ensures
