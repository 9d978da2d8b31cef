use Rattle.std.proofs.Common.{◌≡◌, ◌∙◌, ap, sym, true, false}
use Rattle.guide_model.specs.Control.{has_control}
use Rattle.script_notes.proofs.LineFacts.{unread_bytes, unread_control, unread_none}
use Rattle.script_notes.proofs.why_line.why_unread.Goals as goal

pub returns-in_default : goal.returns-in_default
returns-in_default c = sym (unread_bytes c.args.line.now c.if-line-gt-LONGEST_LINE.false (λ h. c.in_default.ensures.cases.0 h))

pub returns-then-has_control : goal.returns-then-has_control
returns-then-has_control c =
    let text = c.in-Ok.ensures.cases in
    let control : has_control c.args.line.now ≡ true = sym (ap has_control text.0) ∙ sym c.has_control.ensures ∙ c.if-has_control.true in
    sym (unread_control c.args.line.now c.if-line-gt-LONGEST_LINE.false text.1 control)

pub returns : goal.returns
returns c =
    let text = c.in-Ok.ensures.cases in
    let control : has_control c.args.line.now ≡ false = sym (ap has_control text.0) ∙ sym c.has_control.ensures ∙ c.if-has_control.false in
    sym (unread_none c.args.line.now c.if-line-gt-LONGEST_LINE.false text.1 control)
