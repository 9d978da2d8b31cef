use Rattle.std.proofs.Common.{◌∙◌, ap, sym}
use Rattle.guide_model.specs.Control.{all_printing}
use Rattle.guide_model.proofs.PlainFacts.{printing_clean}
use Rattle.guide_model.proofs.txt.has_control.Goals as goal

pub returns-then-is_all_printing : goal.returns-then-is_all_printing
returns-then-is_all_printing c =
    sym (printing_clean c.args.text.now (sym (c.is_all_printing.ensures ∙ ap all_printing c.as_bytes.ensures.value) ∙ c.if-is_all_printing.true))
