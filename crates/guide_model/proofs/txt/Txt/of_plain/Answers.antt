use Rattle.std.proofs.Common.{ap, sym, ◌∙◌}
use Rattle.guide_model.specs.Coding.{all_plain}
use Rattle.guide_model.specs.Control.{has_control}
use Rattle.guide_model.proofs.PlainFacts.{plain_clean}
use Rattle.guide_model.proofs.txt.Txt.of_plain.Goals as goal

pub invariant_of-result : goal.invariant_of-result
invariant_of-result c =
    let same = c.in_ok-stored.ensures.bytes in
    (ap has_control same ∙ plain_clean c.args.text.now c.requires, c.in_ok-stored.ensures.plain ∙ sym (ap all_plain same ∙ c.requires))
