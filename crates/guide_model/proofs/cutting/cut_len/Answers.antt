use Rattle.std.proofs.Common.{sym, ap, ◌∙◌, take, arith}
use Rattle.guide_model.specs.Coding.{all_plain}
use Rattle.guide_model.specs.Cutting.{IsLongestCut}
use Rattle.guide_model.proofs.CutFacts.{cut_size-is}
use Rattle.guide_model.proofs.LenFacts.{plain_cut-min, other_cut}
use Rattle.guide_model.proofs.cutting.cut_len.Goals as goal

plain : (c : goal.Then-is_all_plain) → IsLongestCut c.args.text.now c.min-front.result
plain c =
    plain_cut-min c.args.text.now c.min-front.result c.utf8.text c.min-front.ensures
    (ap (λ t. all_plain (take c.min-front.result t)) (sym c.as_bytes.ensures.value) ∙ sym c.is_all_plain.ensures ∙ c.if-is_all_plain.true)

other : (c : goal.After-floor_char_boundary) → IsLongestCut c.args.text.now c.floor_char_boundary.result
other c =
    other_cut c.args.text.now c.min-front.result c.floor_char_boundary.result (omega (arith, c.min-front.ensures))
    (ap (λ t. all_plain (take c.min-front.result t)) (sym c.as_bytes.ensures.value) ∙ sym c.is_all_plain.ensures ∙ c.if-is_all_plain.false)
    c.floor_char_boundary.ensures.bound c.floor_char_boundary.ensures.boundary c.floor_char_boundary.ensures.nearest

pub returns-then-is_all_plain-clause-size : goal.returns-then-is_all_plain-clause-size
returns-then-is_all_plain-clause-size c = cut_size-is c.args.text.now c.min-front.result c.utf8.text (plain c)

pub returns-then-is_all_plain-clause-whole : goal.returns-then-is_all_plain-clause-whole
returns-then-is_all_plain-clause-whole c = (plain c).whole

pub returns-else-is_all_plain-clause-size : goal.returns-else-is_all_plain-clause-size
returns-else-is_all_plain-clause-size c = cut_size-is c.args.text.now c.floor_char_boundary.result c.utf8.text (other c)

pub returns-else-is_all_plain-clause-whole : goal.returns-else-is_all_plain-clause-whole
returns-else-is_all_plain-clause-whole c = (other c).whole

pub returns-else-is_all_plain-clause-fits : goal.returns-else-is_all_plain-clause-fits
returns-else-is_all_plain-clause-fits c = (other c).fits

pub returns-else-is_all_plain-clause-longest : goal.returns-else-is_all_plain-clause-longest
returns-else-is_all_plain-clause-longest c = (other c).longest
