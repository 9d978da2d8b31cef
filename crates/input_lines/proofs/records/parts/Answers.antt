use Rattle.std.proofs.Common.{◌∙◌, sym, subst, length, lit<}
use Rattle.std.proofs.lemmas.Iterator.Splits.{YieldsList-from_str_split}
use Rattle.std.proofs.lemmas.Iterator.Consumers.{YieldsList-turn, YieldsList-end}
use Rattle.guide_model.specs.Decoding.{IsKept}
use Rattle.input_lines.specs.Fields.{comma_parts, IsPlain}
use Rattle.input_lines.proofs.CleanLines.{kept_in}
use Rattle.input_lines.proofs.PlainParts.{plain_in}
use Rattle.input_lines.proofs.records.parts.Goals as goal

pub text_of-requires-clause-kept : goal.text_of-requires-clause-kept
text_of-requires-clause-kept c =
    let turn = YieldsList-turn (YieldsList-from_str_split 44 c.args.line.now (lit< tt) (cc) (cc) (cc)) c.loop-part.yielded _ c.loop-part.yielded_by _ _ c.in-Some.part c.in-Some.is c.next.ensures.steps in
    let kept = subst IsKept (sym turn.1) (kept_in (comma_parts c.args.line.now) (length c.loop-part.yielded) c.in-Some.part.now c.requires.kept turn.0) in
    kept.clean

pub text_of-requires-clause-plain : goal.text_of-requires-clause-plain
text_of-requires-clause-plain c known =
    let turn = YieldsList-turn (YieldsList-from_str_split 44 c.args.line.now (lit< tt) (cc) (cc) (cc)) c.loop-part.yielded _ c.loop-part.yielded_by _ _ c.in-Some.part c.in-Some.is c.next.ensures.steps in
    subst IsPlain (sym turn.1) (plain_in (comma_parts c.args.line.now) (length c.loop-part.yielded) c.in-Some.part.now (c.requires.plain known) turn.0)

pub returns : goal.returns
returns c =
    let all = YieldsList-end (YieldsList-from_str_split 44 c.args.line.now (lit< tt) (cc) (cc) (cc)) c.loop-part.yielded _ c.loop-part.yielded_by _ _ c.in-None.is c.next.ensures.steps in
    c.of.ensures ∙ c.loop-part.invariant ∙ all.0
