use Rattle.std.proofs.Common.{◌==◌, ◌∙◌, [], ◌∷◌, length, map, sym, ap, lit<}
use Rattle.std.specs.List.{slice_split}
use Rattle.std.proofs.lemmas.List.{map-append}
use Rattle.std.proofs.lemmas.Iterator.Splits.{YieldsList-from_str_split}
use Rattle.std.proofs.lemmas.Iterator.Consumers.{YieldsList-turn, YieldsList-end}
use Rattle.input_lines.specs.Groups.{each_in}
use Rattle.input_lines.proofs.GroupFacts.{each_more, each_none, some}
use Rattle.input_lines.proofs.groups.descriptors_in.Goals as goal

pub returns-in_default : goal.returns-in_default
returns-in_default c =
    let turn = YieldsList-turn (YieldsList-from_str_split 32 c.args.field.now (lit< tt) (cc) (cc) (cc)) c.loop-group.yielded _ c.loop-group.yielded_by _ _ c.in-Some.group c.in-Some.is c.next.ensures.steps in
    sym (each_none (slice_split (λ b. b == 32) c.args.field.now) (length c.loop-group.yielded) c.in-Some.group.now turn.0 turn.1 (sym c.in_ok-descriptor.ensures ∙ c.in_default.is))

pub loop-group-preserved : goal.loop-group-preserved
loop-group-preserved c =
    ap each_in (map-append (λ x. x.now) c.loop-group.yielded (c.in-Some.group ∷ []))
    ∙ each_more (map (λ x. x.now) c.loop-group.yielded) c.in-Some.group.now c.loop-group.descriptors c.in-Some-2.descriptor c.loop-group.invariant (sym c.in_ok-descriptor.ensures ∙ c.in-Some-2.is)
    ∙ ap some (sym c.in_ok-push.ensures.ok)

pub returns : goal.returns
returns c =
    let all = YieldsList-end (YieldsList-from_str_split 32 c.args.field.now (lit< tt) (cc) (cc) (cc)) c.loop-group.yielded _ c.loop-group.yielded_by _ _ c.in-None.is c.next.ensures.steps in
    sym c.loop-group.invariant ∙ ap each_in all.0
