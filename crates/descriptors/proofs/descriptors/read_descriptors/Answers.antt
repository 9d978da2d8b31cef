use Rattle.std.proofs.Common.{arith, sym, length-drop}
use Rattle.std.proofs.lemmas.Bool.{eqb-false}
use Rattle.std.proofs.lemmas.List.{length-take}
use Rattle.descriptors.proofs.Loops.{past_end, left_over}
use Rattle.descriptors.proofs.descriptors.read_descriptors.Goals as goal

pub returns-then-behind-len-clause-none : goal.returns-then-behind-len-clause-none
returns-then-behind-len-clause-none c descs p =
    past_end c.args.bytes.now c.loop-rest.rest.now c.loop-rest.descs.items descs c.loop-rest.invariant.so_far c.in-len2-up.len_at_least
    (omega (arith, c.in-len2-up.len_at_least, simp (length-take, length-drop) at c.if-behind-len.true)) p

pub returns-then-not-is_empty-clause-none : goal.returns-then-not-is_empty-clause-none
returns-then-not-is_empty-clause-none c descs p =
    left_over c.args.bytes.now c.loop-rest.rest.now c.loop-rest.descs.items descs c.loop-rest.invariant.so_far
    (omega (arith, c.in_default.len_below, eqb-false _ _ (sym c.if-not-is_empty.ensures))) p
