use Rattle.std.proofs.Common.{◌∙◌, ◌+◌, ◌≤◌, length, arith}
use Rattle.std.proofs.lemmas.List.{length-take, length-drop}
use Rattle.table_bodies.proofs.Steps.{desc_left}
use Rattle.table_bodies.proofs.entry.are_descriptors.Goals as goal

pub loop-rest-preserved : goal.loop-rest-preserved
loop-rest-preserved c =
    let rest = c.loop-rest.rest.now in
    let fits : 2 + c.from-len.result ≤ length rest = omega (arith, c.in-len2-up.len_at_least, simp (length-take, length-drop) at c.if-behind-len.false) in
    c.loop-rest.invariant ∙ desc_left rest c.from-len.result c.in-len2-up.len_at_least c.from-len.ensures fits
