use Rattle.std.proofs.Common.{arith}
use Rattle.publication.proofs.PartFacts.{part_here, part_later}
use Rattle.publication.proofs.parts.part_in.Goals as goal

pub returns-then-part-id : goal.returns-then-part-id
returns-then-part-id c =
    part_here c.args.id c.args.guide.now.guide.services c.parts.i c.at-part.result.now (omega (arith, c.parts-test.true, c.len-i-end.ensures)) c.at-part.ensures c.parts.invariant
    c.if-part-id.true

pub parts-preserved : goal.parts-preserved
parts-preserved c =
    part_later c.args.id c.args.guide.now.guide.services c.parts.i c.at-part.result.now (omega (arith, c.parts-test.true, c.len-i-end.ensures)) c.at-part.ensures c.parts.invariant
    c.if-part-id.false
