use Rattle.std.proofs.Common.{ap, sym, length, arith}
use Rattle.std.proofs.lemmas.Bool.{eqb-true}
use Rattle.descriptors.proofs.Pieces.{no_pieces, few_pieces}
use Rattle.descriptors.proofs.event_descriptors.piece_count.Goals as goal

pub overflow_add-count : goal.overflow_add-count
overflow_add-count c =
    omega (arith, c.loop-rest.invariant.count, ap length c.cut.ensures.pieces, few_pieces c.args.text.now c.as_str-rest.ensures.utf8 c.requires)

pub loop-rest-preserved : goal.loop-rest-preserved
loop-rest-preserved c = record {
  utf8 = c.cut.ensures.utf8;
  plain = c.cut.ensures.back;
  count = omega (arith, c.loop-rest.invariant.count, ap length c.cut.ensures.pieces);
}

pub returns-clause-count : goal.returns-clause-count
returns-clause-count c =
    omega (arith, c.loop-rest.invariant.count, ap length (no_pieces c.loop-rest.rest.now (eqb-true _ _ (sym c.loop-rest-test.ensures))))

pub returns-clause-at_most : goal.returns-clause-at_most
returns-clause-at_most c = omega (arith, c.loop-rest.invariant.count, few_pieces c.args.text.now c.as_str-rest.ensures.utf8 c.requires)
