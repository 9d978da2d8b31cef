use Rattle.std.proofs.Common.{ap, sym, length, arith}
use Rattle.std.proofs.lemmas.Bool.{eqb-true}
use Rattle.descriptors.proofs.Pieces.{extended_size, length-coded_text, length-extended_events, no_pieces, extended_size-small}
use Rattle.descriptors.proofs.event_descriptors.extended_len.Goals as goal

pub overflow_add-size-in-loop-rest-2 : goal.overflow_add-size-in-loop-rest-2
overflow_add-size-in-loop-rest-2 c =
    omega (arith, c.loop-rest.invariant.size, ap extended_size c.cut.ensures.pieces, ap length c.coded_piece.ensures, length-coded_text c.cut.result.0.now, extended_size-small c.args.text.now c.as_str-rest.ensures.utf8 c.requires)

pub loop-rest-preserved : goal.loop-rest-preserved
loop-rest-preserved c = record {
  utf8 = c.cut.ensures.utf8;
  plain = c.cut.ensures.back;
  size = omega (arith, c.loop-rest.invariant.size, ap extended_size c.cut.ensures.pieces, ap length c.coded_piece.ensures, length-coded_text c.cut.result.0.now);
}

pub returns-clause-size : goal.returns-clause-size
returns-clause-size c =
    omega (arith, length-extended_events c.args.language.now c.args.text.now c.told-language, c.loop-rest.invariant.size, ap extended_size (no_pieces c.loop-rest.rest.now (eqb-true _ _ (sym c.loop-rest-test.ensures))))

pub returns-clause-at_most : goal.returns-clause-at_most
returns-clause-at_most c = omega (arith, c.loop-rest.invariant.size, extended_size-small c.args.text.now c.as_str-rest.ensures.utf8 c.requires)
