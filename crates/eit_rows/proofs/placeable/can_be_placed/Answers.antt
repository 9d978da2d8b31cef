use Rattle.std.proofs.Common.{refl}
use Rattle.eit_rows.proofs.Fitting.{few_fit, small_fit}
use Rattle.eit_rows.proofs.placeable.can_be_placed.Goals as goal

pub returns-then-events-le8 : goal.returns-then-events-le8
returns-then-events-le8 c _ = record {
  order = c.if-not-are_in_order.ensures refl;
  small = c.if-not-are_at_most.ensures refl;
  fit = few_fit c.args.events.now c.if-events-le8.true;
}

pub returns : goal.returns
returns c few = record {
  order = c.if-not-are_in_order.ensures refl;
  small = c.if-not-are_at_most.ensures refl;
  fit = small_fit c.args.events.now (c.if-not-are_at_most-2.ensures refl) (c.are_few_bytes.ensures few);
}
