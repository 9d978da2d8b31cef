use Rattle.std.proofs.Common.{◌≡◌, ◌≤◌, take, vec_len, vec_capacity}
use Rattle.air_model.specs.Air.{at_places}
use Rattle.air_audit.proofs.linking.put_in_order.Given as goal

abbrev pub invariant-loop-at : goal.invariant-loop-at
invariant-loop-at l = record {
  put : l.placed.items ≡ at_places l.each (take l.at-index l.order);
  few : vec_len l.placed ≤ l.at-index;
  room : vec_capacity l.fn.placed ≤ vec_capacity l.placed;
}
