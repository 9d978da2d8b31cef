use Rattle.std.proofs.Common.{◌≡◌, ◌+◌, ◌*◌, ◌≤◌, ◌∷◌, ◌++◌, length, take, vec_len, vec_capacity}
use Rattle.descriptors.specs.ServiceList.{service_list_body}
use Rattle.descriptors.proofs.service_list.put_service_list.Given as goal

abbrev pub invariant-loop-service : goal.invariant-loop-service
invariant-loop-service l = record {
  items : l.out.items ≡ l.fn.out.items ++ (0x41 ∷ (3 * length l.services) ∷ service_list_body (take l.service-index l.services));
  len : vec_len l.out ≡ vec_len l.fn.out + (2 + 3 * l.service-index);
  capacity : vec_capacity l.fn.out ≤ vec_capacity l.out;
}
