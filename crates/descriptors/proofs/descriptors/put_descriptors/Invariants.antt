use Rattle.std.proofs.Common.{◌≡◌, ◌+◌, ◌≤◌, ◌++◌, take, drop, vec_len, vec_capacity}
use Rattle.guide_model.specs.Descriptors.{descriptors_size}
use Rattle.descriptors.specs.Descriptors.{descriptors_bytes}
use Rattle.descriptors.proofs.descriptors.put_descriptors.Given as goal

-- the descriptors so far stand behind what was there, and the rest has room
abbrev pub invariant-loop-desc : goal.invariant-loop-desc
invariant-loop-desc l = record {
  items : l.out.items ≡ l.fn.out.items ++ descriptors_bytes (take l.desc-index l.descs);
  len : vec_len l.out + descriptors_size (drop l.desc-index l.descs) ≡ vec_len l.fn.out + descriptors_size l.descs;
  capacity : vec_capacity l.fn.out ≤ vec_capacity l.out;
}
