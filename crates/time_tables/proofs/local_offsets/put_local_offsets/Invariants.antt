use Rattle.std.proofs.Common.{◌≡◌, ◌+◌, ◌*◌, ◌≤◌, ◌∷◌, ◌++◌, length, take, vec_len, vec_capacity}
use Rattle.time_tables.specs.LocalOffsets.{offsets_body}
use Rattle.time_tables.proofs.local_offsets.put_local_offsets.Given as goal

abbrev pub invariant-loop-offset : goal.invariant-loop-offset
invariant-loop-offset l = record {
  items : l.out.items ≡ l.fn.out.items ++ (0x58 ∷ (13 * length l.offsets) ∷ offsets_body (take l.offset-index l.offsets));
  len : vec_len l.out ≡ vec_len l.fn.out + (2 + 13 * l.offset-index);
  capacity : vec_capacity l.fn.out ≤ vec_capacity l.out;
}
