use Rattle.std.proofs.Common.{◌≡◌, ◌+◌, ◌++◌, length, take, map}
use Rattle.ts_packets.specs.Packets.{packets_of}
use Rattle.section_codec.specs.declared.table.NumberedBody.{NumberedBody}
use Rattle.air_model.proofs.planning.put_table.Given as goal

abbrev pub invariant-loop-section : goal.invariant-loop-section
invariant-loop-section l =
    l.weights.items ≡ l.fn.weights.items ++ map (λ (s : NumberedBody). (l.table.tier, packets_of (12 + length s.body))) (take l.section-index l.section-items)
