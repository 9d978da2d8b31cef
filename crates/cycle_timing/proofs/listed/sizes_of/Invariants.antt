use Rattle.std.proofs.Common.{◌≡◌, take, map}
use Rattle.ts_packets.specs.Packets.{packets_of}
use Rattle.cycle_timing.specs.declared.listed.Listed.{Listed}
use Rattle.cycle_timing.proofs.listed.sizes_of.Given as goal

abbrev pub invariant-loop-section : goal.invariant-loop-section
invariant-loop-section l = l.sizes.items ≡ map (λ (s : Listed). packets_of s.len) (take l.section-index l.listed)
