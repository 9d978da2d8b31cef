use Rattle.std.proofs.Common.{length, ◌-◌, ◌<◌, ◌≤◌}
use Rattle.wire_rows.proofs.packets.put_section.Given as goal

abbrev pub invariant-loop-from : goal.invariant-loop-from
invariant-loop-from l = record { within : l.from ≤ length l.section; some : 0 < length l.packer.bytes }

abbrev pub decreases-loop-from : goal.decreases-loop-from
decreases-loop-from l = length l.section - l.from
