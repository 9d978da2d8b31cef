use Rattle.std.proofs.Common.{◌≡◌, ◌≤◌, ◌-◌, length}
use Rattle.packet_reader.specs.Reading.{Gathers}
use Rattle.packet_reader.proofs.reader.gather.Given as goal

abbrev pub invariant-loop-held : goal.invariant-loop-held
invariant-loop-held g l =
    Gathers (g.S.Source.left l.fn.source) (g.S.Source.left l.source) l.fn.held l.held
    × (g.S.Source.faults l.source ≡ g.S.Source.faults l.fn.source)
    × g.S.Source.same l.fn.source l.source
    × (188 ≤ length l.fn.held → (l.source ≡ l.fn.source) × (l.held ≡ l.fn.held))

abbrev pub decreases-loop-held : goal.decreases-loop-held
decreases-loop-held g l = 188 - length l.held
