use Rattle.std.proofs.Common.{◌≡◌, ◌≤◌, ◌-◌, ◌+◌, length, true}
use Rattle.std.specs.Io.KnownBytes.{IsAtEnd}
use Rattle.std.specs.Prelude.{if◌then◌else◌}
use Rattle.packet_reader.specs.Reading.{Gathers}
use Rattle.packet_finder.proofs.finder.gather.Given as goal

abbrev pub invariant-loop-ended : goal.invariant-loop-ended
invariant-loop-ended g l =
    record {
      gathers : Gathers (g.S.Source.left l.fn.source) (g.S.Source.left l.source) l.fn.held l.held;
      quiet : g.S.Source.faults l.source ≡ g.S.Source.faults l.fn.source;
      same : g.S.Source.same l.fn.source l.source;
      end : l.ended ≡ true → IsAtEnd (g.S.Source.left l.source);
      over : l.fn.ended ≡ true → (l.ended ≡ true) × (l.source ≡ l.fn.source) × (l.held ≡ l.fn.held);
      lazy : l.enough ≤ length l.fn.held → (l.ended ≡ l.fn.ended) × (l.source ≡ l.fn.source) × (l.held ≡ l.fn.held);
    }

abbrev pub decreases-loop-ended : goal.decreases-loop-ended
decreases-loop-ended g l = (if l.ended then 0 else 1) + (l.enough - length l.held)
