use Rattle.std.proofs.Common.{◌≡◌, ◌-◌, ◌^◌, true}
use Rattle.std.specs.Io.KnownBytes.{IsAtEnd}
use Rattle.packet_finder.specs.Steps.{HoldsRow}
use Rattle.packet_finder.proofs.Passing.{HasPassed}
use Rattle.packet_finder.proofs.finder.pass_over.Given as goal

abbrev pub invariant-loop-held : goal.invariant-loop-held
invariant-loop-held g l =
    record {
      end : l.ended ≡ true → IsAtEnd (g.S.Source.left l.source);
      quiet : g.S.Source.faults l.source ≡ g.S.Source.faults l.fn.source;
      same : g.S.Source.same l.fn.source l.source;
      lazy : HoldsRow l.fn.ended l.fn.held → (l.ended ≡ l.fn.ended) × (l.source ≡ l.fn.source) × (l.held ≡ l.fn.held);
      so_far : HasPassed (g.S.Source.left l.fn.source) (g.S.Source.left l.source) l.fn.ended l.ended l.fn.held l.held l.passed;
    }

abbrev pub decreases-loop-held : goal.decreases-loop-held
decreases-loop-held g l = 2 ^ 64 - l.passed
