use Rattle.std.proofs.Common.{◌≡◌, ◌-◌, List, ℕ, true}
use Rattle.si_causes.specs.Lines.{has_end}
use Rattle.si_causes.specs.Gathering.{Split, hand}
use Rattle.si_causes.proofs.gather.gather.Given as goal

abbrev pub invariant-loop-limit : goal.invariant-loop-limit
invariant-loop-limit g l =
    ((before : List ℕ) × (more : List ℕ) × Split g.S.Source.left g.S.Source.faults (hand l.fn.source l.fn.held l.fn.line l.fn.taken l.fn.limit) (hand l.source l.held l.line l.taken l.fn.limit) before more)
    × (has_end l.fn.held ≡ true → (l.source ≡ l.fn.source) × (l.held ≡ l.fn.held))
    × g.S.Source.same l.fn.source l.source

abbrev pub decreases-loop-limit : goal.decreases-loop-limit
decreases-loop-limit g l = l.fn.limit - l.taken
