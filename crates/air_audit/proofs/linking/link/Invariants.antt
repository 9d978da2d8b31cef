use Rattle.std.proofs.Common.{◌≤◌, ℕ, length}
use Rattle.air_audit.specs.Progress.{next_on, AreFresh}
use Rattle.air_audit.proofs.Nexts.{LinkedFrom}
use Rattle.air_audit.proofs.linking.link.Given as goal

-- the sections from this place on are linked, and the lanes wait from it on
abbrev pub invariant-loop-at : goal.invariant-loop-at
invariant-loop-at l = record {
  within : l.at ≤ length l.placed;
  linked : LinkedFrom l.at l.placed l.links;
  fresh : AreFresh (λ (pid : ℕ). next_on pid l.placed l.at) l.lanes;
}

abbrev pub decreases-loop-at : goal.decreases-loop-at
decreases-loop-at l = l.at
