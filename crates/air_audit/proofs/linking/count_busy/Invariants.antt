use Rattle.std.proofs.Common.{◌≡◌, ◌≤◌, take}
use Rattle.std.specs.Prelude.{count_by}
use Rattle.air_audit.specs.Progress.{is_busy}
use Rattle.air_audit.proofs.linking.count_busy.Given as goal

abbrev pub invariant-loop-lane : goal.invariant-loop-lane
invariant-loop-lane l = (l.count ≡ count_by (is_busy l.places) (take l.lane-index l.lanes)) × (l.count ≤ l.lane-index)
