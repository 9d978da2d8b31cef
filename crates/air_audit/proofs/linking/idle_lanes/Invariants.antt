use Rattle.std.proofs.Common.{◌≡◌, ℕ, map}
use Rattle.std.specs.List.{range_with_len}
use Rattle.air_audit.specs.declared.lanes.Lane.{Lane}
use Rattle.air_audit.proofs.linking.idle_lanes.Given as goal

abbrev pub invariant-loop-pid : goal.invariant-loop-pid
invariant-loop-pid l = l.lanes.items ≡ map (λ (pid : ℕ). let lane : Lane = record { pid = pid; at = 0; end = 0; next = l.places } in lane) (range_with_len 0 l.pid)
