use Rattle.std.proofs.Common.{length, ◌-◌, ◌≡◌, ◌≤◌, ◌<◌, ◌++◌, List, ℕ, take}
use Rattle.air_monitor.specs.Heard.{HasTaken}
use Rattle.air_monitor.proofs.listen.listen.Given as goal

-- the bytes up to `at` came
abbrev pub invariant-loop-at : goal.invariant-loop-at
invariant-loop-at l = record {
  within : l.at ≤ length l.bytes;
  shorter : length l.part < 188;
  taken : (past : List ℕ) → HasTaken past l.fn.part l.fn.listener → HasTaken (past ++ take l.at l.bytes) l.part l.listener;
  join : l.listener.join ≡ l.fn.listener.join;
}

abbrev pub decreases-loop-at : goal.decreases-loop-at
decreases-loop-at l = length l.bytes - l.at
