use Rattle.std.proofs.Common.{◌≡◌, ◌++◌}
use Rattle.guide_receiver.proofs.latest_keys.LatestKeys.others.Given as goal

-- those so far and those that follow are all
abbrev pub invariant-loop-key : goal.invariant-loop-key
invariant-loop-key l = l.others.items ++ l.key-iterator ≡ l.fn.self.others.keys
