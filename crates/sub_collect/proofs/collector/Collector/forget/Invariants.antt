use Rattle.std.proofs.Common.{◌≡◌, Bool, ◌&&◌, not, length}
use Rattle.std.specs.Prelude.{◌==◌, filter, IfSome}
use Rattle.std.specs.Map.{keys_of}
use Rattle.section_codec.specs.declared.table.Key.{Key}
use Rattle.sub_collect.specs.Collectors.{kept_in, forgotten_if}
use Rattle.sub_collect.specs.KeyWalk.{is_after}
use Rattle.sub_collect.proofs.collector.Collector.forget.Given as goal

abbrev pub invariant-loop-key : goal.invariant-loop-key
invariant-loop-key l = IfSome l.last (λ (key : Key). key.pid ≡ l.pid)
    × ((k : Key) → kept_in k l.self ≡ forgotten_if (k.pid == l.pid && not (is_after l.pid l.last k)) (kept_in k l.initial.self))

abbrev pub decreases-loop-key : goal.decreases-loop-key
decreases-loop-key l = length (filter (is_after l.pid l.last) (keys_of l.self))
