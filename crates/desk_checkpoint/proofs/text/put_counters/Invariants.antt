use Rattle.std.proofs.Common.{◌≡◌, ◌++◌, take, flat_map}
use Rattle.desk_checkpoint.specs.Text.{counter_text}
use Rattle.desk_checkpoint.proofs.text.put_counters.Given as goal

abbrev pub invariant-loop-counter : goal.invariant-loop-counter
invariant-loop-counter l = l.out.items ≡ l.fn.out.items ++ flat_map counter_text (take l.counter-index l.counters)
