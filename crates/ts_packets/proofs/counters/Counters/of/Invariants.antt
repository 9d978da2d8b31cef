use Rattle.std.proofs.Common.{◌≡◌, ◌<◌, ℕ, None, take, slice_index_or}
use Rattle.ts_packets.specs.Counting.{AreNext}
use Rattle.ts_packets.specs.PidCounters.{counter_in}
use Rattle.ts_packets.proofs.counters.Counters.of.Given as goal

-- what was written are the counters up to here
abbrev pub invariant-loop-counter : goal.invariant-loop-counter
invariant-loop-counter l = record {
  next : AreNext l.next;
  written : (pid : ℕ) → pid < 8192 → slice_index_or l.next pid None ≡ counter_in pid (take l.counter-index l.kept);
}
