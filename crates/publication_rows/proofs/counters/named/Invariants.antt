use Rattle.std.proofs.Common.{◌<◌}
use Rattle.std.specs.List.{All}
use Rattle.ts_packets.specs.PidCounters.{IsPidCounter}
use Rattle.publication_rows.proofs.counters.named.Given as goal

abbrev pub invariant-loop-pid : goal.invariant-loop-pid
invariant-loop-pid l = record {
  fit : All IsPidCounter l.named;
  next : l.next < 16;
}
