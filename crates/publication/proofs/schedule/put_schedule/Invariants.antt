use Rattle.std.proofs.Common.{◌≡◌, ◌≤◌, ◌-◌, ◌++◌, map}
use Rattle.std.specs.List.{range_with_len}
use Rattle.publication.specs.Schedule.{schedule_of}
use Rattle.publication.specs.Streams.{bearer_of}
use Rattle.publication.proofs.schedule.put_schedule.Given as goal

-- the tables so far stand after what was there
abbrev pub invariant-loop-table : goal.invariant-loop-table
invariant-loop-table l = record {
  tables : l.list ≡ l.initial.list ++ map (schedule_of (bearer_of l.of) l.day.0 l.service) (range_with_len l.from (l.table - l.from));
  begun : l.from ≤ l.table;
  ended : l.table - l.from ≤ l.to - l.from;
}
