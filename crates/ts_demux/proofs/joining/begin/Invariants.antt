use Rattle.std.proofs.Common.{◌≡◌, ◌++◌, [], length, map}
use Rattle.ts_demux.specs.Hearing.{begun}
use Rattle.ts_demux.specs.Sections.{on_pid}
use Rattle.ts_demux.specs.Steps.{left_open}
use Rattle.ts_demux.proofs.joining.begin.Given as goal

-- what was added and what begins in the bytes that are left is all that begins
abbrev pub invariant-sections : goal.invariant-sections
invariant-sections l = record {
  given : l.sections.items ++ map (on_pid l.pid) (begun (length l.bytes) l.bytes []) ≡ l.fn.sections.items ++ map (on_pid l.pid) (begun (length l.here) l.here []);
  left : left_open (length l.bytes) l.bytes ≡ left_open (length l.here) l.here;
}

abbrev pub decreases-sections : goal.decreases-sections
decreases-sections l = length l.bytes
