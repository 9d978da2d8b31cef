use Rattle.std.proofs.Common.{◌≡◌, ◌+◌, ◌≤◌, ◌++◌, drop}
use Rattle.eit_segments.specs.Schedule.{section_runs, sections_from}
use Rattle.eit_segments.proofs.Cutting.{runs_left, IsOf, UnderWay}
use Rattle.eit_segments.proofs.runs.put_segment.Given as goal

abbrev pub invariant-loop-i : goal.invariant-loop-i
invariant-loop-i l =
    let at = l.fn.segment in
    let all = l.initial.pieces ++ sections_from at.table at.last at.segment_last at.number l.from (section_runs l.events) in
    record {
      same : IsOf at.table at.last at.segment_last l.piece;
      to : l.piece.to ≡ l.from + l.i;
      few : l.piece.number + runs_left l.room (drop l.i l.events) ≤ 256;
      under_way : UnderWay at.table at.last at.segment_last all l.pieces l.piece.number l.piece.from l.piece.to l.room (drop l.i l.events);
    }
