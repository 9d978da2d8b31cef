use Rattle.std.proofs.Common.{◌≡◌, ◌≤◌, []}
use Rattle.std.specs.Prelude.{None}
use Rattle.si_causes.specs.Reading.{room}
use Rattle.desk_core.specs.Desks.{DeskState}
use Rattle.epg_play.specs.Items.{IsAt, Stays}
use Rattle.epg_play.proofs.RestFacts.{Gone}
use Rattle.epg_play.proofs.play.play_rest.Given as goal

abbrev pub invariant-items : goal.invariant-items
invariant-items g l =
    record {
      going : l.lines.stop ≡ None;
      same : g.S.Source.same l.fn.lines.source l.lines.source;
      read_later : g.S.Source.faults l.fn.lines.source ≤ g.S.Source.faults l.lines.source;
      air_later : g.A.Sink.faults l.fn.air ≤ g.A.Sink.faults l.air;
      at_end : l.course.player.left ≡ [];
      stays : Stays l.fn.course.desk l.course.desk;
      gone : (before : DeskState) → IsAt before before l.fn.course.desk
          → Gone g.S.Source.left l.fn.lines before l.fn.course.player (g.A.Sink.written l.fn.air) l.lines l.course (g.A.Sink.written l.air);
    }

abbrev pub decreases-items : goal.decreases-items
decreases-items g l = room l.lines
