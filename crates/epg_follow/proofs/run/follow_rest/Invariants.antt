use Rattle.std.proofs.Common.{◌≡◌, ◌≤◌, List}
use Rattle.journal_model.specs.declared.step.Entry.{Entry}
use Rattle.desk_core.specs.Lean.{StandsFor}
use Rattle.script_notes.specs.Held.{left_over}
use Rattle.epg_follow.specs.Going.{Went}
use Rattle.epg_follow.specs.Items.{CanFollow, CanRead}
use Rattle.epg_follow.proofs.GoingFacts.{took}
use Rattle.epg_follow.proofs.run.follow_rest.Given as goal

abbrev pub invariant-items : goal.invariant-items
invariant-items g l =
    record {
      reader : CanRead g.S.Source.left l.lines l.follower;
      ready : CanFollow l.follower;
      mux : l.follower.desk.mux ≡ l.fn.follower.desk.mux;
      shift : l.follower.shift ≡ l.fn.follower.shift;
      same : g.S.Source.same l.fn.lines.source l.lines.source;
      read_later : g.S.Source.faults l.fn.lines.source ≤ g.S.Source.faults l.lines.source;
      air_later : g.A.Sink.faults l.fn.air ≤ g.A.Sink.faults l.air;
      report_later : g.R.Sink.faults l.fn.report ≤ g.R.Sink.faults l.report;
      went : (journal : List Entry) → StandsFor journal l.fn.follower.desk → Went l.fn.keep g.S.Source.left l.fn.lines l.lines journal l.fn.follower l.follower
          (took (g.A.Sink.written l.fn.air) (g.A.Sink.written l.air) (g.A.Sink.faults l.fn.air) (g.A.Sink.faults l.air))
          (took (g.R.Sink.written l.fn.report) (g.R.Sink.written l.report) (g.R.Sink.faults l.fn.report) (g.R.Sink.faults l.report));
    }

abbrev pub decreases-items : goal.decreases-items
decreases-items g l = left_over l.follower.held l.lines
