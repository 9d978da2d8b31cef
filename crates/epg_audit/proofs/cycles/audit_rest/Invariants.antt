use Rattle.std.proofs.Common.{◌≡◌, ◌≤◌}
use Rattle.std.specs.Prelude.{None}
use Rattle.si_causes.specs.Reading.{room}
use Rattle.epg_play.specs.Items.{Stays}
use Rattle.epg_audit.specs.Checks.{IsBetweenCycles}
use Rattle.epg_audit.proofs.Going.{Audits}
use Rattle.epg_audit.proofs.cycles.audit_rest.Given as goal

abbrev pub invariant-items : goal.invariant-items
invariant-items g l =
    record {
      going : l.lines.stop ≡ None;
      same : g.S.Source.same l.fn.lines.source l.lines.source;
      read_later : g.S.Source.faults l.fn.lines.source ≤ g.S.Source.faults l.lines.source;
      later : g.F.Source.faults l.fn.packets.source ≤ g.F.Source.faults l.packets.source;
      between : IsBetweenCycles l.packets l.checker;
      stays : Stays l.fn.desk l.desk;
      audits : Audits g.S.Source.left g.F.Source.left l.fn.lines l.lines l.fn.packets l.packets l.fn.desk l.desk l.checker l.fn.passed l.passed;
    }

abbrev pub decreases-items : goal.decreases-items
decreases-items g l = room l.lines
