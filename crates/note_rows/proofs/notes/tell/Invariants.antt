use Rattle.std.proofs.Common.{◌≡◌}
use Rattle.std.specs.Prelude.{None}
use Rattle.script_notes.specs.Held.{IsHeldBy}
use Rattle.note_rows.proofs.notes.tell.Given as goal

abbrev pub invariant-notings : goal.invariant-notings
invariant-notings g l = record {
  going : l.lines.stop ≡ None;
  held : IsHeldBy g.S.Source.left l.held l.lines;
}
