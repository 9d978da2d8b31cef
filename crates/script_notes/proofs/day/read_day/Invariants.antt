use Rattle.std.proofs.Common.{◌≡◌, length, []}
use Rattle.std.specs.Prelude.{None}
use Rattle.std.specs.List.{All}
use Rattle.journal_model.specs.Edits.{IsShapedItem}
use Rattle.input_lines.proofs.LineReads.{ReadsOn}
use Rattle.script_notes.specs.Walks.{day_walk}
use Rattle.script_notes.proofs.DayReads.{rest_of}
use Rattle.script_notes.proofs.day.read_day.Given as goal

abbrev pub invariant-items : goal.invariant-items
invariant-items g l = record {
  reads : ReadsOn g.S.Source.left g.S.Source.faults g.S.Source.same (day_walk l.fn.day l.fn.day.count []) (rest_of l.fn.day l.counter l.items) l.fn.lines l.lines;
  going : l.lines.stop ≡ None;
  counted : length l.items ≡ l.counter;
  shaped : All IsShapedItem l.items;
}
