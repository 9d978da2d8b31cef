use Rattle.std.proofs.Common.{◌≡◌, length}
use Rattle.std.specs.List.{All}
use Rattle.journal_model.specs.Edits.{IsShapedItem}
use Rattle.input_lines.proofs.LineReads.{ReadsOn}
use Rattle.script_lines.specs.Edits.{items_of}
use Rattle.script_lines.proofs.EditFacts.{rest_of}
use Rattle.script_lines.proofs.edits.next_items.Given as goal

abbrev pub invariant-items : goal.invariant-items
invariant-items g l = record {
  reads : ReadsOn g.S.Source.left g.S.Source.faults g.S.Source.same (items_of l.fn.count) (rest_of l.fn.count l.counter l.items) l.fn.lines l.lines;
  counted : length l.items ≡ l.counter;
  shaped : All IsShapedItem l.items;
}
