use Rattle.std.proofs.Common.{◌≡◌, ◌++◌, take, flat_map}
use Rattle.journal_text.specs.Lines.{item_text}
use Rattle.journal_text.proofs.edit.put_items.Given as goal

abbrev pub invariant-loop-item : goal.invariant-loop-item
invariant-loop-item l = l.out.items ≡ l.fn.out.items ++ flat_map item_text (take l.item-index l.items)
