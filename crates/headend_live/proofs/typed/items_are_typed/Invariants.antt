use Rattle.std.proofs.Common.{take}
use Rattle.std.specs.List.{AllByRecursion}
use Rattle.journal_model.specs.Edits.{IsTypedItem}
use Rattle.headend_live.proofs.typed.items_are_typed.Given as goal

abbrev pub invariant-loop-item : goal.invariant-loop-item
invariant-loop-item l = record {
  all : AllByRecursion IsTypedItem (take l.item-index l.items);
}
