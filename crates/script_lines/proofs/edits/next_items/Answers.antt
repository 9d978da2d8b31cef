use Rattle.std.proofs.Common.{◌≡◌, ◌-◌, ◌∷◌, [], length, arith, ap, length-append}
use Rattle.std.proofs.lemmas.List.Elements.{All-push, All-nil}
use Rattle.journal_model.specs.Edits.{IsShapedItem}
use Rattle.script_lines.proofs.EditFacts.{items_none, items_more, items_all, items_not, items_kept}
use Rattle.script_lines.proofs.edits.next_items.Goals as goal

pub items-init : goal.items-init
items-init g c = record {
  reads = items_none g.S.Source.left g.S.Source.faults g.S.Source.same g.met.S.Source.same_at_once g.met.S.Source.same_later c.args.count c.no_items-items.result c.args.lines.now c.no_items-items.ensures;
  counted = ap length c.no_items-items.ensures;
  shaped = rw c.no_items-items.ensures (All-nil IsShapedItem);
}

pub items-preserved : goal.items-preserved
items-preserved g c =
    let i = c.items.invariant in
    let e = c.in-Ok.ensures in
    let kept = c.in_default.ensures.kept in
    record {
      reads = items_more g.S.Source.left g.S.Source.faults g.S.Source.same g.met.S.Source.same_at_once g.met.S.Source.same_later c.args.count c.items.counter c.items.items c.keep.new.items c.in-Ok.item
          c.args.lines.now c.items.lines c.next_item.new.lines c.items-test.true kept i.reads e.reads;
      counted = omega (arith, i.counted, ap length kept, length-append c.items.items (c.in-Ok.item ∷ []));
      shaped = rw kept (All-push IsShapedItem c.items.items c.in-Ok.item i.shaped e.shaped);
    }

pub returns-in-Err-clause-reads : goal.returns-in-Err-clause-reads
returns-in-Err-clause-reads g c =
    items_not g.S.Source.left g.S.Source.faults g.S.Source.same g.met.S.Source.same_at_once g.met.S.Source.same_later c.args.count c.items.counter c.items.items c.in-Err.stop
    c.args.lines.now c.items.lines c.next_item.new.lines c.items-test.true c.items.invariant.reads c.in-Err.ensures.reads

pub returns-in-Err-keep-clause-reads : goal.returns-in-Err-keep-clause-reads
returns-in-Err-keep-clause-reads g c =
    items_kept g.S.Source.left g.S.Source.faults g.S.Source.same g.met.S.Source.same_at_once g.met.S.Source.same_later c.args.count c.items.counter c.items.items c.in-Ok.item c.in-Err-keep.stop
    c.args.lines.now c.items.lines c.next_item.new.lines c.items-test.true c.in-Err-keep.ensures.memory c.items.invariant.reads c.in-Ok.ensures.reads

pub returns-clause-reads : goal.returns-clause-reads
returns-clause-reads g c =
    let none : c.args.count - c.items.counter ≡ 0 = omega arith in
    items_all g.S.Source.left g.S.Source.faults g.S.Source.same g.met.S.Source.same_at_once g.met.S.Source.same_later c.args.count c.items.counter c.items.items c.args.lines.now c.items.lines none c.items.invariant.reads
