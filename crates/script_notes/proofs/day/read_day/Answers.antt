use Rattle.std.proofs.Common.{◌≡◌, ◌-◌, ◌∷◌, [], length, arith, ap, length-append}
use Rattle.std.proofs.lemmas.List.Elements.{All-push, All-nil}
use Rattle.journal_model.specs.Edits.{IsShapedItem}
use Rattle.script_notes.proofs.DayReads.{day_bad, day_begins, day_kept, day_more, day_stopped, day_whole}
use Rattle.script_notes.proofs.day.read_day.Goals as goal

pub items-init : goal.items-init
items-init g c = record {
  reads = day_begins g.S.Source.left g.S.Source.faults g.S.Source.same g.met.S.Source.same_at_once g.met.S.Source.same_later c.args.day c.new-items.result c.args.lines.now c.new-items.ensures;
  going = c.requires.going;
  counted = ap length c.new-items.ensures;
  shaped = rw c.new-items.ensures (All-nil IsShapedItem);
}

pub items-preserved : goal.items-preserved
items-preserved g c =
    let i = c.items.invariant in
    let e = rw c.in-Ok-Item.field-0-is at c.in-Ok-Item.ensures in
    let kept = c.in_default.ensures.kept in
    record {
      reads = day_more g.S.Source.left g.S.Source.faults g.S.Source.same g.met.S.Source.same_at_once g.met.S.Source.same_later c.args.day c.items.counter c.items.items c.keep.new.items c.in-Ok-Item.item
          c.args.lines.now c.items.lines c.next_item.new.lines c.items-test.true kept i.reads e.reads;
      going = e.reads.came.falls.0;
      counted = omega (arith, i.counted, ap length kept, length-append c.items.items (c.in-Ok-Item.item ∷ []));
      shaped = rw kept (All-push IsShapedItem c.items.items c.in-Ok-Item.item i.shaped e.sound);
    }

pub returns-in-Ok-Bad-clause-reads : goal.returns-in-Ok-Bad-clause-reads
returns-in-Ok-Bad-clause-reads g c =
    let e = rw c.in-Ok-Bad.field-0-is at c.in-Ok-Bad.ensures in
    day_bad g.S.Source.left g.S.Source.faults g.S.Source.same g.met.S.Source.same_at_once g.met.S.Source.same_later c.args.day c.items.counter c.items.items c.in-Ok-Bad.noting c.in-Ok-Bad.held
    c.args.lines.now c.items.lines c.next_item.new.lines c.items-test.true c.requires.going c.items.invariant.reads e.reads

pub returns-in-Err-clause-reads : goal.returns-in-Err-clause-reads
returns-in-Err-clause-reads g c =
    day_stopped g.S.Source.left g.S.Source.faults g.S.Source.same g.met.S.Source.same_at_once g.met.S.Source.same_later c.args.day c.items.counter c.items.items c.in-Err.stop
    c.args.lines.now c.items.lines c.next_item.new.lines c.items-test.true c.items.invariant.reads c.in-Err.ensures.reads

pub returns-in-Err-keep-clause-reads : goal.returns-in-Err-keep-clause-reads
returns-in-Err-keep-clause-reads g c =
    let e = rw c.in-Ok-Item.field-0-is at c.in-Ok-Item.ensures in
    day_kept g.S.Source.left g.S.Source.faults g.S.Source.same g.met.S.Source.same_at_once g.met.S.Source.same_later c.args.day c.items.counter c.items.items c.in-Ok-Item.item c.in-Err-keep.stop
    c.args.lines.now c.items.lines c.next_item.new.lines c.items-test.true c.in-Err-keep.ensures.memory c.items.invariant.reads e.reads

pub returns-clause-reads : goal.returns-clause-reads
returns-clause-reads g c =
    let none : c.args.day.count - c.items.counter ≡ 0 = omega arith in
    day_whole g.S.Source.left g.S.Source.faults g.S.Source.same g.met.S.Source.same_at_once g.met.S.Source.same_later c.args.day c.items.counter c.items.items c.args.lines.now c.items.lines c.requires.going none c.items.invariant.reads
