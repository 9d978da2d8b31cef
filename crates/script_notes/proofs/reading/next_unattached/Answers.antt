use Rattle.std.proofs.Common.{◌≡◌, ◌∙◌, ap, sym, true, false}
use Rattle.script_notes.specs.Notings.{is_attached}
use Rattle.script_notes.proofs.RowReads.{none_over, over_came, over_ends, over_on, over_stopped}
use Rattle.script_notes.proofs.reading.next_unattached.Goals as goal

pub lines-init : goal.lines-init
lines-init g c = record {
  reads = none_over g.S.Source.left g.S.Source.faults g.S.Source.same g.met.S.Source.same_at_once g.met.S.Source.same_later c.args.lines.now;
  going = c.requires.going;
}

pub lines-preserved : goal.lines-preserved
lines-preserved g c =
    let i = c.lines.invariant in
    let e = rw c.in-Ok-Some.field-0-is at c.in-Ok-Some.ensures in
    let attached : is_attached c.next_record_line.new.lines.line ≡ true = ap is_attached (sym c.line.ensures) ∙ sym c.is_attached.ensures ∙ c.if-not-is_attached.false in
    record {
      reads = over_on g.S.Source.left g.S.Source.faults g.S.Source.same g.met.S.Source.same_at_once g.met.S.Source.same_later c.args.lines.now c.lines.lines c.next_record_line.new.lines c.in-Ok-Some.at i.reads e attached;
      going = e.falls.0;
    }

pub returns-then-not-is_attached : goal.returns-then-not-is_attached
returns-then-not-is_attached g c =
    let i = c.lines.invariant in
    let e = rw c.in-Ok-Some.field-0-is at c.in-Ok-Some.ensures in
    let other : is_attached c.next_record_line.new.lines.line ≡ false = ap is_attached (sym c.line.ensures) ∙ sym c.is_attached.ensures ∙ c.if-not-is_attached.true in
    over_came g.S.Source.left g.S.Source.faults g.S.Source.same g.met.S.Source.same_at_once g.met.S.Source.same_later c.args.lines.now c.lines.lines c.next_record_line.new.lines c.in-Ok-Some.at i.going i.reads e other

pub returns-in-Ok-None : goal.returns-in-Ok-None
returns-in-Ok-None g c =
    let e = rw c.in-Ok-None.field-0-is at c.in-Ok-None.ensures in
    over_ends g.S.Source.left g.S.Source.faults g.S.Source.same g.met.S.Source.same_at_once g.met.S.Source.same_later c.args.lines.now c.lines.lines c.next_record_line.new.lines c.requires.going c.lines.invariant.reads e

pub returns-in-Err : goal.returns-in-Err
returns-in-Err g c =
    over_stopped g.S.Source.left g.S.Source.faults g.S.Source.same g.met.S.Source.same_at_once g.met.S.Source.same_later c.args.lines.now c.lines.lines c.next_record_line.new.lines c.in-Err.stop c.lines.invariant.reads c.in-Err.ensures
