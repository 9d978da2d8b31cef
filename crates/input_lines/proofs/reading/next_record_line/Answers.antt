use Rattle.std.proofs.Common.{◌≡◌, refl, arith, true, false}
use Rattle.std.specs.Prelude.{None}
use Rattle.input_lines.proofs.Steps.{NextLine, not_ended, not_ended_stop, stuck_at, stays_stuck, sticky_on, over_none, over_more, over_line, over_first, over_end, over_none_left, over_stop, over_stop_records, found_passed}
use Rattle.input_lines.proofs.reading.next_record_line.Goals as goal

pub lines-init : goal.lines-init
lines-init g c = record {
  stuck = stuck_at c.args.lines.now.stop c.args.lines.now;
  same = g.met.S.Source.same_at_once c.args.lines.now.source;
  later = omega arith;
  over = λ going. over_none g.S.Source.left c.args.lines.now going;
  falls = omega arith;
}

pub lines-preserved : goal.lines-preserved
lines-preserved g c =
    let i = c.lines.invariant in
    let e = rw c.in-Ok-Some.field-0-is at c.in-Ok-Some.ensures in
    record {
      stuck = stays_stuck c.args.lines.now.stop c.args.lines.now c.lines.lines c.next.new.self c.in-Ok-Some.number refl i.stuck e.sticky;
      same = g.met.S.Source.same_later c.args.lines.now.source c.lines.lines.source c.next.new.self.source i.same e.same;
      later = omega (arith, i.later, e.later);
      over = λ going.
          let o = i.over going in
          let next : NextLine g.S.Source.left c.lines.lines c.next.new.self c.in-Ok-Some.number = record { came = e.came o.going; gives = e.lines o.going; more_to_come = not_ended c.lines.lines.ended c.in-Ok-Some.number _ (e.over o.going) } in
          over_more g.S.Source.left c.args.lines.now c.lines.lines c.next.new.self c.in-Ok-Some.number o next
          (found_passed c.passes_over.result true c.line.result.now c.next.new.self.line c.if-not-passes_over.false c.passes_over.ensures c.line.ensures);
      falls = omega (arith, i.falls, e.falls.1);
    }

pub returns-then-not-passes_over : goal.returns-then-not-passes_over
returns-then-not-passes_over g c =
    let i = c.lines.invariant in
    let e = rw c.in-Ok-Some.field-0-is at c.in-Ok-Some.ensures in
    let next : c.args.lines.now.stop ≡ None → NextLine g.S.Source.left c.lines.lines c.next.new.self c.in-Ok-Some.number =
    λ going. record { came = e.came (i.over going).going; gives = e.lines (i.over going).going; more_to_come = not_ended c.lines.lines.ended c.in-Ok-Some.number _ (e.over (i.over going).going) } in
    let stays = found_passed c.passes_over.result false c.line.result.now c.next.new.self.line c.if-not-passes_over.true c.passes_over.ensures c.line.ensures in
    record {
      records = λ going. over_first g.S.Source.left c.args.lines.now c.lines.lines c.next.new.self c.in-Ok-Some.number (i.over going) (next going) stays;
      came = λ going. over_line g.S.Source.left c.args.lines.now c.lines.lines c.next.new.self c.in-Ok-Some.number (i.over going) (next going) stays;
      falls = (e.falls.0, omega (arith, i.falls, e.falls.1));
      at_end = λ is. cc is;
      sticky = sticky_on c.args.lines.now.stop _ c.args.lines.now c.lines.lines c.next.new.self refl i.stuck e.sticky;
      later = omega (arith, i.later, e.later);
      same = g.met.S.Source.same_later c.args.lines.now.source c.lines.lines.source c.next.new.self.source i.same e.same;
    }

pub returns-in-Ok-None : goal.returns-in-Ok-None
returns-in-Ok-None g c =
    let i = c.lines.invariant in
    let e = rw c.in-Ok-None.field-0-is at c.in-Ok-None.ensures in
    record {
      records = λ going. over_end g.S.Source.left c.args.lines.now c.lines.lines c.next.new.self (i.over going) (e.came (i.over going).going) (e.lines (i.over going).going);
      came = λ going. over_none_left g.S.Source.left c.args.lines.now c.lines.lines c.next.new.self (i.over going) (e.came (i.over going).going);
      falls = tt;
      at_end = λ is. e.end refl;
      sticky = sticky_on c.args.lines.now.stop _ c.args.lines.now c.lines.lines c.next.new.self refl i.stuck e.sticky;
      later = omega (arith, i.later, e.later);
      same = g.met.S.Source.same_later c.args.lines.now.source c.lines.lines.source c.next.new.self.source i.same e.same;
    }

pub returns-in-Err : goal.returns-in-Err
returns-in-Err g c =
    let i = c.lines.invariant in
    let e = c.in-Err.ensures in
    record {
      records = λ going. over_stop_records g.S.Source.left c.args.lines.now c.lines.lines c.next.new.self c.in-Err.stop (i.over going) (e.lines (i.over going).going);
      came = λ going.
          over_stop g.S.Source.left g.S.Source.faults c.args.lines.now c.lines.lines c.next.new.self c.in-Err.stop (i.over going) (not_ended_stop c.lines.lines.ended c.in-Err.stop _ (e.over (i.over going).going)) (e.came (i.over going).going) i.later;
      falls = tt;
      at_end = λ is. cc is;
      sticky = sticky_on c.args.lines.now.stop _ c.args.lines.now c.lines.lines c.next.new.self refl i.stuck e.sticky;
      later = omega (arith, i.later, e.later);
      same = g.met.S.Source.same_later c.args.lines.now.source c.lines.lines.source c.next.new.self.source i.same e.same;
    }
