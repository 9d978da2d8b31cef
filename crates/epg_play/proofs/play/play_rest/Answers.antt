use Rattle.std.proofs.Common.{sym, subst, arith, refl}
use Rattle.std.specs.Prelude.{Err}
use Rattle.epg_play.specs.declared.stop.PlayStop.{PlayStop}
use Rattle.epg_play.specs.Courses.{PlaysRest}
use Rattle.epg_play.specs.Played.{HasAirCause, HasReadCause, IsStopBehind}
use Rattle.epg_play.proofs.RestFacts.{course_with, gone_none, gone_other, gone_swap, rest_cut, rest_ended, rest_stopped, sent_behind, sent_caused, sent_no_read, stays_on}
use Rattle.epg_play.proofs.play.play_rest.Goals as goal

pub items-init : goal.items-init
items-init g c = record {
  going = c.requires.going;
  same = g.met.S.Source.same_at_once c.args.lines.now.source;
  read_later = omega arith;
  air_later = omega arith;
  at_end = c.requires.ready.at_end;
  stays = record { ready = c.requires.ready.ready; shift = refl; keeps = refl };
  gone = λ before at. gone_none g.S.Source.left c.args.lines.now before c.args.course.now (g.A.Sink.written c.args.air.now) at c.requires.ready.first;
}

pub items-preserved-in_default : goal.items-preserved-in_default
items-preserved-in_default g c =
    let i = c.items.invariant in
    let e = rw c.in-Ok-Swap.field-0-is at c.in-Ok-Swap.ensures in
    let s = c.in_default.ensures in
    record {
      going = e.going;
      same = g.met.S.Source.same_later c.args.lines.now.source c.items.lines.source c.do_item.new.lines.source i.same e.read.same;
      read_later = omega (arith, i.read_later, e.read.later);
      air_later = omega (arith, i.air_later, s.later);
      at_end = s.ended;
      stays = stays_on c.args.course.now.desk c.items.course.desk c.do_item.new.desk i.stays e.stays;
      gone = λ before at.
          let g0 = i.gone before at in
          gone_swap g.S.Source.left c.args.lines.now before c.args.course.now.player (g.A.Sink.written c.args.air.now) c.items.lines c.do_item.new.lines c.items.course.desk c.do_item.new.desk c.items.course.player (g.A.Sink.written c.items.air)
          g0 (e.left c.args.lines.now before g0.now g0.at g0.went) c.send_on_air.new.player (g.A.Sink.written c.send_on_air.new.air) (record { sent = s.sent; counted = s.counted; alike = s.alike });
    }

pub items-preserved : goal.items-preserved
items-preserved g c =
    let i = c.items.invariant in
    let e = rw c.in-Ok-Other.field-0-is at c.in-Ok-Other.ensures in
    record {
      going = e.going;
      same = g.met.S.Source.same_later c.args.lines.now.source c.items.lines.source c.do_item.new.lines.source i.same e.read.same;
      read_later = omega (arith, i.read_later, e.read.later);
      air_later = i.air_later;
      at_end = i.at_end;
      stays = stays_on c.args.course.now.desk c.items.course.desk c.do_item.new.desk i.stays e.stays;
      gone = λ before at.
          let g0 = i.gone before at in
          gone_other g.S.Source.left c.args.lines.now before c.args.course.now.player (g.A.Sink.written c.args.air.now) c.items.lines c.do_item.new.lines c.items.course.desk c.do_item.new.desk c.items.course.player (g.A.Sink.written c.items.air)
          g0 (e.left c.args.lines.now before g0.now g0.at g0.went);
    }

pub returns-in-Err-send_on_air-clause-plays : goal.returns-in-Err-send_on_air-clause-plays
returns-in-Err-send_on_air-clause-plays g c = λ before at.
    let e = rw c.in-Ok-Swap.field-0-is at c.in-Ok-Swap.ensures in
    let s = c.in-Err-send_on_air.ensures in
    let g0 = c.items.invariant.gone before at in
    let w = g.A.Sink.written c.args.air.now in
    subst (λ (stop : PlayStop). PlaysRest g.S.Source.left c.args.lines.now c.do_item.new.lines before c.args.course.now.player w (g.A.Sink.written c.send_on_air.new.air)
    (course_with c.do_item.new.desk c.send_on_air.new.player) (Err stop)) (sym c.stop_of.ensures)
    (rest_cut g.S.Source.left c.args.lines.now before c.args.course.now.player w c.items.lines c.do_item.new.lines c.items.course.desk c.do_item.new.desk c.items.course.player (g.A.Sink.written c.items.air)
    g0 (e.left c.args.lines.now before g0.now g0.at g0.went) c.send_on_air.new.player (g.A.Sink.written c.send_on_air.new.air) c.in-Err-send_on_air.stop (record { sent = s.sent; counted = s.counted; alike = s.alike }))

pub returns-in-Ok-End-clause-plays : goal.returns-in-Ok-End-clause-plays
returns-in-Ok-End-clause-plays g c = λ before at.
    let e = rw c.in-Ok-End.field-0-is at c.in-Ok-End.ensures in
    let g0 = c.items.invariant.gone before at in
    rest_ended g.S.Source.left c.args.lines.now before c.args.course.now.player (g.A.Sink.written c.args.air.now) c.items.lines c.do_item.new.lines c.items.course.desk c.do_item.new.desk c.items.course.player (g.A.Sink.written c.items.air)
    g0 (e.left c.args.lines.now before g0.now g0.at g0.went)

pub returns-in-Err-clause-plays : goal.returns-in-Err-clause-plays
returns-in-Err-clause-plays g c = λ before at.
    let g0 = c.items.invariant.gone before at in
    rest_stopped g.S.Source.left c.args.lines.now before c.args.course.now.player (g.A.Sink.written c.args.air.now) c.items.lines c.do_item.new.lines c.items.course.desk c.do_item.new.desk c.items.course.player (g.A.Sink.written c.items.air)
    g0 c.in-Err.stop c.in-Err.ensures.behind (c.in-Err.ensures.left c.args.lines.now before g0.now g0.at g0.went)

pub returns-in-Err-send_on_air-clause-behind : goal.returns-in-Err-send_on_air-clause-behind
returns-in-Err-send_on_air-clause-behind g c = subst IsStopBehind (sym c.stop_of.ensures) (sent_behind c.in-Err-send_on_air.stop)

pub returns-in-Err-send_on_air-clause-cause : goal.returns-in-Err-send_on_air-clause-cause
returns-in-Err-send_on_air-clause-cause g c =
    subst (λ (stop : PlayStop). HasAirCause {T = Unit {0}} (g.A.Sink.faults c.args.air.now) (g.A.Sink.faults c.send_on_air.new.air) (Err stop)) (sym c.stop_of.ensures)
    (sent_caused (g.A.Sink.faults c.args.air.now) (g.A.Sink.faults c.items.air) (g.A.Sink.faults c.send_on_air.new.air) c.in-Err-send_on_air.stop c.items.invariant.air_later c.in-Err-send_on_air.ensures.cause)

pub returns-in-Err-send_on_air-clause-read : goal.returns-in-Err-send_on_air-clause-read
returns-in-Err-send_on_air-clause-read g c =
    let i = c.items.invariant in
    let e = rw c.in-Ok-Swap.field-0-is at c.in-Ok-Swap.ensures in
    record {
      end = λ no. cc no;
      cause = subst (λ (stop : PlayStop). HasReadCause {T = Unit {0}} (g.S.Source.faults c.args.lines.now.source) (g.S.Source.faults c.do_item.new.lines.source) (Err stop))
          (sym c.stop_of.ensures) (sent_no_read _ _ c.in-Err-send_on_air.stop);
      later = omega (arith, i.read_later, e.read.later);
      same = g.met.S.Source.same_later c.args.lines.now.source c.items.lines.source c.do_item.new.lines.source i.same e.read.same;
    }
