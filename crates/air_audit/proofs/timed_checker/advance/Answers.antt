use Rattle.std.proofs.Common.{refl, sym, ◌∙◌}
use Rattle.std.specs.Prelude.{None}
use Rattle.air_audit.proofs.Stands.{came_next, came_placed, keeps_came, keeps_ended, keeps_more, keeps_none, one_less}
use Rattle.air_audit.proofs.timed_checker.advance.Goals as goal

pub nulls-init : goal.nulls-init
nulls-init c = record {
  within = c.requires;
  keeps = λ xs x rest w. keeps_none c.args.nulls xs x rest c.args.player.now w;
  rate = refl;
  offsets = refl;
}

pub nulls-preserved : goal.nulls-preserved
nulls-preserved c =
    let i = c.nulls.invariant in
    let old = c.nulls.player in
    let new = c.next_packet.new.self in
    let e = c.next_packet.ensures in
    let passed = sym c.is_passed.ensures ∙ c.if-not-is_passed.false in
    let (xs, x, rest, w) = i.within in
    let came = came_next xs x rest old new c.next_packet.result c.in-Some.packet c.in-Some.is e.came
    e.none w in
    record {
      within = (xs, x, came.left, came.within);
      keeps = λ xs x rest w. keeps_more c.args.nulls xs x rest old new c.next_packet.result
          c.in-Some.packet (i.keeps xs x rest w) c.in-Some.is e.came e.none passed;
      rate = e.rate ∙ i.rate;
      offsets = e.offsets ∙ i.offsets;
    }

pub nulls-smaller : goal.nulls-smaller
nulls-smaller c =
    let e = c.next_packet.ensures in
    let (xs, x, rest, w) = c.nulls.invariant.within in
    one_less xs x rest c.nulls.player c.next_packet.new.self c.in-Some.packet w
    (came_next xs x rest c.nulls.player c.next_packet.new.self c.next_packet.result c.in-Some.packet
    c.in-Some.is e.came e.none w)

pub returns-then-not-is_passed-clause-came : goal.returns-then-not-is_passed-clause-came
returns-then-not-is_passed-clause-came c = λ xs x rest w.
    let e = c.next_packet.ensures in
    keeps_came c.args.nulls xs x rest c.nulls.player c.next_packet.new.self c.next_packet.result
    c.in-Some.packet (c.nulls.invariant.keeps xs x rest w) c.in-Some.is e.came e.none
    (sym c.is_passed.ensures ∙ c.if-not-is_passed.true)

pub returns-then-not-is_passed-clause-placed : goal.returns-then-not-is_passed-clause-placed
returns-then-not-is_passed-clause-placed c =
    let e = c.next_packet.ensures in
    let (xs, x, rest, w) = c.nulls.invariant.within in
    let came = came_next xs x rest c.nulls.player c.next_packet.new.self c.next_packet.result
    c.in-Some.packet c.in-Some.is e.came e.none w in
    (xs, x, came.left, came.within)

pub returns-in-None-clause-came : goal.returns-in-None-clause-came
returns-in-None-clause-came c = λ xs x rest w.
    let e = c.next_packet.ensures in
    keeps_ended c.args.nulls xs x rest c.nulls.player c.next_packet.new.self c.next_packet.result
    (c.nulls.invariant.keeps xs x rest w) c.in-None.is e.came e.kept

pub returns-in-None-clause-placed : goal.returns-in-None-clause-placed
returns-in-None-clause-placed c =
    let e = c.next_packet.ensures in
    let (xs, x, rest, w) = c.requires in
    came_placed c.args.nulls xs x rest c.next_packet.new.self None
    (keeps_ended c.args.nulls xs x rest c.nulls.player c.next_packet.new.self c.next_packet.result
    (c.nulls.invariant.keeps xs x rest w) c.in-None.is e.came e.kept)
