use Rattle.std.proofs.Common.{refl, sym, ◌∙◌, subst, arith, rules}
use Rattle.std.specs.Prelude.{Err}
use Rattle.epg_report.specs.declared.status.Status.{Status}
use Rattle.epg_audit.specs.Checks.{Checks, HasReadCause}
use Rattle.epg_audit.proofs.Following.{follows_differ, follows_more, follows_short, follows_stop, stop_caused}
use Rattle.epg_audit.proofs.recording.check_cycle.Goals as goal

pub loop-packets-init : goal.loop-packets-init
loop-packets-init g c = record {
  going = c.requires.going;
  form = refl;
  later =
      omega arith;
  follows = λ rate nulls start airings f. f;
}

pub returns-in-Some-clause-checks : goal.returns-in-Some-clause-checks
returns-in-Some-clause-checks g c = λ rate nulls start airings given.
    let i = c.loop-packets.invariant in
    let f = i.follows rate nulls start airings given in
    follows_differ rate nulls g.F.Source.left start c.loop-packets.packets c.next.new.self airings
    c.loop-packets.checker c.check_packet.new.checker c.loop-packets.passed
    c.check_packet.new.passed c.packet.result.now c.in-Ok-Some.number c.in-Some.rule f
    (λ e. (let end = c.at_end.ensures.1 e in cc end))
    (λ b. (let none = (c.in-Some.ensures.exactly rate nulls airings f.packets f.counted f.is_of
    f.stands).1 b in cc none))
    (c.in-Some.ensures.rule nulls airings f.packets f.counted f.stands) c.packet.ensures
    ((rw c.in-Ok-Some.field-0-is at c.in-Ok-Some.ensures.counts) i.going) ((rw c.in-Ok-Some.field-0-is at c.in-Ok-Some.ensures.takes) i.going)

pub returns-in-Some-clause-form : goal.returns-in-Some-clause-form
returns-in-Some-clause-form g c = c.in-Some.ensures.form ∙ c.loop-packets.invariant.form

pub returns-in-Some-clause-later : goal.returns-in-Some-clause-later
returns-in-Some-clause-later g c = omega (arith, c.loop-packets.invariant.later, c.in-Ok-Some.ensures.later)

pub loop-packets-smaller : goal.loop-packets-smaller
loop-packets-smaller g c =
    let counts = (rw c.in-Ok-Some.field-0-is at c.in-Ok-Some.ensures.counts) c.loop-packets.invariant.going in
    omega (arith, counts.0, counts.1, counts.2)

pub loop-packets-preserved : goal.loop-packets-preserved
loop-packets-preserved g c =
    let i = c.loop-packets.invariant in
    let counts = (rw c.in-Ok-Some.field-0-is at c.in-Ok-Some.ensures.counts) i.going in
    record {
      going = counts.5;
      form = c.in_default.ensures.form ∙ i.form;
      later = omega (arith, i.later, c.in-Ok-Some.ensures.later);
      follows = λ rate nulls start airings given.
          let f = i.follows rate nulls start airings given in
          follows_more rate nulls g.F.Source.left start c.loop-packets.packets c.next.new.self
          airings c.loop-packets.checker c.check_packet.new.checker c.loop-packets.passed
          c.check_packet.new.passed c.packet.result.now c.in-Ok-Some.number f
          (c.in_default.ensures.kind rate nulls f.is_of)
          (c.in_default.ensures.accepted nulls airings f.packets f.counted f.stands)
          (c.in_default.ensures.counted nulls f.packets f.within f.counted) c.packet.ensures
          counts
          ((rw c.in-Ok-Some.field-0-is at c.in-Ok-Some.ensures.takes) i.going);
    }

pub returns-in-Ok-None-clause-checks : goal.returns-in-Ok-None-clause-checks
returns-in-Ok-None-clause-checks g c = λ rate nulls start airings given.
    let i = c.loop-packets.invariant in
    let f = i.follows rate nulls start airings given in
    follows_short rate nulls g.F.Source.left start c.loop-packets.packets c.next.new.self airings
    c.loop-packets.checker c.loop-packets.checker c.loop-packets.passed c.loop-packets.passed
    c.number.result f
    (λ e. (let end = c.at_end.ensures.1 e in cc end)) c.number.ensures
    ((rw c.in-Ok-None.field-0-is at c.in-Ok-None.ensures.counts) i.going) ((rw c.in-Ok-None.field-0-is at c.in-Ok-None.ensures.packets) i.going)

pub returns-in-Ok-None-clause-form : goal.returns-in-Ok-None-clause-form
returns-in-Ok-None-clause-form g c = c.loop-packets.invariant.form

pub returns-in-Ok-None-clause-later : goal.returns-in-Ok-None-clause-later
returns-in-Ok-None-clause-later g c = omega (arith, c.loop-packets.invariant.later, c.in-Ok-None.ensures.later)

pub returns-in-Err-clause-checks : goal.returns-in-Err-clause-checks
returns-in-Err-clause-checks g c = λ rate nulls start airings given.
    let i = c.loop-packets.invariant in
    let f = i.follows rate nulls start airings given in
    subst (λ (s : Status). Checks rate nulls g.F.Source.left start c.next.new.self airings
    c.loop-packets.checker c.loop-packets.passed (Err s)) (sym c.status_of.ensures.value)
    (follows_stop rate nulls g.F.Source.left start c.loop-packets.packets c.next.new.self airings
    c.loop-packets.checker c.loop-packets.checker c.loop-packets.passed c.loop-packets.passed
    c.in-Err.stop f (λ e. (let end = c.at_end.ensures.1 e in cc end))
    (c.in-Err.ensures.counts i.going) (c.in-Err.ensures.packets i.going) (c.in-Err.ensures.broken i.going))

pub returns-in-Err-clause-form : goal.returns-in-Err-clause-form
returns-in-Err-clause-form g c = c.loop-packets.invariant.form

pub returns-in-Err-clause-cause : goal.returns-in-Err-clause-cause
returns-in-Err-clause-cause g c =
    let i = c.loop-packets.invariant in
    subst (λ (s : Status). HasReadCause (g.F.Source.faults c.args.packets.now.source) (g.F.Source.faults c.next.new.self.source) (Err s)) (sym c.status_of.ensures.value)
    (stop_caused (g.F.Source.faults c.args.packets.now.source) (g.F.Source.faults c.loop-packets.packets.source) (g.F.Source.faults c.next.new.self.source) c.next.new.self c.in-Err.stop _ i.later (c.in-Err.ensures.cause i.going))

pub returns-in-Err-clause-later : goal.returns-in-Err-clause-later
returns-in-Err-clause-later g c = omega (arith, c.loop-packets.invariant.later, c.in-Err.ensures.later)

pub returns-clause-checks : goal.returns-clause-checks
returns-clause-checks g c = c.loop-packets.invariant.follows

pub returns-clause-between : goal.returns-clause-between
returns-clause-between g c = record { going = c.loop-packets.invariant.going; at_end = search rules }

pub returns-clause-form : goal.returns-clause-form
returns-clause-form g c = c.loop-packets.invariant.form

pub returns-clause-later : goal.returns-clause-later
returns-clause-later g c = c.loop-packets.invariant.later
