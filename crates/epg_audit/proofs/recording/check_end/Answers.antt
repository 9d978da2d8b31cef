use Rattle.std.proofs.Common.{◌≡◌, ℕ, false, sym, subst, arith, ◌∙◌}
use Rattle.std.specs.Prelude.{Err, Option}
use Rattle.epg_report.specs.declared.status.Status.{Status}
use Rattle.epg_audit.specs.Checks.{Ends, Follows, HasReadCause}
use Rattle.epg_audit.proofs.Following.{ends_none, ends_some, ends_stop, follows_over, stop_caused}
use Rattle.epg_audit.proofs.recording.check_end.Goals as goal

pub nulls-init : goal.nulls-init
nulls-init g c = record {
  going = c.requires.going;
  later = omega arith;
  follows =
      λ rate nulls start airings checker f. f;
}

pub returns-in-Ok-None-clause-ends : goal.returns-in-Ok-None-clause-ends
returns-in-Ok-None-clause-ends g c = λ rate nulls start airings checker given.
    let i = c.nulls.invariant in
    record {
      last = c.nulls.packets;
      follows = i.follows rate nulls start airings checker given;
      gives = ends_none rate nulls g.F.Source.left start c.nulls.packets c.next.new.self
          ((rw c.in-Ok-None.field-0-is at c.in-Ok-None.ensures.packets) i.going);
      number = ((rw c.in-Ok-None.field-0-is at c.in-Ok-None.ensures.counts) i.going).0;
    }

pub returns-in-Ok-None-clause-later : goal.returns-in-Ok-None-clause-later
returns-in-Ok-None-clause-later g c = omega (arith, c.nulls.invariant.later, c.in-Ok-None.ensures.later)

pub returns-in-Err-clause-ends : goal.returns-in-Err-clause-ends
returns-in-Err-clause-ends g c = λ rate nulls start airings checker given.
    let i = c.nulls.invariant in
    subst (λ (s : Status). Ends rate nulls g.F.Source.left start c.next.new.self airings checker
    c.nulls.passed (Err s)) (sym c.status_of.ensures.value)
    (record {
      last = c.nulls.packets;
      follows = i.follows rate nulls start airings checker given;
      gives = ends_stop rate nulls g.F.Source.left start c.nulls.packets c.next.new.self
          c.in-Err.stop (c.in-Err.ensures.counts i.going) (c.in-Err.ensures.packets i.going)
          (c.in-Err.ensures.broken i.going);
      number = tt;
    })

pub returns-in-Err-clause-cause : goal.returns-in-Err-clause-cause
returns-in-Err-clause-cause g c =
    let i = c.nulls.invariant in
    subst (λ (s : Status). HasReadCause (g.F.Source.faults c.args.packets.now.source) (g.F.Source.faults c.next.new.self.source) (Err s)) (sym c.status_of.ensures.value)
    (stop_caused (g.F.Source.faults c.args.packets.now.source) (g.F.Source.faults c.nulls.packets.source) (g.F.Source.faults c.next.new.self.source) c.next.new.self c.in-Err.stop _ i.later (c.in-Err.ensures.cause i.going))

pub returns-in-Err-clause-later : goal.returns-in-Err-clause-later
returns-in-Err-clause-later g c = omega (arith, c.nulls.invariant.later, c.in-Err.ensures.later)

pub returns-then-not-pass_over-clause-ends : goal.returns-then-not-pass_over-clause-ends
returns-then-not-pass_over-clause-ends g c = λ rate nulls start airings checker given.
    let i = c.nulls.invariant in
    let f = i.follows rate nulls start airings checker given in
    let other : c.pass_over.result ≡ false = c.if-not-pass_over.true in
    record {
      last = c.nulls.packets;
      follows = subst (λ (o : Option ℕ). Follows rate nulls g.F.Source.left start c.nulls.packets
          airings checker o) (sym (c.pass_over.ensures.kept other)) f;
      gives = ends_some rate nulls g.F.Source.left start c.nulls.packets c.next.new.self
          c.packet.result.now c.in-Ok-Some.number
          (sym (c.pass_over.ensures.null nulls f.packets f.counted) ∙ other) c.packet.ensures
          ((rw c.in-Ok-Some.field-0-is at c.in-Ok-Some.ensures.counts) i.going) ((rw c.in-Ok-Some.field-0-is at c.in-Ok-Some.ensures.takes) i.going);
      number = tt;
    }

pub nulls-preserved : goal.nulls-preserved
nulls-preserved g c =
    let i = c.nulls.invariant in
    let counts = (rw c.in-Ok-Some.field-0-is at c.in-Ok-Some.ensures.counts) i.going in
    record {
      going = counts.5;
      later = omega (arith, i.later, c.in-Ok-Some.ensures.later);
      follows = λ rate nulls start airings checker given.
          let f = i.follows rate nulls start airings checker given in
          follows_over rate nulls g.F.Source.left start c.nulls.packets c.next.new.self airings
          checker c.nulls.passed c.pass_over.new.passed c.packet.result.now c.in-Ok-Some.number
          f
          (sym (c.pass_over.ensures.null nulls f.packets f.counted) ∙ c.if-not-pass_over.false) (c.pass_over.ensures.counted nulls f.packets f.within f.counted) c.packet.ensures counts
          ((rw c.in-Ok-Some.field-0-is at c.in-Ok-Some.ensures.takes) i.going);
    }
