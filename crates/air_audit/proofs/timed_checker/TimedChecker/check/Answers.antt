use Rattle.std.proofs.Common.{ℕ, ◌++◌, ◌∷◌, [], List, sym, ap, ◌∙◌, subst, refl}
use Rattle.air_audit.specs.TimedAirs.{BeginTheAir}
use Rattle.air_audit.specs.TimedChecking.{TimedChecking, StandsFor}
use Rattle.air_audit.proofs.Stands.{accepted_next, apart, bytes_same, ended_refuses, expected_begins, other_refused}
use Rattle.air_audit.proofs.timed_checker.TimedChecker.check.Goals as goal

pub returns-in-None-clause-exactly : goal.returns-in-None-clause-exactly
returns-in-None-clause-exactly c = λ airings accepted stands.
    ended_refuses airings accepted c.args.self.now c.args.packet.now
    (ap (λ (s : TimedChecking). s.next) (sym c.self.view_is) ∙ c.in-None.is) stands

pub returns-then-not-is_same-clause-exactly : goal.returns-then-not-is_same-clause-exactly
returns-then-not-is_same-clause-exactly c = λ airings accepted stands.
    other_refused airings accepted c.args.self.now c.args.packet.now c.in-Some.expected
    (ap (λ (s : TimedChecking). s.next) (sym c.self.view_is) ∙ c.in-Some.is) stands
    (apart c.in-Some.expected.0 c.args.packet.now (sym c.is_same.ensures ∙ c.if-not-is_same.true))

pub returns-clause-accepted : goal.returns-clause-accepted
returns-clause-accepted c = λ airings accepted stands.
    let same = bytes_same c.in-Some.expected.0 c.args.packet.now
    (sym c.is_same.ensures ∙ c.if-not-is_same.false) in
    let old : TimedChecking = record {
      playing = c.self.inside.player;
      next =
          c.self.inside.next;
      nulls = c.self.inside.nulls;
      form =
          record { quota = c.self.inside.quota; offsets = c.self.inside.player.offsets };
    } in
    let new : TimedChecking = record {
      playing = c.advance-self-inside.new.player;
      next =
          c.advance-self-inside.result;
      nulls = c.self.inside.nulls;
      form =
          record { quota = c.self.inside.quota; offsets = c.advance-self-inside.new.player.offsets };
    }
    in
    let here = subst (StandsFor airings accepted) (sym c.self.view_is) stands in
    accepted_next airings accepted old new c.args.packet.now c.in-Some.expected c.in-Some.is here
    same refl c.advance-self-inside.ensures.came

pub returns-clause-exactly : goal.returns-clause-exactly
returns-clause-exactly c = λ airings accepted stands.
    let same = bytes_same c.in-Some.expected.0 c.args.packet.now
    (sym c.is_same.ensures ∙ c.if-not-is_same.false) in (
      (λ none. subst (λ (p : List ℕ). BeginTheAir c.args.self.now.playing.rate c.args.self.now.nulls
          airings (accepted ++ p ∷ [])) same
          (expected_begins airings accepted c.args.self.now c.in-Some.expected
          (ap (λ (s : TimedChecking). s.next) (sym c.self.view_is) ∙ c.in-Some.is) stands)),
      (λ b. refl),
    )
