use Rattle.std.proofs.Common.{ℕ, List, ◌++◌, ◌∷◌, [], refl, sym, ◌∙◌, subst}
use Rattle.std.specs.Prelude.{IfNone, IsNone, ◌↔◌}
use Rattle.air_audit.specs.TimedAirs.{seen}
use Rattle.air_audit.specs.CycleAirs.{BeginAirAt}
use Rattle.air_audit.specs.CycleChecking.{StandsAt}
use Rattle.air_audit.proofs.CycleLaws.{begins_at, stands_begins}
use Rattle.epg_audit.proofs.Nulls.{seen_more, seen_same}
use Rattle.epg_audit.proofs.recording.check_packet.Goals as goal

pub returns-then-pass_over-clause-accepted : goal.returns-then-pass_over-clause-accepted
returns-then-pass_over-clause-accepted c = λ nulls airings packets counted stands.
    let over = sym (c.pass_over.ensures.null nulls packets counted) ∙ c.if-pass_over.true in
    subst (λ (l : List (List ℕ)). StandsAt airings l c.args.checker.now)
    (sym (seen_same nulls packets c.args.packet.now over)) stands

pub returns-then-pass_over-clause-exactly : goal.returns-then-pass_over-clause-exactly
returns-then-pass_over-clause-exactly c = λ rate nulls airings packets counted is stands.
    let over = sym (c.pass_over.ensures.null nulls packets counted) ∙ c.if-pass_over.true in (
      (λ none. subst (BeginAirAt rate nulls airings)
          (sym (seen_same nulls packets c.args.packet.now over))
          (stands_begins rate nulls airings (seen nulls packets) c.args.checker.now is stands)),
      (λ b. refl),
    )

pub returns-clause-accepted : goal.returns-clause-accepted
returns-clause-accepted c = λ nulls airings packets counted stands.
    let other = sym (c.pass_over.ensures.null nulls packets counted) ∙ c.if-pass_over.false in
    subst (λ (l : List (List ℕ)). IfNone c.check.result (StandsAt airings l c.check.new.self))
    (sym (seen_more nulls packets c.args.packet.now other))
    (c.check.ensures.accepted airings (seen nulls packets) stands)

pub returns-clause-exactly : goal.returns-clause-exactly
returns-clause-exactly c = λ rate nulls airings packets counted is stands.
    let other = sym (c.pass_over.ensures.null nulls packets counted) ∙ c.if-pass_over.false in
    let all : List (List ℕ) = seen nulls packets ++ c.args.packet.now ∷ [] in
    let at = begins_at rate nulls airings all c.args.checker.now is in
    let exactly = c.check.ensures.exactly airings (seen nulls packets) stands in
    subst (λ (l : List (List ℕ)). IsNone c.check.result ↔ BeginAirAt rate nulls airings l)
    (sym (seen_more nulls packets c.args.packet.now other))
    ((λ none. at.0 (exactly.0 none)), (λ b. exactly.1 (at.1 b)))

pub returns-clause-rule : goal.returns-clause-rule
returns-clause-rule c = λ nulls airings packets counted stands. c.check.ensures.rule airings
    (seen nulls packets) stands
