use Rattle.std.proofs.Common.{◌≡◌, ◌++◌, ◌∷◌, [], ℕ, List, refl, sym, ◌∙◌, subst}
use Rattle.std.specs.Prelude.{IsNone, IfNone, ◌↔◌}
use Rattle.air_audit.specs.Audits.{BeginAnAir}
use Rattle.air_audit.specs.Checking.{StandsFor}
use Rattle.air_audit.proofs.Checks.{stands_begins}
use Rattle.air_audit.proofs.Passing.{null_more, other_more}
use Rattle.air_audit.proofs.checker.Checker.check_past_nulls.Goals as goal

pub returns-then-is_null-clause-accepted : goal.returns-then-is_null-clause-accepted
returns-then-is_null-clause-accepted c airings recorded s =
    subst (λ (l : List (List ℕ)). StandsFor airings l c.args.self.now) (null_more recorded c.args.packet.now (sym c.is_null.ensures ∙ c.if-is_null.true)) s

pub returns-then-is_null-clause-exactly : goal.returns-then-is_null-clause-exactly
returns-then-is_null-clause-exactly c airings recorded s =
    (λ _. stands_begins airings (_) c.args.self.now (returns-then-is_null-clause-accepted c airings recorded s), λ _. refl)

pub returns-clause-accepted : goal.returns-clause-accepted
returns-clause-accepted c airings recorded s =
    subst (λ (l : List (List ℕ)). IfNone c.check.result (StandsFor airings l c.check.new.self)) (other_more recorded c.args.packet.now (sym c.is_null.ensures ∙ c.if-is_null.false))
    (c.check.ensures.accepted airings (_) s)

pub returns-clause-exactly : goal.returns-clause-exactly
returns-clause-exactly c airings recorded s =
    subst (λ (l : List (List ℕ)). IsNone c.check.result ↔ BeginAnAir airings l) (other_more recorded c.args.packet.now (sym c.is_null.ensures ∙ c.if-is_null.false))
    (c.check.ensures.exactly airings (_) s)

pub returns-clause-rule : goal.returns-clause-rule
returns-clause-rule c airings recorded s = c.check.ensures.rule airings (_) s
