use Rattle.std.proofs.Common.{◌++◌, ◌∷◌, [], sym, ap, ◌∙◌, inl, inr}
use Rattle.air_audit.specs.Checker.{auditing_by}
use Rattle.air_audit.proofs.CycleLaws.{exactly_of}
use Rattle.air_audit.proofs.cycle_checker.CycleChecker.check.Goals as goal
use Rattle.air_audit.proofs.cycle_checker.CycleChecker.check.Goals.{in-Dense, in-Timed}

pub returns-clause-exactly : goal.returns-clause-exactly
returns-clause-exactly c = λ airings accepted.
    elim c.match-self.branch [
      | in-Dense w ↦
          exactly_of airings accepted (accepted ++ c.args.packet.now ∷ []) c.args.self.now
          (inl w.in-Dense.checker) c.match-self.result w.check.result
          (ap auditing_by (sym w.in-Dense.is) ∙ c.self.view_is) w.result-is
          (w.check.ensures.exactly airings accepted)
      | in-Timed w ↦
          exactly_of airings accepted (accepted ++ c.args.packet.now ∷ []) c.args.self.now
          (inr w.in-Timed.checker) c.match-self.result w.check-in-Timed.result
          (ap auditing_by (sym w.in-Timed.is) ∙ c.self.view_is) w.result-is
          (w.check-in-Timed.ensures.exactly airings accepted)
    ]
