use Rattle.std.proofs.Common.{sym, ap, ◌∙◌}
use Rattle.std.specs.Prelude.{is_some}
use Rattle.air_audit.specs.TimedChecking.{TimedChecking}
use Rattle.air_audit.proofs.Stands.{end_is_air}
use Rattle.air_audit.proofs.timed_checker.TimedChecker.at_end.Goals as goal

pub returns-clause-air : goal.returns-clause-air
returns-clause-air c = λ airings accepted stands.
    end_is_air airings accepted c.args.self.now c.is_none.result
    (sym (ap is_some (ap (λ (s : TimedChecking). s.next) c.self.view_is)) ∙ c.is_none.ensures)
    stands
