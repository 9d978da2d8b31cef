use Rattle.board_rows.specs.Stages.{IsToldOf}
use Rattle.board_rows.proofs.scenes.views.Given as goal

abbrev pub invariant-loop : goal.invariant-loop
invariant-loop l = IsToldOf l.viewer l.told
