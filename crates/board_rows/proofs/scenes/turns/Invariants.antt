use Rattle.board_rows.specs.Stages.{IsWriterOf, IsToldOf}
use Rattle.board_rows.proofs.scenes.turns.Given as goal

abbrev pub invariant-loop : goal.invariant-loop
invariant-loop g l = IsWriterOf l.viewer l.writer × IsToldOf l.viewer l.told
