use Rattle.desk_checkpoint.proofs.FoldFacts.{steps_taken, goes_on}
use Rattle.desk_checkpoint.proofs.FoldingStepFacts.{steps_within}
use Rattle.desk_checkpoint.proofs.AirFacts.{no_swaps, air_goes_on}
use Rattle.desk_checkpoint.proofs.folding_laws.checkpoints_are_taken.Goals as goal

pub returns-clause-taken : goal.returns-clause-taken
returns-clause-taken c = λ mux journal sound legal. steps_taken mux journal sound legal

pub returns-clause-goes_on : goal.returns-clause-goes_on
returns-clause-goes_on c = λ mux journal sound legal. goes_on mux journal sound legal

pub returns-clause-within : goal.returns-clause-within
returns-clause-within c = λ mux journal sound legal within. steps_within mux journal sound legal within

pub returns-clause-nothing : goal.returns-clause-nothing
returns-clause-nothing c = λ mux journal sound legal. no_swaps _ (steps_taken mux journal sound legal)

pub returns-clause-air : goal.returns-clause-air
returns-clause-air c = λ mux journal commands sound legal. air_goes_on mux journal commands sound legal
