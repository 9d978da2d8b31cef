use Rattle.air_model.proofs.Repeating.{airs_repeat}
use Rattle.air_laws.proofs.HearingTold.{changes_heard}
use Rattle.air_laws.proofs.hearing_laws.changes_are_heard.Goals as goal

pub returns : goal.returns
returns c = record { changes = changes_heard; airs = airs_repeat }
