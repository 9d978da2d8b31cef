use Rattle.air_laws.proofs.Sections.{air-heard}
use Rattle.air_laws.proofs.HearingTold.{key_heard}
use Rattle.air_laws.proofs.hearing_laws.air_is_heard.Goals as goal

pub returns : goal.returns
returns c = record { pid = air-heard; key = key_heard }
