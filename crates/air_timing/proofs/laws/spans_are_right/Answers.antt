use Rattle.air_timing.proofs.Rates.{rates_last, spans_are_right as proved}
use Rattle.air_timing.proofs.Spans.{spans_are_largest}
use Rattle.air_timing.proofs.laws.spans_are_right.Goals as goal

pub returns-clause-lasts : goal.returns-clause-lasts
returns-clause-lasts c = rates_last

pub returns-clause-right : goal.returns-clause-right
returns-clause-right c = proved

pub returns-clause-largest : goal.returns-clause-largest
returns-clause-largest c = spans_are_largest
