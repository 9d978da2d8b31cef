use Rattle.air_model.proofs.Nulls.{plain_is_air, plain_repeats, air_left, no_null_left}
use Rattle.air_model.proofs.laws.nulls_are_left_out.Goals as goal

pub returns : goal.returns
returns c = record { air = plain_is_air; repeating = plain_repeats; packets = air_left; none = no_null_left }
