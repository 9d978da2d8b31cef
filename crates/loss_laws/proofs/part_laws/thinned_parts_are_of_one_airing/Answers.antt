use Rattle.loss_laws.proofs.Thinned.{thinned_part, part_of_recordings}
use Rattle.loss_laws.proofs.part_laws.thinned_parts_are_of_one_airing.Goals as goal

pub returns : goal.returns
returns c = record { one = thinned_part; many = part_of_recordings }
