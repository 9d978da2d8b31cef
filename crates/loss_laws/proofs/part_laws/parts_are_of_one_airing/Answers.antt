use Rattle.loss_laws.proofs.Window.{part_is_of_one, front_part_is_of_one}
use Rattle.loss_laws.proofs.part_laws.parts_are_of_one_airing.Goals as goal

pub returns : goal.returns
returns c = record { whole = part_is_of_one; front = front_part_is_of_one }
