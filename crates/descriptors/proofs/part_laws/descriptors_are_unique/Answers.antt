use Rattle.descriptors.proofs.Loops.{descriptors-unique}
use Rattle.descriptors.proofs.part_laws.descriptors_are_unique.Goals as goal

pub returns : goal.returns
returns c = descriptors-unique
