use Rattle.descriptors.proofs.Split.{lengths-read_back}
use Rattle.descriptors.proofs.part_laws.lengths_read_back.Goals as goal

pub returns : goal.returns
returns c = lengths-read_back
