use Rattle.section_codec.proofs.SameContent.{contents_are_compared}
use Rattle.section_codec.proofs.content.contents_are_compared.Goals as goal

pub returns : goal.returns
returns c = contents_are_compared
