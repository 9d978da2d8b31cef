use Rattle.guide_text.proofs.DetailsBack.{details-read_back}
use Rattle.guide_text.proofs.laws.details_read_back.Goals as goal

pub returns : goal.returns
returns c = details-read_back
