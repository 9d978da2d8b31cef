-- Printed descriptors read back.
use Rattle.guide_model.proofs.HexTexts.{text_back}
use Rattle.guide_text.specs.Laws.{DetailsReadBack}

pub details-read_back : DetailsReadBack
details-read_back d can = text_back d can.bytes can.length
