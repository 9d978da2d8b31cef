use Rattle.guide_model.proofs.RoundTrip.{decoded-coded, decoded-again}
use Rattle.guide_model.proofs.decoding.coded_texts_decode.Goals as goal

pub returns-clause-text : goal.returns-clause-text
returns-clause-text c = decoded-coded

pub returns-clause-again : goal.returns-clause-again
returns-clause-again c = decoded-again
