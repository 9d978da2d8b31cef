use Rattle.mux_config.proofs.FineLines.{described_texts_are_kept}
use Rattle.mux_config.proofs.laws.described_texts_are_kept.Goals as goal

pub returns : goal.returns
returns c = described_texts_are_kept
