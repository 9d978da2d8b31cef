use Rattle.mux_config.proofs.FineLines.{whole_descriptions_are_sound}
use Rattle.mux_config.proofs.laws.whole_descriptions_are_sound.Goals as goal

pub returns : goal.returns
returns c = whole_descriptions_are_sound
