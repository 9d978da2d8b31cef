use Rattle.guide_parts.proofs.WholeText.{whole_text}
use Rattle.guide_parts.proofs.text_laws.whole_text_is_listen.Goals as goal

pub returns : goal.returns
returns c = whole_text
