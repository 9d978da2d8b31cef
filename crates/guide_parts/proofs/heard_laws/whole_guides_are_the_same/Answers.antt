use Rattle.guide_parts.proofs.HeardWhole.{guide_same, strict_guide_same, nothing_beside}
use Rattle.guide_parts.proofs.heard_laws.whole_guides_are_the_same.Goals as goal

pub returns : goal.returns
returns c = record { any = guide_same; strict = strict_guide_same; sent = nothing_beside }
