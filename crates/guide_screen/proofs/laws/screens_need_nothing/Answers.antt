use Rattle.guide_screen.proofs.Hearing.{wanting_needs, whole_needs_nothing}
use Rattle.guide_screen.proofs.laws.screens_need_nothing.Goals as goal

pub returns : goal.returns
returns c = record { wanting = wanting_needs; whole = whole_needs_nothing }
