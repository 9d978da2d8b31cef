use Rattle.sub_collect.proofs.Shown.{new_is_shown, same_is_quiet}
use Rattle.sub_collect.proofs.laws.contents_are_shown_once.Goals as goal

pub returns : goal.returns
returns c = record { new = new_is_shown; same = same_is_quiet }
