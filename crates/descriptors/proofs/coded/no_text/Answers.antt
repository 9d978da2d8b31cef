use Rattle.std.proofs.Common.{refl}
use Rattle.std.specs.Str.{chars}
use Rattle.descriptors.proofs.coded.no_text.Goals as goal

pub of_kept-requires : goal.of_kept-requires
unfolding chars
of_kept-requires c = refl
