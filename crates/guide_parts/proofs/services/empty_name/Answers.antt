use Rattle.std.proofs.Common.{refl}
use Rattle.std.specs.Str.{chars}
use Rattle.guide_parts.proofs.services.empty_name.Goals as goal

pub of_kept-requires : goal.of_kept-requires
unfolding chars
of_kept-requires c = refl
