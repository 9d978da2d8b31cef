use Rattle.std.proofs.Common.{refl}
use Rattle.std.specs.Str.{chars}
use Rattle.guide_screen.proofs.content_values.network_name.Goals as goal

pub of_kept-requires : goal.of_kept-requires
unfolding chars
of_kept-requires c = refl
