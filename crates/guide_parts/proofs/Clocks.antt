-- The moment that is shown is the last one.
use Rattle.std.proofs.Common.{◌≡◌, Option, Some, None, option_map, refl}
use Rattle.si_time.specs.declared.moment.Moment.{Moment}
use Rattle.guide_parts.specs.PartScreen.{moment_at}

pub clock_back : (o : Option Moment) → o ≡ option_map moment_at (option_map (λ (at : Moment). at.0) o)
clock_back None = refl
clock_back (Some at) = refl
