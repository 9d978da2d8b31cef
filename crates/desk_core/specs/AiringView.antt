-- What a clause sees of a publication on air.
use Rattle.std.specs.Prelude.{ℕ}
use Rattle.si_time.specs.declared.moment.Moment.{Moment}
use Rattle.guide_model.specs.declared.guide.Guide.{Guide}

-- its number, the moment at which it went on air, and what it publishes
pub record AiringView : Type 0 where
  pub number : ℕ
  pub moment : Moment
  pub guide : Guide
