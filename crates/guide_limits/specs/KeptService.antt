-- What a book keeps of a service.
use Rattle.std.specs.Prelude.{ℕ}
use Rattle.guide_model.specs.declared.guide.ServiceGuide.{ServiceGuide}

-- the feed that owns it, and its names and events
pub record KeptService : Type 0 where
  pub feed : ℕ
  pub guide : ServiceGuide
