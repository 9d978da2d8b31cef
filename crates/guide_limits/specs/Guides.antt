-- The guide that edits leave.
use Rattle.std.specs.Prelude.{List, map}
use Rattle.guide_model.specs.declared.guide.Guide.{Guide}
use Rattle.si_time.specs.declared.moment.Moment.{Moment}
use Rattle.mux_model.specs.Fed.{FedService}
use Rattle.journal_model.specs.declared.edit.Edit.{Edit}
use Rattle.guide_limits.specs.Standing.{standing, names_of}
use Rattle.guide_limits.specs.KeptService.{KeptService}

-- a service with its names and its standing events
abbrev pub kept_after : List Edit → FedService → KeptService
kept_after past service =
    let names = names_of service.service (service.provider, service.name) past in
    record { feed = service.feed; guide = record { service = service.service; provider = names.0; name = names.1; events = standing service.service past } }

-- what a book of these services keeps after these accepted edits
abbrev pub book_after : List FedService → List Edit → List KeptService
book_after services past = map (kept_after past) services

-- what a book gives at a moment
abbrev pub guide_of : List KeptService → Moment → Guide
guide_of book moment = record { moment = moment; services = map (λ (kept : KeptService). kept.guide) book }
