-- The parts of a guide, found by the ids of their services.
use Rattle.std.specs.Prelude.{ℕ, ◌==◌, List, [], Option, map, find, unwrap_or}
use Rattle.guide_model.specs.declared.guide.Guide.{Guide}
use Rattle.guide_model.specs.declared.guide.ServiceGuide.{ServiceGuide}
use Rattle.mux_model.specs.declared.mux.MuxService.{MuxService}
use Rattle.mux_model.specs.declared.mux.RemoteService.{RemoteService}
use Rattle.mux_model.specs.declared.mux.Other.{Other}
use Rattle.mux_model.specs.declared.mux.Mux.{Mux}

-- the part of the service with this id, among these
abbrev pub part_in : ℕ → List ServiceGuide → Option ServiceGuide
part_in id parts = find (λ (part : ServiceGuide). part.service == id) parts

-- a part without names and events
abbrev pub no_part : ℕ → ServiceGuide
no_part id = record { service = id; provider = []; name = []; events = [] }

-- a guide's part of the service with this id, one without names and events where it has none
abbrev pub part_of : Guide → ℕ → ServiceGuide
part_of guide id = unwrap_or (part_in id guide.services) (no_part id)

-- the parts of the own services of a multiplex, by ascending id
abbrev pub own_guide : Mux → Guide → List ServiceGuide
own_guide mux guide = map (λ (s : MuxService). part_of guide s.service) mux.services

-- the parts of the services of another stream, by ascending id
abbrev pub remote_guide : Guide → Other → List ServiceGuide
remote_guide guide other = map (λ (s : RemoteService). part_of guide s.service) other.services
