-- What feeds edit of a service, of whatever stream: the feed that owns it, and its first names.
use Rattle.std.specs.Prelude.{ℕ, ◌<◌, ◌≤◌, ◌==◌, nat_lt, Bool, List, [], ◌∷◌, find, map, option_map, unwrap_or}
use Rattle.std.specs.List.{AllByRecursion}
use Rattle.guide_model.specs.Coding.{coded_size}
use Rattle.guide_model.specs.Decoding.{IsKept}
use Rattle.mux_model.specs.declared.mux.MuxService.{MuxService}
use Rattle.mux_model.specs.declared.mux.RemoteService.{RemoteService}
use Rattle.mux_model.specs.declared.mux.Mux.{Mux}
use Rattle.mux_model.specs.Order.{all_placed}
use Rattle.mux_model.specs.Sound.{Between, remote_services}

pub record FedService : Type 0 where
  pub service : ℕ
  pub feed : ℕ
  pub provider : List ℕ
  pub name : List ℕ

abbrev pub fed_of : MuxService → FedService
fed_of s = record { service = s.service; feed = s.feed; provider = s.provider; name = s.name }

abbrev pub fed_of_remote : RemoteService → FedService
fed_of_remote s = record { service = s.service; feed = s.feed; provider = s.provider; name = s.name }

-- one comes before another by its id
abbrev pub has_lower_fed_id : FedService → FedService → Bool
has_lower_fed_id s t = nat_lt s.service t.service

-- the services that feeds edit, by ascending id: the multiplex's own, and between them those of other streams
abbrev pub fed_services : Mux → List FedService
fed_services mux = all_placed has_lower_fed_id (map fed_of_remote (remote_services mux.others)) (map fed_of mux.services)

-- their ids
abbrev pub fed_ids : Mux → List ℕ
fed_ids mux = map (λ (s : FedService). s.service) (fed_services mux)

-- the feed that owns the service with this id, and 0 where none has it
abbrev pub feed_of : List FedService → ℕ → ℕ
feed_of services id = unwrap_or (option_map (λ (s : FedService). s.feed) (find (λ (s : FedService). s.service == id) services)) 0

pub record IsSoundFed (s : FedService) : Type 0 where
  pub service : Between 1 65535 s.service
  pub feed : Between 1 16 s.feed
  pub provider : coded_size s.provider ≤ 100
  pub name : Between 1 100 (coded_size s.name)

-- its names may be kept
abbrev pub IsNamed : FedService → Type 0
IsNamed s = IsKept s.provider × IsKept s.name

-- each id is below the later ones
abbrev pub DoFedAscend : List FedService → Type 0
DoFedAscend [] = Unit {0}
DoFedAscend (s ∷ ss) = AllByRecursion (λ (t : FedService). s.service < t.service) ss × DoFedAscend ss
