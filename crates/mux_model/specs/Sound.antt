-- A sound multiplex: every value in its range, and nothing that has to be single stands twice. What the types of the fields
-- bound already (16 bits of an id, 8 of a type) is not said again.
use Rattle.std.specs.Prelude.{◌≡◌, ◌≢◌, ℕ, ◌+◌, ◌*◌, ◌<◌, ◌≤◌, Bool, false, ◌==◌, ◌&&◌, ◌||◌, nat_lt, bytes_eq, if◌then◌else◌, List, [], ◌∷◌, ◌++◌, length, Option, Some, None, map}
use Rattle.std.specs.List.{AllByRecursion, flat_map}
use Rattle.guide_model.specs.declared.offset.Offset.{Offset}
use Rattle.guide_model.specs.declared.stream.Cable.{Cable}
use Rattle.guide_model.specs.declared.stream.Component.{Component}
use Rattle.guide_model.specs.Coding.{coded_size}
use Rattle.mux_model.specs.declared.mux.MuxService.{MuxService}
use Rattle.mux_model.specs.declared.mux.RemoteService.{RemoteService}
use Rattle.mux_model.specs.declared.mux.Other.{Other}
use Rattle.mux_model.specs.declared.mux.Mux.{Mux}
use Rattle.mux_model.specs.Order.{DoCome}
use Rattle.mux_model.specs.Rooms.{made_of_component, made_of_network, made_of_service, made_of_stream, front_size, other_size, own_size, program_size}
use Rattle.guide_model.specs.Descriptors.{descriptors_size, AreSoundDescriptors}

abbrev pub Between : ℕ → ℕ → ℕ → Type 0
Between low high n = (low ≤ n) × (n ≤ high)

pub record IsSoundCable (cable : Cable) : Type 0 where
  pub frequency : cable.frequency ≤ 99999999
  pub symbol_rate : cable.symbol_rate ≤ 9999999
  pub fec_outer : cable.fec_outer ≤ 15
  pub fec_inner : cable.fec_inner ≤ 15

abbrev pub HasSoundCable : Option Cable → Type 0
HasSoundCable None = Unit {0}
HasSoundCable (Some cable) = IsSoundCable cable

-- no bit rate, or one of 100,000 to 100,000,000 bits per second
abbrev pub HasSoundRate : Option ℕ → Type 0
HasSoundRate None = Unit {0}
HasSoundRate (Some rate) = Between 100000 100000000 rate

-- no language, or three letters a to z
abbrev pub HasSoundLanguage : Option (List ℕ) → Type 0
HasSoundLanguage None = Unit {0}
HasSoundLanguage (Some letters) = (length letters ≡ 3) × AllByRecursion (Between 97 122) letters

pub record IsSoundComponent (component : Component) : Type 0 where
  pub pid : Between 32 8190 component.pid
  pub language : HasSoundLanguage component.language
  pub descriptors : AreSoundDescriptors (made_of_component component.language) component.descriptors

-- no number stands twice
abbrev pub AreDifferent : List ℕ → Type 0
AreDifferent [] = Unit {0}
AreDifferent (n ∷ ns) = AllByRecursion (λ m. n ≢ m) ns × AreDifferent ns

abbrev pub component_pids : MuxService → List ℕ
component_pids s = map (λ (c : Component). c.pid) s.components

pub record IsSoundService (s : MuxService) : Type 0 where
  pub service : Between 1 65535 s.service
  pub feed : Between 1 16 s.feed
  pub pmt_pid : Between 32 8190 s.pmt_pid
  pub pcr_pid : Between 32 8191 s.pcr_pid
  pub provider : coded_size s.provider ≤ 100
  pub name : Between 1 100 (coded_size s.name)
  pub count : length s.components ≤ 16
  pub components : AllByRecursion IsSoundComponent s.components
  pub components_once : AreDifferent (component_pids s)
  -- its further descriptors in the SDT, where an entry without them has at most 210 of the 1,009 bytes of a section, and in its PMT
  pub descriptors : AreSoundDescriptors made_of_service s.descriptors
  pub room : descriptors_size s.descriptors ≤ 799
  pub program_descriptors : AreSoundDescriptors [] s.program_descriptors
  pub program_room : program_size s ≤ 1012

-- each id is below the later ones
abbrev pub DoAscend : List MuxService → Type 0
DoAscend [] = Unit {0}
DoAscend (s ∷ ss) = AllByRecursion (λ (t : MuxService). s.service < t.service) ss × DoAscend ss

-- the PIDs of the PMTs, and those of all components
abbrev pub pmt_pids : List MuxService → List ℕ
pmt_pids ss = map (λ (s : MuxService). s.pmt_pid) ss

abbrev pub all_component_pids : List MuxService → List ℕ
all_component_pids ss = flat_map component_pids ss

-- the most minutes that clocks are from UTC: 13 hours ahead of it, 12 behind (EN 300 468, 6.2.20)
abbrev pub farthest : Bool → ℕ
farthest behind = if behind then 720 else 780

-- a region: three letters A to Z and a number of 6 bits, offsets that clocks have, and a change that a section can carry
pub record IsSoundOffset (o : Offset) : Type 0 where
  pub country : (length o.country ≡ 3) × AllByRecursion (Between 65 90) o.country
  pub region : o.region ≤ 63
  pub minutes : o.minutes ≤ farthest o.behind
  pub change : o.change.0 < 65536 * 86400
  pub next : o.next ≤ farthest o.behind

-- two are of one region
abbrev pub is_region : Offset → Offset → Bool
is_region o p = bytes_eq o.country p.country && o.region == p.region

abbrev pub AreOfRegions : List Offset → Type 0
AreOfRegions [] = Unit {0}
AreOfRegions (o ∷ os) = AllByRecursion (λ p. is_region o p ≡ false) os × AreOfRegions os

-- at most 16 offsets, each of a region of its own
pub record AreSoundOffsets (offsets : List Offset) : Type 0 where
  pub few : length offsets ≤ 16
  pub each : AllByRecursion IsSoundOffset offsets
  pub once : AreOfRegions offsets

-- ---- other streams of the network (EN 300 468, 5.2.1)

pub record IsSoundRemote (s : RemoteService) : Type 0 where
  pub service : Between 1 65535 s.service
  pub feed : Between 1 16 s.feed
  pub provider : coded_size s.provider ≤ 100
  pub name : Between 1 100 (coded_size s.name)
  -- its further descriptors, with the room that an own service has in the SDT
  pub descriptors : AreSoundDescriptors made_of_service s.descriptors
  pub room : descriptors_size s.descriptors ≤ 799

-- one service comes before another by its id
abbrev pub has_lower_id : RemoteService → RemoteService → Bool
has_lower_id s t = nat_lt s.service t.service

pub record IsSoundOther (o : Other) : Type 0 where
  pub cable : HasSoundCable o.cable
  pub services : AllByRecursion IsSoundRemote o.services
  pub ascend : DoCome has_lower_id o.services
  pub descriptors : AreSoundDescriptors made_of_stream o.descriptors

-- one stream comes before another by transport_stream_id, and then by original_network_id
abbrev pub comes_before : Other → Other → Bool
comes_before o p = nat_lt o.stream p.stream || (o.stream == p.stream && nat_lt o.original p.original)

-- it has these ids
abbrev pub has_stream_ids : ℕ → ℕ → Other → Bool
has_stream_ids stream original o = stream == o.stream && original == o.original

-- the services of other streams
abbrev pub remote_services : List Other → List RemoteService
remote_services others = flat_map (λ (o : Other). o.services) others

-- the ids of a multiplex's own services, and then those of the other streams'
abbrev pub service_ids : Mux → List ℕ
service_ids mux = map (λ (s : MuxService). s.service) mux.services ++ map (λ (s : RemoteService). s.service) (remote_services mux.others)

-- at most 15 other streams with at most 64 services in all, none of them the multiplex's own, and no service_id twice
pub record AreSoundOthers (mux : Mux) : Type 0 where
  pub few : length mux.others ≤ 15
  pub each : AllByRecursion IsSoundOther mux.others
  pub ascend : DoCome comes_before mux.others
  pub apart : AllByRecursion (λ (o : Other). has_stream_ids mux.stream mux.original o ≡ false) mux.others
  pub few_services : length (remote_services mux.others) ≤ 64
  pub once : AreDifferent (service_ids mux)

pub record IsSound (mux : Mux) : Type 0 where
  pub network_name : Between 1 100 (coded_size mux.network_name)
  pub cable : HasSoundCable mux.cable
  pub start : mux.start.0 < 65536 * 86400
  pub quota : Between 1 10000 mux.quota
  pub rate : HasSoundRate mux.rate
  pub offsets : AreSoundOffsets mux.offsets
  pub count : Between 1 64 (length mux.services)
  pub services : AllByRecursion IsSoundService mux.services
  pub ascend : DoAscend mux.services
  pub pmts_once : AreDifferent (pmt_pids mux.services)
  -- no component has the PID of a PMT
  pub apart :
      AllByRecursion (λ pmt. AllByRecursion (λ pid. pmt ≢ pid) (all_component_pids mux.services)) (pmt_pids mux.services)
  pub others : AreSoundOthers mux
  -- the further descriptors of the NIT, of which a section has room for the entry of each stream
  pub network_descriptors : AreSoundDescriptors made_of_network mux.network_descriptors
  pub stream_descriptors : AreSoundDescriptors made_of_stream mux.stream_descriptors
  pub network_room : front_size mux + own_size mux ≤ 1012
  pub others_room : AllByRecursion (λ (o : Other). front_size mux + other_size o ≤ 1012) mux.others

-- the ids of another stream are of 16 bits
pub record HasStreamIds (o : Other) : Type 0 where
  pub stream : o.stream < 65536
  pub original : o.original < 65536

-- a sound multiplex, of which the ids are of 16 bits
pub record IsSoundWithIds (mux : Mux) : Type 0 where
  pub sound : IsSound mux
  pub network : mux.network < 65536
  pub stream : mux.stream < 65536
  pub original : mux.original < 65536
  pub others : AllByRecursion HasStreamIds mux.others
