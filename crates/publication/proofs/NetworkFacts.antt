-- The sections of the NIT have fields that fit and bodies of at most 1,012 bytes.
use Rattle.std.proofs.Common.{◌≡◌, ℕ, ◌+◌, ◌<◌, ◌≤◌, List, [], ◌∷◌, length, map, true, false, ◌==◌, Option, Some, None, IfSome, refl, ◌∙◌, arith, sum_by, length-append}
use Rattle.std.specs.List.{All, AllByRecursion}
use Rattle.std.proofs.lemmas.List.{length-map}
use Rattle.std.proofs.lemmas.List.Elements.{All-from_recursion}
use Rattle.si_lists.proofs.Lists.{all_map, all_to_map}
use Rattle.si_lists.proofs.RunFacts.{runs_some, runs_few, runs_fit}
use Rattle.si_lists.specs.Runs.{longest_runs}
use Rattle.guide_model.specs.Decoding.{shown_bytes}
use Rattle.guide_model.specs.declared.stream.Cable.{Cable}
use Rattle.mux_model.specs.declared.mux.Other.{Other}
use Rattle.mux_model.specs.declared.mux.Mux.{Mux}
use Rattle.guide_model.specs.Descriptors.{FitsDescriptor, AreSoundDescriptors}
use Rattle.guide_model.specs.declared.descriptor.RawDesc.{RawDesc}
use Rattle.guide_model.proofs.SoundFacts.{bodies_fit, none_made}
use Rattle.mux_model.specs.Rooms.{cable_size as room_cable, front_size, made_of_network, made_of_stream, other_size, own_size}
use Rattle.mux_model.specs.Sound.{IsSound, IsSoundOther, remote_services, HasSoundCable}
use Rattle.descriptors.proofs.Pieces.{length-coded_text}
use Rattle.descriptors.specs.CableDelivery.{FitsCable}
use Rattle.section_codec.specs.declared.table.NumberedBody.{NumberedBody}
use Rattle.section_codec.specs.Contents.{numbers_from, Ascend}
use Rattle.table_bodies.specs.declared.nit.NitStream.{NitStream}
use Rattle.table_bodies.proofs.Networks.{nit-has_its_size, written_nits}
use Rattle.table_bodies.specs.Nit.{FitsStream, HasNetworkRoom, CanBeWritten, cable_size, is_nit_body, stream_size}
use Rattle.publication.specs.Network.{kind_of, remote_kind, stream_of, streams_of, streams_room, other_stream, nit_of, nit_section, nit_sections}
use Rattle.publication.specs.Sections.{numbered}
use Rattle.publication.proofs.SdtFacts.{ascend-numbered, length-numbered, numbers-numbered, runs_all}

-- ---- streams

cable_fits : (c : Option Cable) → HasSoundCable c → IfSome c FitsCable
cable_fits None sound = tt
cable_fits (Some c) sound = record {
  frequency = omega (arith, sound.frequency);
  symbol_rate = omega (arith, sound.symbol_rate);
  fec_outer = omega (arith, sound.fec_outer);
  fec_inner = omega (arith, sound.fec_inner);
}

same_cable : (c : Option Cable) → cable_size c ≡ room_cable c
same_cable None = refl
same_cable (Some c) = refl

-- none of the other streams has more than 64 services
pub services_few : (others : List Other) → length (remote_services others) ≤ 64 → AllByRecursion (λ (o : Other). length o.services ≤ 64) others
services_few [] few = tt
services_few (o ∷ os) few =
    let parts = length-append o.services (remote_services os) in
    (omega (arith, parts, few), services_few os (omega (arith, parts, few)))

own_long : (mux : Mux) → stream_size (stream_of mux) ≡ own_size mux
own_long mux = omega (arith, length-map mux.services kind_of, same_cable mux.cable)

other_long : (o : Other) → stream_size (other_stream o) ≡ other_size o
other_long o = omega (arith, length-map o.services remote_kind, same_cable o.cable)

-- each by itself has room in a section
pub own_sized : (mux : Mux) → IsSound mux → stream_size (stream_of mux) ≤ streams_room mux
own_sized mux sound = omega (arith, own_long mux, sound.network_room)

pub other_sized : (mux : Mux) (o : Other) → front_size mux + other_size o ≤ 1012 → stream_size (other_stream o) ≤ streams_room mux
other_sized mux o room = omega (arith, other_long o, room)

pub streams_sized : (mux : Mux) → IsSound mux → AllByRecursion (λ (s : NitStream). stream_size s ≤ streams_room mux) (streams_of mux)
streams_sized mux sound = (
  own_sized mux sound,
  all_to_map (λ (s : NitStream). stream_size s ≤ streams_room mux) other_stream mux.others
      (all_map (λ (o : Other). front_size mux + other_size o ≤ 1012) (λ (o : Other). stream_size (other_stream o) ≤ streams_room mux) (other_sized mux) mux.others sound.others_room),
)

pub own_fits : (mux : Mux) → IsSound mux → FitsStream (stream_of mux)
own_fits mux sound = record {
  cable = cable_fits mux.cable sound.cable;
  services = omega (arith, length-map mux.services kind_of, sound.count.1);
  bodies = All-from_recursion FitsDescriptor mux.stream_descriptors (bodies_fit made_of_stream mux.stream_descriptors sound.stream_descriptors);
  room = omega (arith, own_long mux, sound.network_room);
}

-- another stream that is sound, with few services, and with room in a section
pub record IsReadyStream (mux : Mux) (o : Other) : Type 0 where
  pub sound : IsSoundOther o
  pub few : length o.services ≤ 64
  pub room : front_size mux + other_size o ≤ 1012

pub other_fits : (mux : Mux) (o : Other) → IsReadyStream mux o → FitsStream (other_stream o)
other_fits mux o ready = record {
  cable = cable_fits o.cable ready.sound.cable;
  services = omega (arith, length-map o.services remote_kind, ready.few);
  bodies = All-from_recursion FitsDescriptor o.descriptors (bodies_fit made_of_stream o.descriptors ready.sound.descriptors);
  room = omega (arith, other_long o, ready.room);
}

all_ready : (mux : Mux) (os : List Other) → AllByRecursion IsSoundOther os → AllByRecursion (λ (o : Other). length o.services ≤ 64) os
    → AllByRecursion (λ (o : Other). front_size mux + other_size o ≤ 1012) os → AllByRecursion (IsReadyStream mux) os
all_ready mux [] sound few room = tt
all_ready mux (o ∷ os) sound few room =
    (record { sound = sound.0; few = few.0; room = room.0 }, all_ready mux os sound.1 few.1 room.1)

pub others_ready : (mux : Mux) → IsSound mux → AllByRecursion (IsReadyStream mux) mux.others
others_ready mux sound = all_ready mux mux.others sound.others.each (services_few mux.others sound.others.few_services) sound.others_room

pub streams_fit : (mux : Mux) → IsSound mux → AllByRecursion FitsStream (streams_of mux)
streams_fit mux sound = (own_fits mux sound, each_fits mux.others (others_ready mux sound))
  where
    each_fits : (os : List Other) → AllByRecursion (IsReadyStream mux) os → AllByRecursion FitsStream (map other_stream os)
    each_fits [] ready = tt
    each_fits (o ∷ os) ready = (other_fits mux o ready.0, each_fits os ready.1)

-- no further descriptor of a stream is a cable_delivery_system
pub no_cable : (ds : List RawDesc) → AreSoundDescriptors made_of_stream ds → AllByRecursion (λ (d : RawDesc). (d.tag == 0x44) ≡ false) ds
no_cable ds sound = none_made made_of_stream 0x44 refl ds sound

-- ---- the network

pub name_fits : (mux : Mux) (streams : List NitStream) → IsSound mux → length (shown_bytes (nit_of mux streams).name) ≤ 255
name_fits mux streams sound = omega (arith, length-coded_text mux.network_name, sound.network_name.1)

pub network_fits : (mux : Mux) (streams : List NitStream) → IsSound mux → HasNetworkRoom (nit_of mux streams)
network_fits mux streams sound = omega (arith, length-coded_text mux.network_name, sound.network_room)

pub network_bodies : (mux : Mux) → IsSound mux → All FitsDescriptor mux.network_descriptors
network_bodies mux sound = All-from_recursion FitsDescriptor mux.network_descriptors (bodies_fit made_of_network mux.network_descriptors sound.network_descriptors)

-- ---- a section

nit_long : (mux : Mux) (streams : List NitStream) → length (nit_section mux streams) ≡ front_size mux + sum_by stream_size streams
nit_long mux streams = omega (arith, nit-has_its_size (nit_of mux streams), length-coded_text mux.network_name)

nit_fits : (mux : Mux) (streams : List NitStream) → IsSound mux → AllByRecursion FitsStream streams → sum_by stream_size streams ≤ streams_room mux → CanBeWritten (nit_of mux streams)
nit_fits mux streams sound fit few = record {
  name = name_fits mux streams sound;
  bodies = network_bodies mux sound;
  room = network_fits mux streams sound;
  streams = All-from_recursion FitsStream streams fit;
  within = omega (arith, few);
}

-- its body is short, and is one of the NIT
pub record IsNitSection (s : NumberedBody) : Type 0 where
  pub short : length s.body ≤ 1012
  pub body : is_nit_body s.body ≡ true

bodies_of : (mux : Mux) → IsSound mux → (n : ℕ) (runs : List (List NitStream)) → AllByRecursion (λ (r : List NitStream). sum_by stream_size r ≤ streams_room mux) runs
    → AllByRecursion (AllByRecursion FitsStream) runs → AllByRecursion IsNitSection (numbered n (map (nit_section mux) runs))
bodies_of mux sound n [] few fit = tt
bodies_of mux sound n (r ∷ runs) few fit = (
  record {
    short = omega (arith, nit_long mux r, few.0, sound.network_room);
    body = written_nits (nit_of mux r) (nit_fits mux r sound fit.0 few.0);
  },
  bodies_of mux sound (1 + n) runs few.1 fit.1,
)

-- ---- the table

-- sections of the NIT that can be sent
pub record AreNit (sections : List NumberedBody) : Type 0 where
  pub some : 0 < length sections
  pub few : length sections ≤ 16
  pub numbers : map (λ (s : NumberedBody). s.number) sections ≡ numbers_from 0 (length sections)
  pub ascending : Ascend sections
  pub bodies : AllByRecursion IsNitSection sections

pub nit_fit : (mux : Mux) → IsSound mux → AreNit (nit_sections mux)
nit_fit mux sound =
    let streams = streams_of mux in
    let runs = longest_runs stream_size (streams_room mux) streams in
    let bodies = map (nit_section mux) runs in
    let len : length (numbered 0 bodies) ≡ length runs = length-numbered 0 bodies ∙ length-map runs (nit_section mux) in
    record {
      some = omega (arith, len, runs_some stream_size (streams_room mux) streams);
      few = omega (arith, len, runs_few stream_size (streams_room mux) 16 streams (omega arith) (omega (arith, length-map mux.others other_stream, sound.others.few)));
      numbers = numbers-numbered 0 bodies;
      ascending = ascend-numbered 0 bodies;
      bodies = bodies_of mux sound 0 runs (runs_fit stream_size (streams_room mux) streams (streams_sized mux sound)) (runs_all FitsStream stream_size (streams_room mux) streams (streams_fit mux sound));
    }
