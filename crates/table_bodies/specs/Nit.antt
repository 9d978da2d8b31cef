-- The body of a section of the network information table, both ways (EN 300 468, 5.2.1).
use Rattle.std.specs.Prelude.{◌≡◌, ℕ, ◌+◌, ◌*◌, ◌%◌, ◌<◌, ◌≤◌, Bool, true, false, ◌&&◌, ◌==◌, nat_le, if◌then◌else◌, List, [], ◌++◌, length, drop, sum_by}
use Rattle.std.specs.Prelude.{Option, Some, None, IfSome, is_some, option_and_then}
use Rattle.std.specs.Option.{unwrap_or}
use Rattle.std.specs.List.{flat_map, All, AllByRecursion}
use Rattle.si_base.specs.Fields.{two, two_at}
use Rattle.guide_model.specs.Decoding.{shown_bytes, IsAsDecoded}
use Rattle.guide_model.specs.declared.shown.Shown.{Shown}
use Rattle.guide_model.specs.declared.shown.Shown.TheVariants.{Text}
use Rattle.guide_model.specs.declared.stream.Cable.{Cable}
use Rattle.guide_model.specs.declared.descriptor.RawDesc.{RawDesc}
use Rattle.guide_model.specs.Descriptors.{FitsDescriptor, descriptors_size}
use Rattle.descriptors.specs.declared.service_list.ServiceKind.{ServiceKind}
use Rattle.descriptors.specs.Descriptors.{descriptors_bytes}
use Rattle.descriptors.specs.CableDelivery.{cable_delivery_system, cable_in, FitsCable}
use Rattle.descriptors.specs.NetworkName.{network_name, name_read}
use Rattle.descriptors.specs.ServiceList.{service_list, service_list_in}
use Rattle.table_bodies.specs.Entries.{TableEntry, entry_bytes, Reads, made, split_in, value_in, entries_in}
use Rattle.descriptors.specs.First.{first_in, without_first, always}
use Rattle.table_bodies.specs.declared.nit.NitStream.{NitStream}
use Rattle.table_bodies.specs.declared.nit.Nit.{Nit}

-- ---- written

-- how a stream is sent by cable, where it is told
abbrev pub cable_descriptors : Option Cable → List ℕ
cable_descriptors None = []
cable_descriptors (Some cable) = cable_delivery_system cable

-- transport_stream_id 16, original_network_id 16, reserved 4, all 1; its cable where it has one, its services, and its further
-- descriptors
abbrev pub stream_entry : NitStream → TableEntry
stream_entry s = record {
  fields = two s.stream ++ two s.original;
  bits = 15;
  descriptors = cable_descriptors s.cable ++ service_list s.services ++ descriptors_bytes s.descriptors;
}

abbrev pub stream_bytes : NitStream → List ℕ
stream_bytes s = entry_bytes (stream_entry s)

-- reserved 4, all 1, and bytes behind their length of 12 bits
abbrev pub bare_entry : List ℕ → TableEntry
bare_entry bytes = record { fields = []; bits = 15; descriptors = bytes }

-- the name and the further descriptors behind network_descriptors_length
abbrev pub network_entry : Nit → TableEntry
network_entry n = bare_entry (network_name n.name ++ descriptors_bytes n.descriptors)

-- the network, and the streams behind transport_stream_loop_length
abbrev pub nit_body : Nit → List ℕ
nit_body n = entry_bytes (network_entry n) ++ entry_bytes (bare_entry (flat_map stream_bytes n.streams))

-- how many bytes an entry has
abbrev pub cable_size : Option Cable → ℕ
cable_size None = 0
cable_size (Some cable) = 13

abbrev pub stream_size : NitStream → ℕ
stream_size s = 8 + cable_size s.cable + 3 * length s.services + descriptors_size s.descriptors

-- the digits of the cable fit, the services and each body the length of their descriptor, and the entry the length of a loop
pub record FitsStream (s : NitStream) : Type 0 where
  pub cable : IfSome s.cable FitsCable
  pub services : 3 * length s.services ≤ 255
  pub bodies : All FitsDescriptor s.descriptors
  pub room : stream_size s < 4096

-- ---- read

-- the first network_name; without one the name is empty
abbrev pub name_of : List RawDesc → Shown
name_of descs = unwrap_or (first_in 0x40 name_read descs) (Text [])

-- the further descriptors of a network
abbrev pub further_of_network : List RawDesc → List RawDesc
further_of_network descs = without_first 0x40 name_read always descs

-- the first cable_delivery_system that fits
abbrev pub cable_of : List RawDesc → Option Cable
cable_of descs = first_in 0x44 cable_in descs

-- the services of the first service_list that fits; without one there are none
abbrev pub services_of : List RawDesc → List ServiceKind
services_of descs = unwrap_or (first_in 0x41 service_list_in descs) []

-- the further descriptors of a stream
abbrev pub further_of_stream : List RawDesc → List RawDesc
further_of_stream descs = without_first 0x41 service_list_in always (without_first 0x44 cable_in always descs)

-- the descriptors of a network
abbrev pub network_in : Reads (List RawDesc)
network_in fields descs = Some descs

-- what an entry says of a stream
abbrev pub stream_with : ℕ → ℕ → List RawDesc → NitStream
stream_with stream original descs = record {
  stream = stream;
  original = original;
  cable = cable_of descs;
  services = services_of descs;
  descriptors = further_of_stream descs;
}

abbrev pub stream_in : Reads NitStream
stream_in fields descs = Some (stream_with (two_at 0 fields) (two_at 2 fields) descs)

-- the bytes after their length of 12 bits, whatever the four bits before it; none where they are not as many
abbrev pub is_loop : List ℕ → Bool
is_loop bytes = nat_le 2 (length bytes) && length (drop 2 bytes) == two_at 0 bytes % 4096

abbrev pub loop_in : List ℕ → Option (List ℕ)
loop_in bytes = if is_loop bytes then Some (drop 2 bytes) else None

abbrev pub nit_with : List RawDesc → List NitStream → Nit
nit_with descs streams = record { name = name_of descs; descriptors = further_of_network descs; streams = streams }

-- An entry of the network, and a loop of entries of streams, whatever their reserved bits; none where the body is no such entries.
abbrev pub nit_in : List ℕ → Option Nit
nit_in body =
    option_and_then (λ parts. made nit_with (value_in network_in parts.0) (option_and_then (entries_in 4 stream_in) (loop_in parts.1)))
    (split_in 0 body)

-- whether bytes are such a body
abbrev pub is_nit_body : List ℕ → Bool
is_nit_body body = is_some (nit_in body)

-- ---- laws

-- each field has its width, and no further descriptor is a cable_delivery_system, which would be read as the cable
pub record HasStreamWidths (s : NitStream) : Type 0 where
  pub stream : s.stream < 65536
  pub original : s.original < 65536
  pub services : AllByRecursion (λ k. k.service < 65536) s.services
  pub fits : FitsStream s
  pub no_cable : AllByRecursion (λ (d : RawDesc). (d.tag == 0x44) ≡ false) s.descriptors

-- the name and the further descriptors of a network fit their length of 12 bits
abbrev pub HasNetworkRoom : Nit → Type 0
HasNetworkRoom n = 2 + length (shown_bytes n.name) + descriptors_size n.descriptors < 4096

-- fields that fit, and a name that is shown as its bytes are
pub record FitsNit (n : Nit) : Type 0 where
  pub room : HasNetworkRoom n
  pub shown : IsAsDecoded n.name
  pub streams : AllByRecursion HasStreamWidths n.streams
  pub within : sum_by stream_size n.streams < 4096

-- Reading a written body gives its value back.
abbrev pub NitReadsBack : Type 0
NitReadsBack = (n : Nit) → FitsNit n → nit_in (nit_body n) ≡ Some n

-- what is asked before a body is written
pub record CanBeWritten (nit : Nit) : Type 0 where
  pub name : length (shown_bytes nit.name) ≤ 255
  pub bodies : All FitsDescriptor nit.descriptors
  pub room : HasNetworkRoom nit
  pub streams : All FitsStream nit.streams
  pub within : sum_by stream_size nit.streams < 4096

-- Each body that can be written is read.
abbrev pub WrittenNitsAreRead : Type 0
WrittenNitsAreRead = (nit : Nit) → CanBeWritten nit → is_nit_body (nit_body nit) ≡ true

-- A body has the bytes of its name, of its further descriptors, of its streams, and 6 more.
abbrev pub NitHasItsSize : Type 0
NitHasItsSize =
    (n : Nit) → length (nit_body n) ≡ 6 + length (shown_bytes n.name) + descriptors_size n.descriptors + sum_by stream_size n.streams
