-- The network information table of a multiplex (EN 300 468, 5.2.1).
use Rattle.std.specs.Prelude.{ℕ, ◌-◌, List, ◌∷◌, map}
use Rattle.guide_model.specs.declared.shown.Shown.TheVariants.{Text}
use Rattle.mux_model.specs.declared.mux.MuxService.{MuxService}
use Rattle.mux_model.specs.declared.mux.RemoteService.{RemoteService}
use Rattle.mux_model.specs.declared.mux.Other.{Other}
use Rattle.mux_model.specs.declared.mux.Mux.{Mux}
use Rattle.mux_model.specs.Rooms.{front_size}
use Rattle.si_lists.specs.Runs.{longest_runs}
use Rattle.section_codec.specs.declared.table.Key.{Key}
use Rattle.section_codec.specs.declared.table.NumberedBody.{NumberedBody}
use Rattle.section_codec.specs.declared.table.SubTable.{SubTable}
use Rattle.section_codec.specs.declared.table.Tier3.TheVariants.{Fast}
use Rattle.descriptors.specs.declared.service_list.ServiceKind.{ServiceKind}
use Rattle.table_bodies.specs.declared.nit.NitStream.{NitStream}
use Rattle.table_bodies.specs.declared.nit.Nit.{Nit}
use Rattle.table_bodies.specs.Nit.{nit_body, stream_size}
use Rattle.publication.specs.Sections.{numbered}

-- a service by its id and its type
abbrev pub kind_of : MuxService → ServiceKind
kind_of s = record { service = s.service; kind = s.kind }

abbrev pub remote_kind : RemoteService → ServiceKind
remote_kind s = record { service = s.service; kind = s.kind }

-- the own services, and those of another stream
abbrev pub own_kinds : Mux → List ServiceKind
own_kinds mux = map kind_of mux.services

abbrev pub remote_kinds : Other → List ServiceKind
remote_kinds other = map remote_kind other.services

-- the transport stream of the multiplex: how it is sent by cable, where that is told, its services, and its further descriptors
abbrev pub stream_of : Mux → NitStream
stream_of mux = record {
  stream = mux.stream;
  original = mux.original;
  cable = mux.cable;
  services = own_kinds mux;
  descriptors = mux.stream_descriptors;
}

-- another stream, by the same
abbrev pub other_stream : Other → NitStream
other_stream other = record {
  stream = other.stream;
  original = other.original;
  cable = other.cable;
  services = remote_kinds other;
  descriptors = other.descriptors;
}

-- this stream, and then the others
abbrev pub streams_of : Mux → List NitStream
streams_of mux = stream_of mux ∷ map other_stream mux.others

-- what a section says of the network and of these streams: its name, its further descriptors, and the streams
abbrev pub nit_of : Mux → List NitStream → Nit
nit_of mux streams = record {
  name = Text mux.network_name;
  descriptors = mux.network_descriptors;
  streams = streams;
}

abbrev pub nit_section : Mux → List NitStream → List ℕ
nit_section mux streams = nit_body (nit_of mux streams)

-- how many bytes are left for the streams: a section of the NIT has at most 1,024 bytes, of which 12 are its header and its CRC
abbrev pub streams_room : Mux → ℕ
streams_room mux = 1012 - front_size mux

-- The sections of the NIT: each has the name and the further descriptors of the network, and takes the longest run of next streams whose
-- entries fit it.
abbrev pub nit_sections : Mux → List NumberedBody
nit_sections mux = numbered 0 (map (nit_section mux) (longest_runs stream_size (streams_room mux) (streams_of mux)))

-- what names the NIT of the actual network: PID 0x0010, table_id 0x40 and network_id
abbrev pub nit_key : Mux → Key
nit_key mux = record { pid = 0x0010; table = 0x40; ext = mux.network; stream = 0; network = 0 }

-- a cycle repeats it most often
abbrev pub nit_table : Mux → SubTable
nit_table mux = record { key = nit_key mux; tier = Fast; sections = nit_sections mux }
