-- Further descriptors and the room for them: a section of the PMT, of the NIT and of the SDT has at most 1,024 bytes, of which 12 are its
-- header and its CRC (ISO/IEC 13818-1, 2.4.4.8; EN 300 468, 5.2.1 and 5.2.3).
use Rattle.std.specs.Prelude.{ℕ, ◌+◌, ◌*◌, List, [], ◌∷◌, length, sum_by, Option, Some, None}
use Rattle.guide_model.specs.Coding.{coded_size}
use Rattle.guide_model.specs.Descriptors.{descriptors_size}
use Rattle.guide_model.specs.declared.stream.Cable.{Cable}
use Rattle.guide_model.specs.declared.stream.Component.{Component}
use Rattle.mux_model.specs.declared.mux.MuxService.{MuxService}
use Rattle.mux_model.specs.declared.mux.Other.{Other}
use Rattle.mux_model.specs.declared.mux.Mux.{Mux}

-- ---- descriptors that are made, which no further one is

-- network_name_descriptor; service_list_descriptor and cable_delivery_system_descriptor; service_descriptor
abbrev pub made_of_network : List ℕ
made_of_network = 0x40 ∷ []

abbrev pub made_of_stream : List ℕ
made_of_stream = 0x41 ∷ 0x44 ∷ []

abbrev pub made_of_service : List ℕ
made_of_service = 0x48 ∷ []

-- ISO_639_language_descriptor, where a component has a language
abbrev pub made_of_component : Option (List ℕ) → List ℕ
made_of_component None = []
made_of_component (Some language) = 0x0A ∷ []

-- ---- room in the PMT

-- the entry of a component: its fields and its language
abbrev pub language_size : Option (List ℕ) → ℕ
language_size None = 5
language_size (Some language) = 11

abbrev pub component_size : Component → ℕ
component_size c = language_size c.language + descriptors_size c.descriptors

-- the body of the PMT of a service: PCR_PID and program_info_length, the descriptors of the program, and the components
abbrev pub program_size : MuxService → ℕ
program_size s = 4 + descriptors_size s.program_descriptors + sum_by component_size s.components

-- ---- room in the NIT, of which each section has the name and the further descriptors of the network, and at least one entry of a stream

abbrev pub cable_size : Option Cable → ℕ
cable_size None = 0
cable_size (Some cable) = 13

-- what each section has: both lengths, the name of the network behind its tag and length, and its further descriptors
abbrev pub front_size : Mux → ℕ
front_size mux = 6 + coded_size mux.network_name + descriptors_size mux.network_descriptors

-- the entry of this stream, and that of another: its fields, its cable delivery, its services and its further descriptors
abbrev pub own_size : Mux → ℕ
own_size mux = 8 + cable_size mux.cable + 3 * length mux.services + descriptors_size mux.stream_descriptors

abbrev pub other_size : Other → ℕ
other_size o = 8 + cable_size o.cable + 3 * length o.services + descriptors_size o.descriptors
