-- The body of a section of a program map table, both ways (ISO/IEC 13818-1, 2.4.4.8).
use Rattle.std.specs.Prelude.{◌≡◌, ℕ, ◌+◌, ◌%◌, ◌<◌, ◌≤◌, List, [], ◌∷◌, ◌++◌, length, map, slice_index, Bool, if◌then◌else◌}
use Rattle.std.specs.Prelude.{Option, Some, None, IfSome, is_some, option_and_then}
use Rattle.std.specs.Option.{option_or}
use Rattle.std.specs.List.{flat_map, All, AllByRecursion}
use Rattle.si_base.specs.Fields.{two, two_at}
use Rattle.guide_model.specs.declared.stream.Component.{Component}
use Rattle.guide_model.specs.declared.screen.ScreenComponent.{ScreenComponent}
use Rattle.guide_model.specs.declared.descriptor.RawDesc.{RawDesc}
use Rattle.guide_model.specs.Descriptors.{FitsDescriptor, descriptors_size}
use Rattle.descriptors.specs.Descriptors.{descriptors_bytes}
use Rattle.descriptors.specs.Languages.{iso_639_language, languages_in, is_one_language}
use Rattle.table_bodies.specs.Entries.{TableEntry, entry_bytes, Reads, made, split_in, value_in, entries_in}
use Rattle.descriptors.specs.First.{first_in, without_first}
use Rattle.table_bodies.specs.declared.pmt.Pmt.{Pmt}
use Rattle.table_bodies.specs.declared.pmt.HeardPmt.{HeardPmt}

-- ---- written

-- the language of a component, where it has one
abbrev pub language_descriptors : Option (List ℕ) → List ℕ
language_descriptors None = []
language_descriptors (Some language) = iso_639_language (language ∷ [])

-- stream_type 8, reserved 3, elementary_PID 13; reserved 4; all reserved bits are 1; its language, and its further descriptors
abbrev pub component_entry : Component → TableEntry
component_entry c = record {
  fields = c.stream_type ∷ two (0xE000 + c.pid);
  bits = 15;
  descriptors = language_descriptors c.language ++ descriptors_bytes c.descriptors;
}

abbrev pub component_bytes : Component → List ℕ
component_bytes c = entry_bytes (component_entry c)

-- The PID fits its 13 bits, each body the length of its descriptor, and the further descriptors with the 6 bytes of a language their
-- length of 12 bits.
pub record IsWritable (c : Component) : Type 0 where
  pub pid : c.pid < 8192
  pub bodies : All FitsDescriptor c.descriptors
  pub room : descriptors_size c.descriptors ≤ 4089

-- reserved 3, PCR_PID 13, reserved 4, program_info_length 12, and the descriptors of the program
abbrev pub program_entry : ℕ → List RawDesc → TableEntry
program_entry pcr_pid descs = record { fields = two (0xE000 + pcr_pid); bits = 15; descriptors = descriptors_bytes descs }

abbrev pub pmt_body : Pmt → List ℕ
pmt_body p = entry_bytes (program_entry p.pcr_pid p.descriptors) ++ flat_map component_bytes p.components

-- ---- read

-- the first language of the first ISO_639_language
abbrev pub first_language : Option (List (List ℕ)) → Option (List ℕ)
first_language (Some (language ∷ languages)) = Some language
first_language (Some []) = None
first_language None = None

abbrev pub language_of : List RawDesc → Option (List ℕ)
language_of descs = first_language (first_in 0x0A languages_in descs)

-- the further descriptors of a component
abbrev pub further_of_component : List RawDesc → List RawDesc
further_of_component descs = without_first 0x0A languages_in is_one_language descs

-- what an entry says of a component
abbrev pub component_of : List ℕ → List RawDesc → ScreenComponent
component_of fields descs = record {
  stream_type = slice_index fields 0;
  pid = two_at 1 fields % 8192;
  language = language_of descs;
  descriptors = further_of_component descs;
}

abbrev pub component_in : Reads ScreenComponent
component_in fields descs = Some (component_of fields descs)

-- PCR_PID of the entry of the program, and its descriptors
abbrev pub program_in : Reads (ℕ × List RawDesc)
program_in fields descs = Some (two_at 0 fields % 8192, descs)

abbrev pub pmt_with : ℕ × List RawDesc → List ScreenComponent → HeardPmt
pmt_with program components = record { pcr_pid = program.0; descriptors = program.1; components = components }

-- An entry of the program and entries of components, whatever their reserved bits; none where the body is no such entries.
abbrev pub pmt_in : List ℕ → Option HeardPmt
pmt_in body = option_and_then (λ parts. made pmt_with (value_in program_in parts.0) (entries_in 3 component_in parts.1)) (split_in 2 body)

-- whether bytes are such a body
abbrev pub is_pmt_body : List ℕ → Bool
is_pmt_body body = is_some (pmt_in body)

-- ---- laws

-- each field has its width, and a language three letters
pub record FitsComponent (c : Component) : Type 0 where
  pub writable : IsWritable c
  pub language : IfSome c.language (λ language. length language ≡ 3)

pub record FitsPmt (p : Pmt) : Type 0 where
  pub pcr_pid : p.pcr_pid < 8192
  pub room : descriptors_size p.descriptors ≤ 4095
  pub components : AllByRecursion FitsComponent p.components

-- What a receiver shows of a component: its language is written first, so it is the one that is read. Without one a further descriptor
-- may be read as a language.
abbrev pub shown_component : Component → ScreenComponent
shown_component c = record {
  stream_type = c.stream_type;
  pid = c.pid;
  language = option_or c.language (language_of c.descriptors);
  descriptors = if is_some c.language then c.descriptors else further_of_component c.descriptors;
}

abbrev pub shown_pmt : Pmt → HeardPmt
shown_pmt p = record { pcr_pid = p.pcr_pid; descriptors = p.descriptors; components = map shown_component p.components }

-- Reading a written body gives what is shown of its value.
abbrev pub PmtReadsBack : Type 0
PmtReadsBack = (p : Pmt) → FitsPmt p → pmt_in (pmt_body p) ≡ Some (shown_pmt p)
