-- Worked lines of further descriptors.
use Rattle.std.specs.Prelude.{◌≡◌, ℕ, List, [], ◌∷◌, Some, None, refl, codes}
use Rattle.input_lines.specs.Fields.{fields_compute}
use Rattle.guide_model.specs.declared.descriptor.RawDesc.{RawDesc}
use Rattle.mux_lines.specs.declared.record.Place.TheVariants.{InNetwork, InOther, InService, InProgram, InComponent}
use Rattle.mux_lines.specs.declared.record.Record.TheVariants.{Further}
use Rattle.mux_lines.specs.declared.record.RecordFound.TheVariants.{NoRecord, OutOfRange, Is}
use Rattle.mux_lines.specs.Fields.{found_line}
use Rattle.input_lines.specs.Groups.{descriptors_in, groups_compute}

abbrev desc : ℕ → List ℕ → RawDesc
desc tag body = record { tag = tag; body = body }

-- ---- groups

-- a private_data_specifier_descriptor, and a descriptor of its list of channels
two_groups : descriptors_in (codes "5F0400000028 83040065FC01") ≡ Some (desc 0x5F (0 ∷ 0 ∷ 0 ∷ 0x28 ∷ []) ∷ desc 0x83 (0 ∷ 0x65 ∷ 0xFC ∷ 1 ∷ []) ∷ [])
unfolding groups_compute
two_groups = refl

either_case : descriptors_in (codes "520aFfFf000000000000feFE") ≡ Some (desc 0x52 (0xFF ∷ 0xFF ∷ 0 ∷ 0 ∷ 0 ∷ 0 ∷ 0 ∷ 0 ∷ 0xFE ∷ 0xFE ∷ []) ∷ [])
unfolding groups_compute
either_case = refl

no_body : descriptors_in (codes "5200") ≡ Some (desc 0x52 [] ∷ [])
unfolding groups_compute
no_body = refl

-- a body that is too short, one that is too long, half a byte, one byte alone, and what is no digit
too_short : descriptors_in (codes "5F04000028") ≡ None
unfolding groups_compute
too_short = refl

too_long : descriptors_in (codes "5201AABB") ≡ None
unfolding groups_compute
too_long = refl

half_byte : descriptors_in (codes "5201A") ≡ None
unfolding groups_compute
half_byte = refl

tag_alone : descriptors_in (codes "52") ≡ None
unfolding groups_compute
tag_alone = refl

no_digit : descriptors_in (codes "5201G0") ≡ None
unfolding groups_compute
no_digit = refl

-- nothing; two spaces; one in front; one at the end
nothing : descriptors_in [] ≡ None
unfolding groups_compute
nothing = refl

two_spaces : descriptors_in (codes "5200  5200") ≡ None
unfolding groups_compute
two_spaces = refl

space_first : descriptors_in (codes " 5200") ≡ None
unfolding groups_compute
space_first = refl

space_last : descriptors_in (codes "5200 ") ≡ None
unfolding groups_compute
space_last = refl

-- ---- lines

of_network : found_line (codes "descriptor,network,4A0700010001006502") ≡ Is (Further InNetwork (desc 0x4A (0 ∷ 1 ∷ 0 ∷ 1 ∷ 0 ∷ 0x65 ∷ 2 ∷ []) ∷ []))
unfolding fields_compute groups_compute
of_network = refl

of_service : found_line (codes "descriptor,service,101,7300") ≡ Is (Further (InService 101) (desc 0x73 [] ∷ []))
unfolding fields_compute groups_compute
of_service = refl

of_program : found_line (codes "descriptor,program,101,0900") ≡ Is (Further (InProgram 101) (desc 0x09 [] ∷ []))
unfolding fields_compute groups_compute
of_program = refl

of_component : found_line (codes "descriptor,component,101,258,520101 6A028042") ≡ Is (Further (InComponent 101 258) (desc 0x52 (1 ∷ []) ∷ desc 0x6A (0x80 ∷ 0x42 ∷ []) ∷ []))
unfolding fields_compute groups_compute
of_component = refl

of_other : found_line (codes "descriptor,other,2,65535,5F0400000028") ≡ Is (Further (InOther 2 65535) (desc 0x5F (0 ∷ 0 ∷ 0 ∷ 0x28 ∷ []) ∷ []))
unfolding fields_compute groups_compute
of_other = refl

-- a place without its id, and one of another number of fields
no_id : found_line (codes "descriptor,service,7300") ≡ NoRecord
unfolding fields_compute groups_compute
no_id = refl

network_with_id : found_line (codes "descriptor,network,40,7300") ≡ NoRecord
unfolding fields_compute groups_compute
network_with_id = refl

-- descriptors that are made there, and tags that are none
made_there : found_line (codes "descriptor,stream,4103006501") ≡ OutOfRange
unfolding fields_compute groups_compute
made_there = refl

cable_of_other : found_line (codes "descriptor,other,2,1,4400") ≡ OutOfRange
unfolding fields_compute groups_compute
cable_of_other = refl

tag_one : found_line (codes "descriptor,stream,0100") ≡ OutOfRange
unfolding fields_compute groups_compute
tag_one = refl

tag_last : found_line (codes "descriptor,stream,5200 FF00") ≡ OutOfRange
unfolding fields_compute groups_compute
tag_last = refl

-- the form goes before the ranges
form_first : found_line (codes "descriptor,service,70000,73") ≡ NoRecord
unfolding fields_compute groups_compute
form_first = refl

id_past : found_line (codes "descriptor,service,70000,7300") ≡ OutOfRange
unfolding fields_compute groups_compute
id_past = refl

original_past : found_line (codes "descriptor,other,2,65536,5200") ≡ OutOfRange
unfolding fields_compute groups_compute
original_past = refl

pid_past : found_line (codes "descriptor,component,101,31,5200") ≡ OutOfRange
unfolding fields_compute groups_compute
pid_past = refl
