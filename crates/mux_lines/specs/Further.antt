-- Lines of further descriptors.
use Rattle.std.specs.Prelude.{ℕ, Bool, ◌&&◌, List, [], Option, Some, None, if◌then◌else◌, codes}
use Rattle.std.specs.List.{list_all}
use Rattle.input_lines.specs.Numbers.{is_word, in_range}
use Rattle.guide_model.specs.declared.descriptor.RawDesc.{RawDesc}
use Rattle.guide_model.specs.Descriptors.{is_free}
use Rattle.mux_model.specs.Rooms.{made_of_network, made_of_service, made_of_stream}
use Rattle.mux_lines.specs.declared.record.Place.{Place}
use Rattle.mux_lines.specs.declared.record.Place.TheVariants.{InNetwork, InStream, InOther, InService, InProgram, InComponent}
use Rattle.mux_lines.specs.declared.record.Record.TheVariants.{Further}
use Rattle.mux_lines.specs.declared.record.RecordFound.{RecordFound}
use Rattle.mux_lines.specs.declared.record.RecordFound.TheVariants.{NoRecord, OutOfRange}
use Rattle.mux_lines.specs.Found.{spelled, within}
use Rattle.input_lines.specs.Groups.{descriptors_in}

-- the tags of the descriptors that are always made there
abbrev pub made_in : Place → List ℕ
made_in InNetwork = made_of_network
made_in InStream = made_of_stream
made_in (InOther stream original) = made_of_stream
made_in (InService id) = made_of_service
made_in (InProgram id) = []
made_in (InComponent id pid) = []

abbrev pub are_free : Place → List RawDesc → Bool
are_free place descs = list_all (λ (d : RawDesc). is_free (made_in place) d.tag) descs

-- the descriptors of a place, where both are some
abbrev pub further_of : Option Place → Option (List RawDesc) → RecordFound
further_of place None = NoRecord
further_of None (Some descs) = OutOfRange
further_of (Some place) (Some descs) = within (are_free place descs) (Further place descs)

abbrev pub place_if : Bool → Place → Option Place
place_if fits place = if fits then Some place else None

-- `descriptor,network,DESCRIPTORS` and `descriptor,stream,DESCRIPTORS`
abbrev pub in_loop : List ℕ → List ℕ → RecordFound
in_loop loop field =
    if is_word (codes "network") loop then further_of (Some InNetwork) (descriptors_in field)
    else if is_word (codes "stream") loop then further_of (Some InStream) (descriptors_in field)
    else NoRecord

-- `descriptor,service,ID,DESCRIPTORS` and `descriptor,program,ID,DESCRIPTORS`
abbrev pub service_place : ℕ → Option Place
service_place n = place_if (in_range 0 65535 n) (InService n)

abbrev pub program_place : ℕ → Option Place
program_place n = place_if (in_range 0 65535 n) (InProgram n)

abbrev pub of_id : List ℕ → List ℕ → List ℕ → RecordFound
of_id loop id field =
    if is_word (codes "service") loop then spelled id (λ n. further_of (service_place n) (descriptors_in field))
    else if is_word (codes "program") loop then spelled id (λ n. further_of (program_place n) (descriptors_in field))
    else NoRecord

-- `descriptor,component,ID,PID,DESCRIPTORS` and `descriptor,other,STREAM,ORIGINAL,DESCRIPTORS`
abbrev pub component_place : ℕ → ℕ → Option Place
component_place n p = place_if (in_range 0 65535 n && in_range 32 8190 p) (InComponent n p)

abbrev pub other_place : ℕ → ℕ → Option Place
other_place s o = place_if (in_range 0 65535 s && in_range 0 65535 o) (InOther s o)

abbrev pub of_pair : List ℕ → List ℕ → List ℕ → List ℕ → RecordFound
of_pair loop first second field =
    if is_word (codes "component") loop then spelled first (λ n. spelled second (λ p. further_of (component_place n p) (descriptors_in field)))
    else if is_word (codes "other") loop then spelled first (λ s. spelled second (λ o. further_of (other_place s o) (descriptors_in field)))
    else NoRecord
