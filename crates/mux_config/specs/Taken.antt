-- How much the records take of the room in a section: the PMT of a service, the NIT, and the SDT's entry of a service. A body has at
-- most 1,012 of the 1,024 bytes of a section (ISO/IEC 13818-1, 2.4.4.8; EN 300 468, 5.2.1 and 5.2.3).
use Rattle.std.specs.Prelude.{ℕ, ◌+◌, ◌==◌, ◌&&◌, ◌||◌, nat_lt, Bool, false, List, sum_by, if◌then◌else◌}
use Rattle.std.specs.List.{list_any}
use Rattle.guide_model.specs.Coding.{coded_size}
use Rattle.guide_model.specs.Descriptors.{descriptors_size}
use Rattle.mux_model.specs.Rooms.{cable_size, language_size}
use Rattle.mux_lines.specs.declared.record.Place.{Place}
use Rattle.mux_lines.specs.declared.record.Place.TheVariants.{InNetwork, InStream, InOther, InService, InProgram, InComponent}
use Rattle.mux_lines.specs.declared.record.Record.{Record}
use Rattle.mux_lines.specs.declared.record.Record.TheVariants.{Network, Delivery, Service, Part, Elsewhere, Remote, Further}
use Rattle.mux_lines.specs.declared.record.Numbered.{Numbered}

abbrev pub sum_of : (Record → ℕ) → List Numbered → ℕ
sum_of bytes records = sum_by (λ (r : Numbered). bytes r.says) records

-- ---- the NIT, of which each section has the name and the further descriptors of the network, and at least one entry of a stream

-- what a record adds to a section with the entry of the own stream: a name, a cable delivery, the entry of a service in a list, and further
-- descriptors
abbrev pub own_bytes : Record → ℕ
own_bytes (Network id name) = coded_size name
own_bytes (Delivery cable) = 13
own_bytes (Service s) = 3
own_bytes (Further InNetwork descs) = descriptors_size descs
own_bytes (Further InStream descs) = descriptors_size descs
own_bytes r = 0

-- and to one with the entry of another stream
abbrev pub other_bytes : ℕ → ℕ → Record → ℕ
other_bytes stream original (Network id name) = coded_size name
other_bytes stream original (Elsewhere s o cable) = if s == stream && o == original then cable_size cable else 0
other_bytes stream original (Remote s o service) = if s == stream && o == original then 3 else 0
other_bytes stream original (Further InNetwork descs) = descriptors_size descs
other_bytes stream original (Further (InOther s o) descs) = if s == stream && o == original then descriptors_size descs else 0
other_bytes stream original r = 0

-- with the lengths of the section, the tag and the length of the name, and the fields of the stream
abbrev pub own_taken : List Numbered → ℕ
own_taken records = 14 + sum_of own_bytes records

abbrev pub other_taken : ℕ → ℕ → List Numbered → ℕ
other_taken stream original records = 14 + sum_of (other_bytes stream original) records

-- ---- the PMT of a service

abbrev pub program_bytes : ℕ → Record → ℕ
program_bytes id (Part home c) = if home == id then language_size c.language else 0
program_bytes id (Further (InProgram home) descs) = if home == id then descriptors_size descs else 0
program_bytes id (Further (InComponent home pid) descs) = if home == id then descriptors_size descs else 0
program_bytes id r = 0

-- with its PCR_PID and a length
abbrev pub program_taken : ℕ → List Numbered → ℕ
program_taken id records = 4 + sum_of (program_bytes id) records

-- ---- further descriptors of a service in the SDT

abbrev pub service_bytes : ℕ → Record → ℕ
service_bytes id (Further (InService home) descs) = if home == id then descriptors_size descs else 0
service_bytes id r = 0

abbrev pub service_taken : ℕ → List Numbered → ℕ
service_taken id records = sum_of (service_bytes id) records

-- ---- one record more

-- whether with the record a room is passed
abbrev pub passes_own : List Numbered → Record → Bool
passes_own before r = nat_lt 1012 (own_taken before + own_bytes r)

abbrev pub passes_other : ℕ → ℕ → List Numbered → Record → Bool
passes_other stream original before r = nat_lt 1012 (other_taken stream original before + other_bytes stream original r)

-- that of the other stream which an earlier record is, and that of any stream
abbrev pub passes_of : List Numbered → Record → Record → Bool
passes_of before r (Elsewhere stream original cable) = passes_other stream original before r
passes_of before r earlier = false

abbrev pub passes_each : List Numbered → Record → Bool
passes_each before r = passes_own before r || list_any (λ (x : Numbered). passes_of before r x.says) before

abbrev pub passes_program : ℕ → List Numbered → Record → Bool
passes_program id before r = nat_lt 1012 (program_taken id before + program_bytes id r)

abbrev pub passes_service : ℕ → List Numbered → Record → Bool
passes_service id before r = nat_lt 799 (service_taken id before + service_bytes id r)

-- its own room; the first loop of the NIT stands in all its sections
abbrev pub is_full_at : List Numbered → Place → Record → Bool
is_full_at before InNetwork r = passes_each before r
is_full_at before InStream r = passes_own before r
is_full_at before (InOther stream original) r = passes_other stream original before r
is_full_at before (InService id) r = passes_service id before r
is_full_at before (InProgram id) r = passes_program id before r
is_full_at before (InComponent id pid) r = passes_program id before r

abbrev pub is_full : List Numbered → Record → Bool
is_full before (Network id name) = passes_each before (Network id name)
is_full before (Part id c) = passes_program id before (Part id c)
is_full before (Elsewhere s o cable) = passes_other s o before (Elsewhere s o cable)
is_full before (Remote s o service) = passes_other s o before (Remote s o service)
is_full before (Further place descs) = is_full_at before place (Further place descs)
is_full before r = passes_own before r
