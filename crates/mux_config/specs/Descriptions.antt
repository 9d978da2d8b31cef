-- The description of a multiplex: the first fault of its lines, or the multiplex that their records make.
use Rattle.std.specs.Prelude.{ℕ, ◌==◌, nat_le, nat_lt, Bool, true, false, not, ◌&&◌, ◌||◌, List, [], ◌∷◌, ◌++◌, length, map, Option, Some, None, if◌then◌else◌, option_map, Ok, Err, Result}
use Rattle.std.specs.Option.{is_some, option_or, unwrap_or}
use Rattle.std.specs.List.{find, filter_map, flat_map, list_any, fold}
use Rattle.guide_model.specs.declared.offset.Offset.{Offset}
use Rattle.guide_model.specs.declared.descriptor.RawDesc.{RawDesc}
use Rattle.guide_model.specs.declared.stream.Cable.{Cable}
use Rattle.guide_model.specs.declared.stream.Component.{Component}
use Rattle.si_time.specs.declared.moment.Moment.{Moment}
use Rattle.input_lines.specs.Ahead.{Ahead, Came, Found, NoCommand, Row, Stopped, Tail, missing_at}
use Rattle.mux_config.specs.declared.fault.Word.TheVariants as word
use Rattle.mux_config.specs.declared.fault.MuxFault.{MuxFault}
use Rattle.mux_config.specs.declared.fault.MuxFault.TheVariants as fault
use Rattle.mux_model.specs.declared.mux.MuxService.{MuxService}
use Rattle.mux_model.specs.declared.mux.RemoteService.{RemoteService}
use Rattle.mux_model.specs.declared.mux.Other.{Other}
use Rattle.mux_model.specs.declared.mux.Mux.{Mux}
use Rattle.mux_model.specs.Order.{all_placed}
use Rattle.mux_model.specs.Sound.{comes_before, has_lower_id, is_region}
use Rattle.mux_lines.specs.declared.record.Place.{Place}
use Rattle.mux_lines.specs.declared.record.Place.TheVariants.{InNetwork, InStream, InOther, InService, InProgram, InComponent}
use Rattle.mux_lines.specs.declared.record.Record.{Record}
use Rattle.mux_lines.specs.declared.record.Record.TheVariants.{Network, Stream, Delivery, Service, Part, Start, Quota, Rate, Local, Elsewhere, Remote, Further, End}
use Rattle.mux_lines.specs.declared.record.Numbered.{Numbered}
use Rattle.mux_lines.specs.declared.record.RecordFound.{RecordFound}
use Rattle.mux_lines.specs.declared.record.RecordFound.TheVariants.{NoRecord, OutOfRange, Is}
use Rattle.mux_lines.specs.Fields.{found_line}
use Rattle.mux_config.specs.Taken.{is_full}

-- ---- the records of a kind

abbrev pub network_in : Record → Option (ℕ × List ℕ)
network_in (Network id name) = Some (id, name)
network_in r = None

abbrev pub stream_in : Record → Option (ℕ × ℕ)
stream_in (Stream id original) = Some (id, original)
stream_in r = None

abbrev pub delivery_in : Record → Option Cable
delivery_in (Delivery cable) = Some cable
delivery_in r = None

abbrev pub service_in : Record → Option MuxService
service_in (Service s) = Some s
service_in r = None

abbrev pub start_in : Record → Option Moment
start_in (Start moment) = Some moment
start_in r = None

abbrev pub quota_in : Record → Option ℕ
quota_in (Quota n) = Some n
quota_in r = None

abbrev pub rate_in : Record → Option ℕ
rate_in (Rate n) = Some n
rate_in r = None

abbrev pub local_in : Record → Option Offset
local_in (Local offset) = Some offset
local_in r = None

-- another stream, still without services and further descriptors
abbrev pub other_in : Record → Option Other
other_in (Elsewhere stream original cable) = Some (record { stream = stream; original = original; cable = cable; services = []; descriptors = [] })
other_in r = None

-- a service of another stream
abbrev pub remote_in : Record → Option RemoteService
remote_in (Remote stream original s) = Some s
remote_in r = None

-- the service, where the record is one of this other stream
abbrev pub remote_of : ℕ → ℕ → Record → Option RemoteService
remote_of stream original (Remote s o service) = if s == stream && o == original then Some service else None
remote_of stream original r = None

-- the component, where the record is one of this service
abbrev pub part_in : ℕ → Record → Option Component
part_in service (Part id component) = if id == service then Some component else None
part_in service r = None

-- what those of a kind say, in their order
abbrev pub all_of : {X : Type 0} → (Record → Option X) → List Numbered → List X
all_of kind records = filter_map (λ (r : Numbered). kind r.says) records

-- the first that passes, what it says, and its line
abbrev pub first : (Record → Bool) → List Numbered → Option Numbered
first test records = find (λ (r : Numbered). test r.says) records

abbrev pub said : {X : Type 0} → (Record → Option X) → Option Numbered → Option X
said kind None = None
said kind (Some r) = kind r.says

abbrev pub first_line : (Record → Bool) → List Numbered → Option ℕ
first_line test records = option_map (λ (r : Numbered). r.line) (first test records)

-- ---- further descriptors

-- whether two places are one
abbrev pub is_same : Place → Place → Bool
is_same InNetwork InNetwork = true
is_same InStream InStream = true
is_same (InOther a p) (InOther b q) = a == b && p == q
is_same (InService a) (InService b) = a == b
is_same (InProgram a) (InProgram b) = a == b
is_same (InComponent a p) (InComponent b q) = a == b && p == q
is_same a b = false

-- those of a place, in the order of lines
abbrev pub said_at : Place → Record → List RawDesc
said_at place (Further there descs) = if is_same there place then descs else []
said_at place r = []

abbrev pub descriptors_at : Place → List Numbered → List RawDesc
descriptors_at place records = flat_map (λ (r : Numbered). said_at place r.says) records

-- ---- the faults of a line

abbrev pub is_network : Record → Bool
is_network r = is_some (network_in r)

abbrev pub is_stream : Record → Bool
is_stream r = is_some (stream_in r)

abbrev pub is_delivery : Record → Bool
is_delivery r = is_some (delivery_in r)

abbrev pub is_start : Record → Bool
is_start r = is_some (start_in r)

abbrev pub is_quota : Record → Bool
is_quota r = is_some (quota_in r)

abbrev pub is_rate : Record → Bool
is_rate r = is_some (rate_in r)

-- a service of whatever stream with this id
abbrev pub has_any_id : ℕ → Record → Bool
has_any_id id (Service s) = s.service == id
has_any_id id (Remote stream original s) = s.service == id
has_any_id id r = false

-- another stream with these ids; a stream with these, the own one or another
abbrev pub is_other : ℕ → ℕ → Record → Bool
is_other stream original (Elsewhere s o cable) = s == stream && o == original
is_other stream original r = false

abbrev pub has_ids : ℕ → ℕ → Record → Bool
has_ids stream original (Stream s o) = s == stream && o == original
has_ids stream original (Elsewhere s o cable) = s == stream && o == original
has_ids stream original r = false

-- an own service with this id; with this PMT PID
abbrev pub has_id : ℕ → Record → Bool
has_id id (Service s) = s.service == id
has_id id r = false

abbrev pub has_pmt : ℕ → Record → Bool
has_pmt pid (Service s) = s.pmt_pid == pid
has_pmt pid r = false

-- a component with this PID; one of this service
abbrev pub has_pid : ℕ → Record → Bool
has_pid pid (Part service c) = c.pid == pid
has_pid pid r = false

abbrev pub has_part : ℕ → ℕ → Record → Bool
has_part id pid (Part service c) = service == id && c.pid == pid
has_part id pid r = false

-- one of this service, where it has a language
abbrev pub is_spoken : ℕ → ℕ → Record → Bool
is_spoken id pid (Part service c) = service == id && (c.pid == pid && is_some c.language)
is_spoken id pid r = false

-- an ISO_639_language_descriptor (ISO/IEC 13818-1, 2.6.18)
abbrev pub is_language_descriptor : RawDesc → Bool
is_language_descriptor d = d.tag == 0x0A

-- an offset of the region of this one
abbrev pub has_region : Offset → Record → Bool
has_region offset (Local o) = is_region o offset
has_region offset r = false

-- a service whose PMT has this PID, or a component of this service that has it
abbrev pub holds : ℕ → ℕ → Record → Bool
holds id pid r = has_pmt pid r || has_part id pid r

-- no earlier stream, service or component with this place; a service of whatever stream has an entry in an SDT
abbrev pub lacks_place : List Numbered → Place → Bool
lacks_place before (InOther stream original) = not (list_any (λ (r : Numbered). is_other stream original r.says) before)
lacks_place before (InService id) = not (list_any (λ (r : Numbered). has_any_id id r.says) before)
lacks_place before (InProgram id) = not (list_any (λ (r : Numbered). has_id id r.says) before)
lacks_place before (InComponent id pid) = not (list_any (λ (r : Numbered). has_part id pid r.says) before)
lacks_place before place = false

-- the component that has a language, where these descriptors of it are one
abbrev pub spoken_at : List Numbered → Place → List RawDesc → Option ℕ
spoken_at before (InComponent id pid) descs = if list_any is_language_descriptor descs then first_line (is_spoken id pid) before else None
spoken_at before place descs = None

-- Whether the record has no place after these: it is a 65th service, or a component of no earlier service, or the
-- 17th of its service, or a 17th offset, or a 16th other stream, or a service of no earlier other stream, or the 65th
-- service of other streams, or further descriptors of no earlier other stream, service or component.
abbrev pub has_no_place : List Numbered → Record → Bool
has_no_place before (Service s) = nat_le 64 (length (all_of service_in before))
has_no_place before (Part id c) = not (list_any (λ (r : Numbered). has_id id r.says) before) || nat_le 16 (length (all_of (part_in id) before))
has_no_place before (Local o) = nat_le 16 (length (all_of local_in before))
has_no_place before (Elsewhere s o cable) = nat_le 15 (length (all_of other_in before))
has_no_place before (Remote s o service) = not (list_any (λ (r : Numbered). is_other s o r.says) before) || nat_le 64 (length (all_of remote_in before))
has_no_place before (Further place descs) = lacks_place before place
has_no_place before r = false

-- The first line that has what the record repeats. Of a service these are tried in turn: its id, its PMT PID as a PMT
-- PID, its PMT PID as a component's PID; of the stream: a stream, another stream with its ids.
abbrev pub repeated_at : List Numbered → Record → Option ℕ
repeated_at before (Network id name) = first_line is_network before
repeated_at before (Stream id original) = option_or (first_line is_stream before) (first_line (has_ids id original) before)
repeated_at before (Delivery cable) = first_line is_delivery before
repeated_at before (Service s) = option_or (first_line (has_any_id s.service) before) (option_or (first_line (has_pmt s.pmt_pid) before) (first_line (has_pid s.pmt_pid) before))
repeated_at before (Part id c) = first_line (holds id c.pid) before
repeated_at before (Start moment) = first_line is_start before
repeated_at before (Quota n) = first_line is_quota before
repeated_at before (Rate n) = first_line is_rate before
repeated_at before (Local o) = first_line (has_region o) before
repeated_at before (Elsewhere s o cable) = first_line (has_ids s o) before
repeated_at before (Remote s o service) = first_line (has_any_id service.service) before
repeated_at before (Further place descs) = spoken_at before place descs
repeated_at before End = None

-- the fault of line n behind these records
abbrev pub fault_of : List Numbered → ℕ → RecordFound → Option MuxFault
fault_of before n NoRecord = Some (fault.Line n)
fault_of before n OutOfRange = Some (fault.Range n)
fault_of before n (Is r) =
    if has_no_place before r then Some (fault.Range n)
    else option_or (option_map (fault.Twice n) (repeated_at before r)) (if is_full before r then Some (fault.Full n) else None)

-- ---- the multiplex of records

-- a service at its place among services that ascend
abbrev pub insert : MuxService → List MuxService → List MuxService
insert s [] = s ∷ []
insert s (t ∷ ts) = if nat_lt s.service t.service then s ∷ t ∷ ts else t ∷ insert s ts

abbrev pub sorted : List MuxService → List MuxService
sorted services = fold (λ (done : List MuxService) (s : MuxService). insert s done) [] services

-- a component of a service with its further descriptors among the records
abbrev pub with_descriptors : List Numbered → ℕ → Component → Component
with_descriptors records service c = record c { descriptors = descriptors_at (InComponent service c.pid) records }

-- a service with its components and its further descriptors among the records
abbrev pub with_parts : List Numbered → MuxService → MuxService
with_parts records s = record s {
  components = map (with_descriptors records s.service) (all_of (part_in s.service) records);
  descriptors = descriptors_at (InService s.service) records;
  program_descriptors = descriptors_at (InProgram s.service) records;
}

abbrev pub services_of : List Numbered → List MuxService
services_of records = map (with_parts records) (sorted (all_of service_in records))

-- a service of another stream with its further descriptors among the records
abbrev pub with_own : List Numbered → RemoteService → RemoteService
with_own records s = record s { descriptors = descriptors_at (InService s.service) records }

-- another stream with its services among the records, by ascending id, and its further descriptors
abbrev pub with_remotes : List Numbered → Other → Other
with_remotes records o = record o {
  services = map (with_own records) (all_placed has_lower_id (all_of (remote_of o.stream o.original) records) []);
  descriptors = descriptors_at (InOther o.stream o.original) records;
}

abbrev pub others_of : List Numbered → List Other
others_of records = map (with_remotes records) (all_placed comes_before (all_of other_in records) [])

abbrev pub cable_of : List Numbered → Option Cable
cable_of records = said delivery_in (first is_delivery records)

-- the start that is given, or 1970-01-01T00:00:00Z; the quota that is given, or 200
abbrev pub start_of : List Numbered → Moment
start_of records = unwrap_or (said start_in (first is_start records)) (record { 0 = 3506716800 })

abbrev pub quota_of : List Numbered → ℕ
quota_of records = unwrap_or (said quota_in (first is_quota records)) 200

-- the bit rate, where a line says it
abbrev pub rate_of : List Numbered → Option ℕ
rate_of records = said rate_in (first is_rate records)

-- the multiplex of a network, a stream and the records
abbrev pub mux_with : ℕ × List ℕ → ℕ × ℕ → List Numbered → Mux
mux_with network stream records = record {
  network = network.0;
  network_name = network.1;
  stream = stream.0;
  original = stream.1;
  cable = cable_of records;
  start = start_of records;
  quota = quota_of records;
  rate = rate_of records;
  offsets = all_of local_in records;
  services = services_of records;
  others = others_of records;
  network_descriptors = descriptors_at InNetwork records;
  stream_descriptors = descriptors_at InStream records;
}

-- ---- a description

-- what a description comes to: its multiplex, or its first fault
abbrev pub Description : Type 0
Description = Result Mux MuxFault

abbrev pub with_services : Mux → Description
with_services mux = if nat_le 1 (length mux.services) then Ok mux else Err (fault.Missing word.Service)

abbrev pub with_stream : List Numbered → ℕ × List ℕ → Option (ℕ × ℕ) → Description
with_stream records network None = Err (fault.Missing word.Stream)
with_stream records network (Some stream) = with_services (mux_with network stream records)

abbrev pub with_network : List Numbered → Option (ℕ × List ℕ) → Description
with_network records None = Err (fault.Missing word.Network)
with_network records (Some network) = with_stream records network (said stream_in (first is_stream records))

-- the description that ends with these records
abbrev pub ended : List Numbered → Description
ended records = with_network records (said network_in (first is_network records))

abbrev pub is_end : RecordFound → Bool
is_end (Is End) = true
is_end found = false

abbrev pub numbered : ℕ → Record → Numbered
numbered n r = record { line = n; says = r }

-- the records with one more
abbrev pub and_found : List Numbered → ℕ → RecordFound → List Numbered
and_found before n (Is r) = before ++ numbered n r ∷ []
and_found before n found = before

-- a line that has this fault or none, and what is read where it goes on
abbrev pub unless : Option MuxFault → Ahead → Found Description → Found Description
unless (Some f) behind next = Came (Err f) behind
unless None behind next = next

-- the description of the lines ahead, behind the records that were read; without its `end` a line is missing
abbrev pub described_from : List Numbered → List Row → Tail → Found Description
described_from before [] tail = Stopped (missing_at tail)
described_from before (row ∷ rows) tail =
    unless (fault_of before row.0 (found_line row.1)) (record { rows = rows; tail = tail })
    (if is_end (found_line row.1) then Came (ended before) (record { rows = rows; tail = tail }) else described_from (and_found before row.0 (found_line row.1)) rows tail)

-- the description ahead
abbrev pub description_ahead : Ahead → Found Description
description_ahead ahead = described_from [] ahead.rows ahead.tail

-- its fault; a text that ends before it has no `end`
abbrev pub fault_in : Found Description → Option MuxFault
fault_in (Came (Ok mux) behind) = None
fault_in (Came (Err fault) behind) = Some fault
fault_in (Stopped (NoCommand n)) = Some (fault.Missing word.End)
fault_in (Stopped stop) = None
