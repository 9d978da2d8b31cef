-- Worked descriptions.
use Rattle.std.specs.Prelude.{◌≡◌, ℕ, List, [], ◌∷◌, Option, Some, None, Ok, Err, refl, codes}
use Rattle.std.specs.Str.{chars, is_utf8}
use Rattle.input_lines.specs.Fields.{fields_compute, next_record, strip_bom}
use Rattle.guide_model.specs.declared.descriptor.RawDesc.{RawDesc}
use Rattle.guide_model.specs.declared.stream.Component.{Component}
use Rattle.si_causes.specs.Text.{AtEnd, PastLimit}
use Rattle.input_lines.specs.Ahead.{Came, Ends, Found, Row, Stopped, TooLong, ahead_in}
use Rattle.si_time.specs.Readings as times
use Rattle.input_lines.specs.Groups.{groups_compute}
use Rattle.mux_config.specs.declared.fault.Word.TheVariants.{Network, Stream, Service, End}
use Rattle.mux_config.specs.declared.fault.MuxFault.TheVariants.{Line, Range, Twice, Missing}
use Rattle.mux_model.specs.declared.mux.MuxService.{MuxService}
use Rattle.mux_model.specs.declared.mux.RemoteService.{RemoteService}
use Rattle.mux_model.specs.declared.mux.Other.{Other}
use Rattle.mux_model.specs.declared.mux.Mux.{Mux}
use Rattle.mux_model.specs.Muxes.{mux_of}
use Rattle.mux_config.specs.declared.fault.MuxFault.{MuxFault}
use Rattle.mux_config.specs.Descriptions.{Description, description_ahead, fault_in}

abbrev described : List (List ℕ) → Found Description
described lines = description_ahead (ahead_in 1 (lines, AtEnd))

abbrev fault_of_text : List (List ℕ) → Option MuxFault
fault_of_text lines = fault_in (described lines)

abbrev network_line : List ℕ
network_line = codes "network,40,Demo"

abbrev stream_line : List ℕ
stream_line = codes "stream,1,1"

abbrev service_line : List ℕ
service_line = codes "service,101,1,1,256,257,Acme,One"

abbrev end_line : List ℕ
end_line = codes "end"

abbrev service : ℕ → ℕ → ℕ → List Component → MuxService
service id pmt pcr components = record {
  service = id;
  feed = 1;
  kind = 1;
  pmt_pid = pmt;
  pcr_pid = pcr;
  provider = codes "Acme";
  name = codes "One";
  components = components;
  descriptors = [];
  program_descriptors = [];
}

abbrev stream : ℕ → ℕ → Option (List ℕ) → Component
stream kind pid language = record { stream_type = kind; pid = pid; language = language; descriptors = [] }

-- a service of another stream
abbrev remote : ℕ → RemoteService
remote id = record { service = id; feed = 1; kind = 1; provider = codes "Acme"; name = codes "Two"; descriptors = [] }

abbrev mux_with : List MuxService → Mux
mux_with = mux_of 40 (codes "Demo") 1 1 (record { 0 = 3506716800 }) 200

-- the multiplex with these services, and what is ahead behind its lines: these lines, and the end at line n
abbrev whole : List MuxService → List Row → ℕ → Found Description
whole services rows n = Came (Ok (mux_with services)) (record { rows = rows; tail = Ends n })

-- and with these other streams, where nothing is after its lines
abbrev whole_with : List MuxService → List Other → ℕ → Found Description
whole_with services others n =
    let mux : Mux = mux_with services in
    Came (Ok (record mux { others = others })) (record { rows = []; tail = Ends n })

-- four lines, and what stands behind them
demo : described (network_line ∷ stream_line ∷ service_line ∷ end_line ∷ codes "#" ∷ codes "publish" ∷ []) ≡ whole (service 101 256 257 [] ∷ []) ((6, codes "publish") ∷ []) 7
unfolding chars is_utf8 lib.Utf8.encode next_record strip_bom
demo = refl

-- in another order, with lines that are passed over
other_order : described (service_line ∷ [] ∷ network_line ∷ codes "# 1" ∷ stream_line ∷ codes "\"end\"" ∷ []) ≡ whole (service 101 256 257 [] ∷ []) [] 7
unfolding chars is_utf8 lib.Utf8.encode next_record strip_bom
other_order = refl

no_stream : fault_of_text (network_line ∷ service_line ∷ end_line ∷ []) ≡ Some (Missing Stream)
unfolding chars is_utf8 lib.Utf8.encode next_record strip_bom
no_stream = refl

-- the network is asked for first, and the service last
nothing : fault_of_text (end_line ∷ []) ≡ Some (Missing Network)
unfolding chars is_utf8 lib.Utf8.encode next_record strip_bom
nothing = refl

no_service : fault_of_text (network_line ∷ stream_line ∷ end_line ∷ []) ≡ Some (Missing Service)
unfolding chars is_utf8 lib.Utf8.encode next_record strip_bom
no_service = refl

no_end : fault_of_text (network_line ∷ stream_line ∷ []) ≡ Some (Missing End)
unfolding chars is_utf8 lib.Utf8.encode next_record strip_bom
no_end = refl

past_limit : description_ahead (ahead_in 1 (network_line ∷ stream_line ∷ [], PastLimit)) ≡ Stopped TooLong
unfolding chars is_utf8 lib.Utf8.encode next_record strip_bom
past_limit = refl

service_twice : fault_of_text (network_line ∷ stream_line ∷ service_line ∷ service_line ∷ end_line ∷ []) ≡ Some (Twice 4 3)
unfolding chars is_utf8 lib.Utf8.encode next_record strip_bom
service_twice = refl

too_few_fields : fault_of_text (codes "network,40" ∷ end_line ∷ []) ≡ Some (Line 1)
unfolding chars is_utf8 lib.Utf8.encode next_record strip_bom
too_few_fields = refl

-- a line is tried for its form, then for its ranges, then for what it repeats
form_first : fault_of_text (network_line ∷ codes "network,70000,\"\"" ∷ []) ≡ Some (Range 2)
unfolding chars is_utf8 lib.Utf8.encode next_record strip_bom
form_first = refl

no_number : fault_of_text (network_line ∷ codes "stream,70000,x" ∷ []) ≡ Some (Line 2)
unfolding chars is_utf8 lib.Utf8.encode next_record strip_bom
no_number = refl

no_moment : fault_of_text (codes "start,1970" ∷ []) ≡ Some (Range 1)
unfolding chars is_utf8 lib.Utf8.encode next_record strip_bom times.moment_in
no_moment = refl

-- the id of a service goes before the PID of its PMT, as a PMT PID and as a component's
id_first : fault_of_text (service_line ∷ codes "service,102,1,1,300,257,Acme,One" ∷ codes "service,101,1,1,300,257,Acme,One" ∷ []) ≡ Some (Twice 3 1)
unfolding chars is_utf8 lib.Utf8.encode next_record strip_bom
id_first = refl

pmt_twice : fault_of_text (service_line ∷ codes "component,101,2,300," ∷ codes "service,102,1,1,256,257,Acme,One" ∷ []) ≡ Some (Twice 3 1)
unfolding chars is_utf8 lib.Utf8.encode next_record strip_bom
pmt_twice = refl

pmt_of_component : fault_of_text (service_line ∷ codes "component,101,2,300," ∷ codes "service,102,1,1,300,257,Acme,One" ∷ []) ≡ Some (Twice 3 2)
unfolding chars is_utf8 lib.Utf8.encode next_record strip_bom
pmt_of_component = refl

component_of_pmt : fault_of_text (service_line ∷ codes "component,101,2,256," ∷ []) ≡ Some (Twice 2 1)
unfolding chars is_utf8 lib.Utf8.encode next_record strip_bom
component_of_pmt = refl

component_twice : fault_of_text (service_line ∷ codes "component,101,2,300," ∷ codes "component,101,3,300,deu" ∷ []) ≡ Some (Twice 3 2)
unfolding chars is_utf8 lib.Utf8.encode next_record strip_bom
component_twice = refl

no_such_service : fault_of_text (service_line ∷ codes "component,102,2,300," ∷ []) ≡ Some (Range 2)
unfolding chars is_utf8 lib.Utf8.encode next_record strip_bom
no_such_service = refl

-- services ascend, and have their components in their order; two may share a PID
two_services : described (codes "service,102,1,1,300,257,Acme,One" ∷ service_line ∷ codes "component,102,2,41," ∷ codes "component,101,2,41,deu" ∷ codes "component,102,3,40," ∷ network_line ∷ stream_line ∷ end_line ∷ [])
    ≡ whole (service 101 256 257 (stream 2 41 (Some (codes "deu")) ∷ []) ∷ service 102 300 257 (stream 2 41 None ∷ stream 3 40 None ∷ []) ∷ []) [] 9
unfolding chars is_utf8 lib.Utf8.encode next_record strip_bom
two_services = refl

-- ---- other streams

abbrev other_line : List ℕ
other_line = codes "other,2,1"

abbrev remote_line : List ℕ
remote_line = codes "remote,2,1,201,1,1,Acme,Two"

-- one other stream with one service
other_stream : described (network_line ∷ stream_line ∷ service_line ∷ other_line ∷ remote_line ∷ end_line ∷ [])
    ≡ whole_with (service 101 256 257 [] ∷ []) (record { stream = 2; original = 1; cable = None; services = remote 201 ∷ []; descriptors = [] } ∷ []) 7
unfolding chars is_utf8 lib.Utf8.encode next_record strip_bom
other_stream = refl

-- other streams ascend by stream and then by original, and each one's services by id
in_order : described (codes "other,3,1" ∷ codes "other,2,2,3120000,3,68750,2,15" ∷ other_line ∷ codes "remote,2,1,203,1,1,Acme,Two" ∷ codes "remote,2,2,202,1,1,Acme,Two" ∷ remote_line ∷ network_line ∷ stream_line ∷ service_line ∷ end_line ∷ [])
    ≡ whole_with (service 101 256 257 [] ∷ [])
    (record { stream = 2; original = 1; cable = None; services = remote 201 ∷ remote 203 ∷ []; descriptors = [] }
    ∷ record { stream = 2; original = 2; cable = Some (record { frequency = 3120000; modulation = 3; symbol_rate = 68750; fec_outer = 2; fec_inner = 15 }); services = remote 202 ∷ []; descriptors = [] }
    ∷ record { stream = 3; original = 1; cable = None; services = []; descriptors = [] } ∷ [])
    11
unfolding chars is_utf8 lib.Utf8.encode next_record strip_bom
in_order = refl

-- the own stream's ids, whichever line comes later
own_ids : fault_of_text (network_line ∷ stream_line ∷ codes "other,1,1" ∷ []) ≡ Some (Twice 3 2)
unfolding chars is_utf8 lib.Utf8.encode next_record strip_bom
own_ids = refl

own_later : fault_of_text (codes "other,1,1" ∷ network_line ∷ stream_line ∷ []) ≡ Some (Twice 3 1)
unfolding chars is_utf8 lib.Utf8.encode next_record strip_bom
own_later = refl

-- a second stream goes before another stream's ids
second_first : fault_of_text (codes "other,1,1" ∷ codes "stream,5,5" ∷ stream_line ∷ []) ≡ Some (Twice 3 2)
unfolding chars is_utf8 lib.Utf8.encode next_record strip_bom
second_first = refl

-- an own service and one of another stream with one id, whichever comes later
remote_of_own : fault_of_text (service_line ∷ other_line ∷ codes "remote,2,1,101,1,1,Acme,Two" ∷ []) ≡ Some (Twice 3 1)
unfolding chars is_utf8 lib.Utf8.encode next_record strip_bom
remote_of_own = refl

own_of_remote : fault_of_text (other_line ∷ codes "remote,2,1,101,1,1,Acme,Two" ∷ service_line ∷ []) ≡ Some (Twice 3 2)
unfolding chars is_utf8 lib.Utf8.encode next_record strip_bom
own_of_remote = refl

-- the own stream is no other stream
of_own_stream : fault_of_text (stream_line ∷ codes "remote,1,1,201,1,1,Acme,Two" ∷ []) ≡ Some (Range 2)
unfolding chars is_utf8 lib.Utf8.encode next_record strip_bom
of_own_stream = refl

-- one cable field of five
part_of_cable : fault_of_text (codes "other,2,1,3120000" ∷ []) ≡ Some (Line 1)
unfolding chars is_utf8 lib.Utf8.encode next_record strip_bom
part_of_cable = refl

-- ---- further descriptors

abbrev component_line : List ℕ
component_line = codes "component,101,6,258,deu"

abbrev desc : ℕ → List ℕ → RawDesc
desc tag body = record { tag = tag; body = body }

-- a body that is too short behind a good group
one_of_two : described (network_line ∷ stream_line ∷ service_line ∷ component_line ∷ codes "descriptor,component,101,258,520101 6a028042" ∷ codes "descriptor,stream,9001AA" ∷ codes "descriptor,program,101,09040B00E5DC"
    ∷ codes "descriptor,network,7F00" ∷ codes "descriptor,service,101,7300 7301" ∷ end_line ∷ [])
    ≡ Came (Err (Line 9)) (record { rows = (10, end_line) ∷ []; tail = Ends 11 })
unfolding fields_compute groups_compute
one_of_two = refl

-- each in its place, in the order of lines; those of one place may stand in several lines
every_place : described (network_line ∷ stream_line ∷ service_line ∷ component_line ∷ codes "descriptor,component,101,258,520101 6a028042" ∷ codes "descriptor,stream,9001AA" ∷ codes "descriptor,program,101,09040B00E5DC"
    ∷ codes "descriptor,network,7F00" ∷ codes "descriptor,service,101,7300" ∷ codes "descriptor,stream,9000 9001BB" ∷ end_line ∷ [])
    ≡ (let whole : MuxService = service 101 256 257 (record { stream_type = 6; pid = 258; language = Some (codes "deu"); descriptors = desc 0x52 (1 ∷ []) ∷ desc 0x6A (0x80 ∷ 0x42 ∷ []) ∷ [] } ∷ []) in
    let mux : Mux = mux_with (record whole { descriptors = desc 0x73 [] ∷ []; program_descriptors = desc 9 (0x0B ∷ 0 ∷ 0xE5 ∷ 0xDC ∷ []) ∷ [] } ∷ []) in
    Came (Ok (record mux { network_descriptors = desc 0x7F [] ∷ []; stream_descriptors = desc 0x90 (0xAA ∷ []) ∷ desc 0x90 [] ∷ desc 0x90 (0xBB ∷ []) ∷ [] })) (record { rows = []; tail = Ends 12 }))
unfolding fields_compute groups_compute
every_place = refl

-- those of another stream, and of one of its services
of_others : described (network_line ∷ stream_line ∷ service_line ∷ other_line ∷ codes "other,2,2" ∷ remote_line ∷ codes "descriptor,other,2,1,9001AA" ∷ codes "descriptor,service,201,7300" ∷ codes "descriptor,other,2,2,7F00"
    ∷ codes "descriptor,other,2,1,9000 9001BB" ∷ end_line ∷ [])
    ≡ whole_with (service 101 256 257 [] ∷ [])
    (record { stream = 2; original = 1; cable = None; services = record (remote 201) { descriptors = desc 0x73 [] ∷ [] } ∷ []; descriptors = desc 0x90 (0xAA ∷ []) ∷ desc 0x90 [] ∷ desc 0x90 (0xBB ∷ []) ∷ [] }
    ∷ record { stream = 2; original = 2; cable = None; services = []; descriptors = desc 0x7F [] ∷ [] } ∷ [])
    12
unfolding fields_compute groups_compute
of_others = refl

-- a length that does not fit; what is made there; no such service, and no such component; no such other stream, and no program of its service
too_short : fault_of_text (network_line ∷ stream_line ∷ service_line ∷ codes "descriptor,stream,5F04000028" ∷ []) ≡ Some (Line 4)
unfolding fields_compute groups_compute
too_short = refl

made_there : fault_of_text (network_line ∷ stream_line ∷ service_line ∷ codes "descriptor,stream,4103006501" ∷ []) ≡ Some (Range 4)
unfolding fields_compute groups_compute
made_there = refl

of_no_service : fault_of_text (network_line ∷ stream_line ∷ service_line ∷ codes "descriptor,service,102,7300" ∷ []) ≡ Some (Range 4)
unfolding fields_compute groups_compute
of_no_service = refl

of_no_component : fault_of_text (network_line ∷ stream_line ∷ service_line ∷ codes "descriptor,component,101,258,5200" ∷ component_line ∷ []) ≡ Some (Range 4)
unfolding fields_compute groups_compute
of_no_component = refl

-- a language descriptor of a component that has a language, and of one that has none
second_language : fault_of_text (network_line ∷ stream_line ∷ service_line ∷ component_line ∷ codes "descriptor,component,101,258,0A04656E6703" ∷ []) ≡ Some (Twice 5 4)
unfolding fields_compute groups_compute
second_language = refl

first_language : fault_of_text (network_line ∷ stream_line ∷ service_line ∷ codes "component,101,6,258," ∷ codes "descriptor,component,101,258,0A04656E6703" ∷ end_line ∷ []) ≡ None
unfolding fields_compute groups_compute
first_language = refl

of_no_other : fault_of_text (stream_line ∷ other_line ∷ codes "descriptor,other,1,1,7F00" ∷ []) ≡ Some (Range 3)
unfolding fields_compute groups_compute
of_no_other = refl

of_no_program : fault_of_text (other_line ∷ remote_line ∷ codes "descriptor,program,201,0900" ∷ []) ≡ Some (Range 3)
unfolding fields_compute groups_compute
of_no_program = refl
