-- The text of a guide: the table of its lines.
use Rattle.std.specs.Prelude.{ℕ, ◌+◌, ◌-◌, ◌*◌, ◌++◌, List, [], ◌∷◌, take, Bool, false, if◌then◌else◌, nat_le, Option, Some, None, codes, decimal, flat_map}
use Rattle.std.specs.List.{join_with_byte}
use Rattle.guide_model.specs.declared.event.Rating.{Rating}
use Rattle.guide_model.specs.declared.offset.Offset.{Offset}
use Rattle.guide_model.specs.declared.stream.Cable.{Cable}
use Rattle.guide_model.specs.declared.descriptor.RawDesc.{RawDesc}
use Rattle.guide_model.specs.declared.screen.ScreenComponent.{ScreenComponent}
use Rattle.guide_model.specs.declared.screen.ScreenEvent.{ScreenEvent}
use Rattle.guide_model.specs.declared.screen.ScreenService.{ScreenService}
use Rattle.guide_model.specs.declared.screen.ScreenRemote.{ScreenRemote}
use Rattle.guide_model.specs.declared.screen.ScreenOther.{ScreenOther}
use Rattle.guide_model.specs.declared.screen.Screen.{Screen}
use Rattle.guide_screen.specs.declared.need.Need.{Need}
use Rattle.guide_screen.specs.declared.need.Need.TheVariants.{Pat, Nit, Sdt, Clock, Pmt, Present, Schedule}
use Rattle.guide_screen.specs.declared.need.Heard.{Heard}
use Rattle.guide_screen.specs.declared.need.Heard.TheVariants.{Whole, Wanting}
use Rattle.guide_model.specs.Genres.{genres_text}
use Rattle.guide_model.specs.Descriptors.{descriptor_text}
use Rattle.guide_text.specs.Fields.{shown_text, code_text, moment_field, duration_field, optional}

-- a line of fields, the first of which is its word: with tabs (9) between, and LF at its end
abbrev pub line : List (List ℕ) → List ℕ
line fields = join_with_byte 9 fields ++ codes "\n"

-- ---- further descriptors

abbrev pub descriptor_line : List ℕ → RawDesc → List ℕ
descriptor_line word d = line (word ∷ descriptor_text d ∷ [])

-- with details a line for each descriptor that no field shows whole
abbrev pub details_text : Bool → List ℕ → List RawDesc → List ℕ
details_text details word ds = if details then flat_map (descriptor_line word) ds else []

-- ---- needs

abbrev pub need_fields : Need → List (List ℕ)
need_fields Pat = codes "pat" ∷ []
need_fields Nit = codes "nit" ∷ []
need_fields Sdt = codes "sdt" ∷ []
need_fields Clock = codes "clock" ∷ []
need_fields (Pmt pid program) = codes "pmt" ∷ decimal pid ∷ decimal program ∷ []
need_fields (Present service) = codes "present" ∷ decimal service ∷ []
need_fields (Schedule service table) = codes "schedule" ∷ decimal service ∷ decimal table ∷ []

abbrev pub need_line : Need → List ℕ
need_line need = line (codes "wanting" ∷ need_fields need)

-- ---- events

abbrev pub country_text : Rating → List ℕ
country_text rating = code_text rating.country

abbrev pub value_text : Rating → List ℕ
value_text rating = decimal rating.value

-- id, start, duration, language, name, short text, extended text, country, rating and genres
abbrev pub event_fields : ScreenEvent → List (List ℕ)
event_fields e =
    decimal e.id ∷ moment_field e.start.0 ∷ duration_field e.seconds ∷ code_text e.language
    ∷ shown_text e.name ∷ shown_text e.short ∷ shown_text e.extended
    ∷ optional country_text e.rating ∷ optional value_text e.rating ∷ genres_text e.genres ∷ []

-- `now` of the present event, `next` of the following one, `event` of one of the schedule
abbrev pub event_line : List ℕ → ScreenEvent → List ℕ
event_line word e = line (word ∷ event_fields e)

abbrev pub event_text : Bool → List ℕ → ScreenEvent → List ℕ
event_text details word e = event_line word e ++ details_text details (codes "descriptor") e.descriptors

-- ---- services

-- stream_type, PID and language
abbrev pub component_line : ScreenComponent → List ℕ
component_line c = line (codes "component" ∷ decimal c.stream_type ∷ decimal c.pid ∷ optional code_text c.language ∷ [])

abbrev pub component_text : Bool → ScreenComponent → List ℕ
component_text details c = component_line c ++ details_text details (codes "descriptor") c.descriptors

-- service_id, service_type, provider, name, and the PIDs of its PMT and its PCR
abbrev pub service_line : ScreenService → List ℕ
service_line s =
    line (codes "service" ∷ decimal s.service ∷ decimal s.kind ∷ shown_text s.provider ∷ shown_text s.name
    ∷ optional decimal s.pmt_pid ∷ optional decimal s.pcr_pid ∷ [])

-- the further descriptors of a service in the SDT, and those of its program in the PMT
abbrev pub service_details : Bool → List RawDesc → List RawDesc → List ℕ
service_details details ds program = details_text details (codes "descriptor") ds ++ details_text details (codes "program") program

-- a service, its components, and its events
abbrev pub service_text : Bool → ScreenService → List ℕ
service_text details s =
    service_line s ++ service_details details s.descriptors s.program_descriptors ++ flat_map (component_text details) s.components
    ++ optional (event_text details (codes "now")) s.now ++ optional (event_text details (codes "next")) s.next
    ++ flat_map (event_text details (codes "event")) s.events

-- ---- the screen

abbrev pub clock_line : ℕ → List ℕ
clock_line at = line (codes "clock" ∷ moment_field at ∷ [])

-- ---- local time

abbrev pub side_text : Bool → List ℕ
side_text behind = if behind then codes "behind" else codes "ahead"

-- the minutes that apply at a moment: `next` from the change on
abbrev pub minutes_at : ℕ → Offset → ℕ
minutes_at at o = if nat_le o.change.0 at then o.next else o.minutes

-- the moment on the clocks of the region; none before Modified Julian Date 0
abbrev pub local_moment : ℕ → Offset → Option ℕ
local_moment at o =
    if o.behind then (if nat_le (60 * minutes_at at o) at then Some (at - 60 * minutes_at at o) else None) else Some (at + 60 * minutes_at at o)

-- YYYY-MM-DDThh:mm:ss, without the Z of UTC
abbrev pub local_text : ℕ → List ℕ
local_text at = take 19 (moment_field at)

-- country, region, side, minutes, the moment of the change, the minutes from then on, and the local time
abbrev pub local_line : ℕ → Offset → List ℕ
local_line at o =
    line (codes "local" ∷ code_text o.country ∷ decimal o.region ∷ side_text o.behind ∷ decimal o.minutes ∷ moment_field o.change.0
    ∷ decimal o.next ∷ optional local_text (local_moment at o) ∷ [])

-- network_id and name
abbrev pub network_line : Screen → List ℕ
network_line s = line (codes "network" ∷ decimal s.network ∷ shown_text s.network_name ∷ [])

-- transport_stream_id and original_network_id
abbrev pub stream_line : Screen → List ℕ
stream_line s = line (codes "stream" ∷ decimal s.stream ∷ decimal s.original ∷ [])

-- frequency, modulation, symbol rate, outer and inner error protection
abbrev pub cable_fields : Option Cable → List (List ℕ)
cable_fields cable =
    optional (λ (c : Cable). decimal c.frequency) cable ∷ optional (λ (c : Cable). decimal c.modulation) cable
    ∷ optional (λ (c : Cable). decimal c.symbol_rate) cable ∷ optional (λ (c : Cable). decimal c.fec_outer) cable
    ∷ optional (λ (c : Cable). decimal c.fec_inner) cable ∷ []

abbrev pub cable_line : Cable → List ℕ
cable_line c = line (codes "cable" ∷ cable_fields (Some c))

-- ---- other streams

-- transport_stream_id, original_network_id, and the fields of a cable
abbrev pub other_line : ScreenOther → List ℕ
other_line o = line (codes "other" ∷ decimal o.stream ∷ decimal o.original ∷ cable_fields o.cable)

-- service_id, service_type, provider and name
abbrev pub remote_line : ScreenRemote → List ℕ
remote_line s = line (codes "remote" ∷ decimal s.service ∷ decimal s.kind ∷ shown_text s.provider ∷ shown_text s.name ∷ [])

-- a service of another stream, and its events
abbrev pub remote_text : Bool → ScreenRemote → List ℕ
remote_text details s =
    remote_line s ++ details_text details (codes "descriptor") s.descriptors
    ++ optional (event_text details (codes "now")) s.now ++ optional (event_text details (codes "next")) s.next
    ++ flat_map (event_text details (codes "event")) s.events

-- another stream, and its services
abbrev pub other_text : Bool → ScreenOther → List ℕ
other_text details o = other_line o ++ details_text details (codes "descriptor") o.descriptors ++ flat_map (remote_text details) o.services

-- ---- the whole screen

abbrev pub network_text : Bool → Screen → List ℕ
network_text details s = network_line s ++ details_text details (codes "descriptor") s.network_descriptors

abbrev pub stream_text : Bool → Screen → List ℕ
stream_text details s = stream_line s ++ optional cable_line s.cable ++ details_text details (codes "descriptor") s.stream_descriptors

abbrev pub screen_text : Bool → Screen → List ℕ
screen_text details s =
    clock_line s.clock.0 ++ flat_map (local_line s.clock.0) s.offsets ++ network_text details s ++ stream_text details s
    ++ flat_map (service_text details) s.services ++ flat_map (other_text details) s.others

-- ---- the guide

abbrev pub guide_lines : Bool → Heard → List ℕ
guide_lines details (Whole shown) = screen_text details shown
guide_lines details (Wanting wanting) = flat_map need_line wanting

-- the whole screen, with details or without, or the needs that are not met; and then `end`
abbrev pub guide_text_with : Bool → Heard → List ℕ
guide_text_with details heard = guide_lines details heard ++ line (codes "end" ∷ [])

abbrev pub guide_text : Heard → List ℕ
guide_text heard = guide_text_with false heard
