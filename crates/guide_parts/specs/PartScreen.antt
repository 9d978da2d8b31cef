-- What is shown of parts (EN 300 468, 5.2).
use Rattle.std.specs.Prelude.{ℕ, Bool, true, false, not, ◌&&◌, ◌==◌, if◌then◌else◌, List, [], ◌∷◌, ◌++◌, map, filter, Option, Some, None, is_some, option_map, unwrap_or}
use Rattle.std.specs.List.{flat_map}
use Rattle.std.specs.Ordering.{nat_cmp}
use Rattle.std.specs.BTreeMap.{insert_entry}
use Rattle.guide_model.specs.declared.shown.Shown.{Shown}
use Rattle.guide_model.specs.declared.shown.Shown.TheVariants.{Text}
use Rattle.si_time.specs.declared.moment.Moment.{Moment}
use Rattle.guide_model.specs.declared.stream.Cable.{Cable}
use Rattle.guide_model.specs.declared.descriptor.RawDesc.{RawDesc}
use Rattle.guide_model.specs.declared.screen.ScreenEvent.{ScreenEvent}
use Rattle.section_codec.specs.declared.table.Key.{Key}
use Rattle.section_codec.specs.Contents.{Content}
use Rattle.section_codec.specs.Keys.{eit_numbers_in}
use Rattle.table_bodies.specs.declared.pat.PatEntry.{PatEntry}
use Rattle.table_bodies.specs.declared.pmt.HeardPmt.{HeardPmt}
use Rattle.table_bodies.specs.declared.nit.NitStream.{NitStream}
use Rattle.table_bodies.specs.declared.sdt.SdtService.{SdtService}
use Rattle.guide_screen.specs.View.{sdt_of, eit_key}
use Rattle.guide_screen.specs.Reading.{programs_in, streams_in, services_in, events_in}
use Rattle.guide_screen.specs.Needs.{last_beside, tables_to, needs}
use Rattle.guide_screen.specs.Screen.{pmt_pid, pmt_of, event_at, cable_in, descriptors_in, other_stream, is_other, network_name, network_descriptors}
use Rattle.guide_parts.specs.declared.part_screen.Listed.{Listed}
use Rattle.guide_parts.specs.declared.part_screen.PartNetwork.{PartNetwork}
use Rattle.guide_parts.specs.declared.part_screen.PartService.{PartService}
use Rattle.guide_parts.specs.declared.part_screen.PartScreen.{PartScreen}
use Rattle.guide_parts.specs.declared.part_screen.PartGuide.{PartGuide}
use Rattle.guide_parts.specs.Parts.{Parts, pat_heard, nit_heard, sdt_heard, is_own_eit, home_of, stream_by}

-- what is held of a key, where there is one
abbrev pub part_at : (Key → Content) → Option Key → Content
part_at part None = []
part_at part (Some k) = part k

-- ---- which services are shown

-- the programs of the PAT
abbrev pub programs_heard : Parts → List PatEntry
programs_heard P = programs_in (part_at P.part (pat_heard P))

-- their numbers but 0, which is not of a service (ISO/IEC 13818-1, 2.4.4.5)
abbrev pub program_ids : List PatEntry → List ℕ
program_ids es = filter (λ n. not (n == 0)) (map (λ (e : PatEntry). e.program) es)

-- the services of the own stream of which event information had a section
abbrev pub is_eit_of : Option Key → Key → Bool
is_eit_of None k = false
is_eit_of (Some home) k = is_own_eit k.table && k.stream == home.ext && k.network == home.network

abbrev pub event_ids : Option Key → List Key → List ℕ
event_ids home keys = map (λ (k : Key). k.ext) (filter (is_eit_of home) keys)

-- a service with its entry of the SDT, and one without
abbrev pub described : SdtService → Listed
described s = record { service = s.service; entry = Some s }

abbrev pub bare : ℕ → Listed
bare id = record { service = id; entry = None }

-- each service by its id, in ascending order; a repeated one once, by its first entry
abbrev pub by_id : List Listed → List (ℕ × Listed)
by_id [] = []
by_id (l ∷ ls) = insert_entry nat_cmp (by_id ls) l.service l

abbrev pub in_order : List Listed → List Listed
in_order ls = map (λ (entry : ℕ × Listed). entry.1) (by_id ls)

-- the services that the PAT and event information name; a whole SDT names all that are shown
abbrev pub ids_beside : Parts → List ℕ
ids_beside P =
    if is_some (sdt_of P.view) then [] else program_ids (programs_heard P) ++ event_ids (home_of P) P.keys

-- those that the SDT describes, and those that are named beside it
abbrev pub services_heard : Parts → List Listed
services_heard P = in_order (map described (services_in (part_at P.part (sdt_heard P))) ++ map bare (ids_beside P))

-- ---- a service

-- what is held of a table of events of a service of the own stream
abbrev pub table_held : (Key → Content) → Option Key → ℕ → ℕ → Content
table_held part None table service = []
table_held part (Some home) table service = part (eit_key home table service)

-- the last_table_id that the first of these sections tells, 0x5F at most; 0x5F where there is none
abbrev pub last_told : Content → ℕ
last_told [] = 0x5F
last_told (s ∷ ss) = last_beside 0x5F (eit_numbers_in s.body)

-- the events that are held of a table
abbrev pub events_held : (Key → Content) → Option Key → ℕ → ℕ → List ScreenEvent
events_held part home service table = events_in (table_held part home table service)

-- those of the schedule, in the order of tables and sections
abbrev pub schedule_held : (Key → Content) → Option Key → ℕ → List ScreenEvent
schedule_held part home service =
    flat_map (events_held part home service) (tables_to 0x50 (last_told (table_held part home 0x50 service)))

-- what the PMT of a service on this PID says
abbrev pub pmt_held : (Key → Content) → ℕ → Option ℕ → Option HeardPmt
pmt_held part service pid = pmt_of (λ k. Some (part k)) service pid

-- the name and the provider of a service; empty without an entry of the SDT
abbrev pub name_by : Option SdtService → Shown
name_by entry = unwrap_or (option_map (λ (s : SdtService). s.name) entry) (Text [])

abbrev pub provider_by : Option SdtService → Shown
provider_by entry = unwrap_or (option_map (λ (s : SdtService). s.provider) entry) (Text [])

-- and its further descriptors
abbrev pub descriptors_by : Option SdtService → List RawDesc
descriptors_by entry = unwrap_or (option_map (λ (s : SdtService). s.descriptors) entry) []

abbrev pub service_with : (Key → Content) → Option Key → Listed → Option ℕ → Option HeardPmt → PartService
service_with part home l pid pmt = record {
  service = l.service;
  kind = option_map (λ (s : SdtService). s.kind) l.entry;
  provider = provider_by l.entry;
  name = name_by l.entry;
  descriptors = descriptors_by l.entry;
  pmt_pid = pid;
  pcr_pid = option_map (λ p. p.pcr_pid) pmt;
  program_descriptors = unwrap_or (option_map (λ p. p.descriptors) pmt) [];
  components = unwrap_or (option_map (λ p. p.components) pmt) [];
  now = event_at 0 (table_held part home 0x4E l.service);
  next = event_at 1 (table_held part home 0x4E l.service);
  events = schedule_held part home l.service;
}

abbrev pub service_on : (Key → Content) → Option Key → Listed → Option ℕ → PartService
service_on part home l pid = service_with part home l pid (pmt_held part l.service pid)

abbrev pub part_service : (Key → Content) → List PatEntry → Option Key → Listed → PartService
part_service part es home l = service_on part home l (pmt_pid es l.service)

-- ---- the screen

abbrev pub network_with : (Key → Content) → Key → PartNetwork
network_with part nit = record { id = nit.ext; name = network_name (part nit); descriptors = network_descriptors (part nit) }

-- the cable of the own stream
abbrev pub cable_of : Option Key → List NitStream → Option Cable
cable_of None streams = None
cable_of (Some home) streams = cable_in home.ext home.network streams

-- and its further descriptors
abbrev pub stream_descriptors : Option Key → List NitStream → List RawDesc
stream_descriptors None streams = []
stream_descriptors (Some home) streams = descriptors_in home.ext home.network streams

-- an SDT of another stream than the own one
abbrev pub is_foreign : Option Key → Key → Bool
is_foreign None sdt = true
is_foreign (Some home) sdt = is_other home.ext home.network sdt

abbrev pub moment_at : ℕ → Moment
moment_at at = record { 0 = at }

-- Of other streams just what was heard whole is shown, as in a whole screen: nothing is needed of them.
abbrev pub part_screen : Parts → PartScreen
part_screen P = record {
  clock = option_map moment_at P.view.clock;
  offsets = P.view.offsets;
  network = option_map (network_with P.part) (nit_heard P);
  stream = stream_by (home_of P) (pat_heard P);
  original = option_map (λ (k : Key). k.network) (home_of P);
  cable = cable_of (home_of P) (streams_in (part_at P.part (nit_heard P)));
  stream_descriptors = stream_descriptors (home_of P) (streams_in (part_at P.part (nit_heard P)));
  services = map (part_service P.part (programs_heard P) (home_of P)) (services_heard P);
  others =
      map (other_stream P.view.content (streams_in (part_at P.part (nit_heard P))))
      (filter (is_foreign (home_of P)) P.view.others);
}

-- the needs that are not met, and what is shown all the same
abbrev pub part_guide : Parts → PartGuide
part_guide P = record { wanting = needs P.view; shown = part_screen P }
