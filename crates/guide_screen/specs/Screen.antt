-- What a receiver shows (EN 300 468, 5.2).
use Rattle.std.specs.Prelude.{◌≡◌, ◌≢◌, ◌↔◌, ℕ, Bool, not, ◌&&◌, List, [], ◌∷◌, ◌==◌, if◌then◌else◌, Option, Some, None, map, filter, option_map}
use Rattle.std.specs.Prelude.{option_and_then, unwrap_or}
use Rattle.std.specs.List.{flat_map}
use Rattle.guide_model.specs.declared.shown.Shown.{Shown}
use Rattle.guide_model.specs.declared.shown.Shown.TheVariants.{Text}
use Rattle.guide_model.specs.declared.stream.Cable.{Cable}
use Rattle.guide_model.specs.declared.descriptor.RawDesc.{RawDesc}
use Rattle.guide_model.specs.declared.screen.ScreenEvent.{ScreenEvent}
use Rattle.guide_model.specs.declared.screen.ScreenService.{ScreenService}
use Rattle.guide_model.specs.declared.screen.ScreenRemote.{ScreenRemote}
use Rattle.guide_model.specs.declared.screen.ScreenOther.{ScreenOther}
use Rattle.guide_model.specs.declared.screen.Screen.{Screen}
use Rattle.section_codec.specs.declared.table.Key.{Key}
use Rattle.section_codec.specs.Contents.{Content}
use Rattle.table_bodies.specs.declared.pat.PatEntry.{PatEntry}
use Rattle.table_bodies.specs.declared.pmt.HeardPmt.{HeardPmt}
use Rattle.table_bodies.specs.declared.nit.NitStream.{NitStream}
use Rattle.table_bodies.specs.declared.sdt.SdtService.{SdtService}
use Rattle.table_bodies.specs.declared.eit.Eit.{Eit}
use Rattle.guide_screen.specs.declared.need.Need.{Need}
use Rattle.guide_screen.specs.declared.need.Heard.{Heard}
use Rattle.guide_screen.specs.declared.need.Heard.TheVariants.{Whole, Wanting}
use Rattle.guide_screen.specs.View.{View, sections, sdt_of, pmt_key, table_at}
use Rattle.table_bodies.specs.Pmt.{pmt_in}
use Rattle.table_bodies.specs.Nit.{nit_in}
use Rattle.table_bodies.specs.Eit.{eit_in}
use Rattle.guide_screen.specs.Reading.{streams_in, services_in, events_in, value_in}
use Rattle.guide_screen.specs.Needs.{programs_of, by_service, services_of, last_table, tables_to, needs}

-- ---- a service

-- the PID of the PMT of a service, by the first entry of its program; service 0 has none
abbrev pub pid_in : ℕ → List PatEntry → Option ℕ
pid_in program [] = None
pid_in program (e ∷ es) = if e.program == program then Some e.pid else pid_in program es

abbrev pub pmt_pid : List PatEntry → ℕ → Option ℕ
pmt_pid es service = if service == 0 then None else pid_in service es

-- the PMT of a service on this PID, by its section 0
abbrev pub pmt_at : (Key → Option Content) → ℕ → ℕ → Option HeardPmt
pmt_at content service pid = value_in pmt_in 0 (sections (content (pmt_key pid service)))

abbrev pub pmt_of : (Key → Option Content) → ℕ → Option ℕ → Option HeardPmt
pmt_of content service pid = option_and_then (pmt_at content service) pid

-- the first event of the section with this number
abbrev pub first_of : List ScreenEvent → Option ScreenEvent
first_of [] = None
first_of (e ∷ es) = Some e

abbrev pub event_at : ℕ → Content → Option ScreenEvent
event_at number c = option_and_then (λ (eit : Eit). first_of eit.events) (value_in eit_in number c)

-- the events of a table
abbrev pub events_at : (Key → Option Content) → Key → ℕ → ℕ → List ScreenEvent
events_at content sdt service table = events_in (table_at content sdt service table)

-- the events of a schedule, in the order of tables and sections: of the tables from a first one to the last that the first one names, those
-- that were completed; none where that one was not
abbrev pub schedule_of : (Key → Option Content) → Key → ℕ → ℕ → ℕ → List ScreenEvent
schedule_of content sdt service first most =
    flat_map (events_at content sdt service) (tables_to first (last_table most (table_at content sdt service first)))

abbrev pub service_with : (Key → Option Content) → Key → SdtService → Option ℕ → Option HeardPmt → ScreenService
service_with content sdt s pid pmt = record {
  service = s.service;
  kind = s.kind;
  provider = s.provider;
  name = s.name;
  descriptors = s.descriptors;
  pmt_pid = pid;
  pcr_pid = option_map (λ p. p.pcr_pid) pmt;
  program_descriptors = unwrap_or (option_map (λ p. p.descriptors) pmt) [];
  components = unwrap_or (option_map (λ p. p.components) pmt) [];
  now = event_at 0 (table_at content sdt s.service 0x4E);
  next = event_at 1 (table_at content sdt s.service 0x4E);
  events = schedule_of content sdt s.service 0x50 0x5F;
}

abbrev pub service_on : (Key → Option Content) → Key → SdtService → Option ℕ → ScreenService
service_on content sdt s pid = service_with content sdt s pid (pmt_of content s.service pid)

abbrev pub screen_service : (Key → Option Content) → List PatEntry → Key → SdtService → ScreenService
screen_service content es sdt s = service_on content sdt s (pmt_pid es s.service)

-- ---- other streams

-- a service of a stream that this SDT describes; its event information stands in the tables 0x4F and 0x60 to 0x6F
abbrev pub remote_service : (Key → Option Content) → Key → SdtService → ScreenRemote
remote_service content sdt s = record {
  service = s.service;
  kind = s.kind;
  provider = s.provider;
  name = s.name;
  descriptors = s.descriptors;
  now = event_at 0 (table_at content sdt s.service 0x4F);
  next = event_at 1 (table_at content sdt s.service 0x4F);
  events = schedule_of content sdt s.service 0x60 0x6F;
}

-- the services of another stream, by ascending service_id; a repeated one once, by its first entry
abbrev pub remote_services : (Key → Option Content) → Key → List ScreenRemote
remote_services content sdt = map (remote_service content sdt) (by_service (services_in (sections (content sdt))))

-- the cable of the first entry of this stream and network
abbrev pub cable_in : ℕ → ℕ → List NitStream → Option Cable
cable_in stream original [] = None
cable_in stream original (e ∷ es) =
    if e.stream == stream && e.original == original then e.cable else cable_in stream original es

-- and its further descriptors
abbrev pub descriptors_in : ℕ → ℕ → List NitStream → List RawDesc
descriptors_in stream original [] = []
descriptors_in stream original (e ∷ es) =
    if e.stream == stream && e.original == original then e.descriptors else descriptors_in stream original es

-- the stream that this SDT describes, by these entries of the NIT
abbrev pub other_stream : (Key → Option Content) → List NitStream → Key → ScreenOther
other_stream content streams sdt = record {
  stream = sdt.ext;
  original = sdt.network;
  cable = cable_in sdt.ext sdt.network streams;
  descriptors = descriptors_in sdt.ext sdt.network streams;
  services = remote_services content sdt;
}

-- it is not the stream with these ids
abbrev pub is_other : ℕ → ℕ → Key → Bool
is_other stream original sdt = not (sdt.ext == stream && sdt.network == original)

-- the streams that these SDTs describe, without the one with these ids
abbrev pub other_streams : (Key → Option Content) → List NitStream → ℕ → ℕ → List Key → List ScreenOther
other_streams content streams stream original sdts = map (other_stream content streams) (filter (is_other stream original) sdts)

-- ---- the screen

-- the name of the network, by section 0 of the NIT
abbrev pub network_name : Content → Shown
network_name c = unwrap_or (option_map (λ nit. nit.name) (value_in nit_in 0 c)) (Text [])

-- its further descriptors, by the same
abbrev pub network_descriptors : Content → List RawDesc
network_descriptors c = unwrap_or (option_map (λ nit. nit.descriptors) (value_in nit_in 0 c)) []

abbrev pub screen : View → Key → Key → Key → ℕ → Screen
screen V pat nit sdt clock = record {
  clock = record { 0 = clock };
  offsets = V.offsets;
  network = nit.ext;
  network_name = network_name (sections (V.content nit));
  network_descriptors = network_descriptors (sections (V.content nit));
  stream = pat.ext;
  original = sdt.network;
  cable = cable_in pat.ext sdt.network (streams_in (sections (V.content nit)));
  stream_descriptors = descriptors_in pat.ext sdt.network (streams_in (sections (V.content nit)));
  services = map (screen_service V.content (programs_of V) sdt) (services_of V);
  others = other_streams V.content (streams_in (sections (V.content nit))) pat.ext sdt.network V.others;
}

-- the needs that are not met, or else the screen
abbrev pub heard_by : View → Option Key → Option Key → Option Key → Option ℕ → List Need → Heard
heard_by V (Some pat) (Some nit) (Some sdt) (Some clock) [] = Whole (screen V pat nit sdt clock)
heard_by V pat nit sdt clock wanting = Wanting wanting

abbrev pub heard_of : View → Heard
heard_of V = heard_by V V.pat V.nit (sdt_of V) V.clock (needs V)

-- ---- laws

-- What is told as wanting are the needs, and there is one.
abbrev pub WantingIsNeeds : Type 0
WantingIsNeeds = (V : View) (wanting : List Need) → heard_of V ≡ Wanting wanting
    → (wanting ≡ needs V) × (needs V ≢ [])

-- The screen is whole exactly where there is no need.
abbrev pub WholeNeedsNothing : Type 0
WholeNeedsNothing = (V : View) → ((shown : Screen) × (heard_of V ≡ Whole shown)) ↔ (needs V ≡ [])
