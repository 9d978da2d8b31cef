-- Worked guides.
use Rattle.std.specs.Prelude.{◌≡◌, ℕ, ◌*◌, Bool, true, false, [], ◌∷◌, Some, None, codes, refl}
use Rattle.std.specs.Fmt.{digits}
use Rattle.hex.specs.Hex.{encode_with}
use Rattle.si_time.specs.Moments.{moments_compute}
use Rattle.guide_model.specs.declared.shown.Shown.TheVariants.{Text, Hex}
use Rattle.guide_model.specs.declared.screen.ScreenEvent.{ScreenEvent}
use Rattle.guide_model.specs.declared.screen.ScreenService.{ScreenService}
use Rattle.guide_model.specs.declared.screen.ScreenRemote.{ScreenRemote}
use Rattle.guide_model.specs.declared.descriptor.RawDesc.{RawDesc}
use Rattle.guide_model.specs.declared.offset.Offset.{Offset}
use Rattle.guide_model.specs.declared.screen.Screen.{Screen}
use Rattle.guide_screen.specs.declared.need.Need.TheVariants.{Pat, Nit, Sdt, Clock, Pmt, Present, Schedule}
use Rattle.guide_screen.specs.declared.need.Heard.TheVariants.{Whole, Wanting}
use Rattle.guide_text.specs.Guides.{local_line, event_line, event_text, component_line, service_line, cable_line, guide_text, guide_text_with}

-- nothing was heard
row_nothing : guide_text (Wanting (Pat ∷ Nit ∷ Sdt ∷ Clock ∷ [])) ≡ codes "wanting\tpat\nwanting\tnit\nwanting\tsdt\nwanting\tclock\nend\n"
row_nothing = refl

row_wanting : guide_text (Wanting (Pmt 256 101 ∷ Present 101 ∷ Schedule 101 0x50 ∷ [])) ≡ codes "wanting\tpmt\t256\t101\nwanting\tpresent\t101\nwanting\tschedule\t101\t80\nend\n"
unfolding digits
row_wanting = refl

-- one service without events, at 1970-01-01
abbrev row_service : ScreenService
row_service = record {
  service = 101;
  kind = 1;
  provider = Text (codes "Acme");
  name = Text (codes "News");
  descriptors = [];
  pmt_pid = Some 256;
  pcr_pid = Some 257;
  program_descriptors = [];
  components = [];
  now = None;
  next = None;
  events = [];
}

abbrev row_screen : Screen
row_screen = record {
  clock = record { 0 = 3506716800 };
  offsets = [];
  network = 40;
  network_name = Text (codes "Demo");
  network_descriptors = [];
  stream = 1;
  original = 1;
  cable = None;
  stream_descriptors = [];
  services = row_service ∷ [];
  others = [];
}

row_whole : guide_text (Whole row_screen) ≡ codes "clock\t1970-01-01T00:00:00Z\nnetwork\t40\tDemo\nstream\t1\t1\nservice\t101\t1\tAcme\tNews\t256\t257\nend\n"
unfolding digits moments_compute
row_whole = refl

-- 312.0000 MHz, 64-QAM, 6.8750 Msymbol/s
row_cable : cable_line (record { frequency = 3120000; modulation = 3; symbol_rate = 68750; fec_outer = 2; fec_inner = 15 }) ≡ codes "cable\t3120000\t3\t68750\t2\t15\n"
unfolding digits
row_cable = refl

-- an event that was told whole
abbrev row_event : ScreenEvent
row_event = record {
  id = 7;
  start = record { 0 = 4257233100 };
  seconds = 6330;
  language = codes "eng";
  name = Text (codes "News");
  short = Text (codes "At noon");
  extended = Hex (0x0A ∷ 0xFF ∷ []);
  rating = Some (record { country = codes "GBR"; value = 9 });
  genres = record { level1 = 2; level2 = 0; user = 255 } ∷ record { level1 = 8; level2 = 1; user = 0 } ∷ [];
  descriptors = [];
}

row_event_line : event_line (codes "event") row_event ≡ codes "event\t7\t1993-10-13T12:45:00Z\t01:45:30\teng\tNews\tAt noon\thex:0aff\tGBR\t9\t2.0.255 8.1.0\n"
unfolding digits moments_compute encode_with
row_event_line = refl

-- one with the least: a language that is not of letters, no texts, no rating and no genres
abbrev row_bare : ScreenEvent
row_bare = record {
  id = 65535;
  start = record { 0 = 0 };
  seconds = 0;
  language = 0x65 ∷ 0x6E ∷ 0x31 ∷ [];
  name = Text [];
  short = Text [];
  extended = Text [];
  rating = None;
  genres = [];
  descriptors = [];
}

row_bare_line : event_line (codes "next") row_bare ≡ codes "next\t65535\t1858-11-17T00:00:00Z\t00:00:00\thex:656e31\t\t\t\t\t\t\n"
unfolding digits moments_compute encode_with
row_bare_line = refl

-- ---- other streams: one that is sent by cable, with a service and its following event, and one of which nothing more is known

abbrev row_remote : ScreenRemote
row_remote = record {
  service = 201;
  kind = 1;
  provider = Text (codes "Acme");
  name = Text (codes "Two");
  descriptors = [];
  now = None;
  next = Some row_bare;
  events = [];
}

abbrev row_others : Screen
row_others = record {
  clock = record { 0 = 3506716800 };
  offsets = [];
  network = 40;
  network_name = Text (codes "Demo");
  network_descriptors = [];
  stream = 1;
  original = 1;
  cable = None;
  stream_descriptors = [];
  services = [];
  others = record { stream = 2; original = 1; cable = Some (record { frequency = 3120000; modulation = 3; symbol_rate = 68750; fec_outer = 2; fec_inner = 15 }); descriptors = []; services = row_remote ∷ [] }
      ∷ record { stream = 65535; original = 0; cable = None; descriptors = []; services = [] }
      ∷ [];
}

row_with_others : guide_text (Whole row_others)
    ≡ codes "clock\t1970-01-01T00:00:00Z\nnetwork\t40\tDemo\nstream\t1\t1\nother\t2\t1\t3120000\t3\t68750\t2\t15\nremote\t201\t1\tAcme\tTwo\nnext\t65535\t1858-11-17T00:00:00Z\t00:00:00\thex:656e31\t\t\t\t\t\t\nother\t65535\t0\t\t\t\t\t\nend\n"
unfolding digits moments_compute encode_with
row_with_others = refl

-- a component with a language and one without
row_component : component_line (record { stream_type = 3; pid = 258; language = Some (codes "deu"); descriptors = [] }) ≡ codes "component\t3\t258\tdeu\n"
unfolding digits
row_component = refl

row_no_language : component_line (record { stream_type = 27; pid = 257; language = None; descriptors = [] }) ≡ codes "component\t27\t257\t\n"
unfolding digits
row_no_language = refl

-- a service that no program has, and whose name is no text
abbrev row_alone : ScreenService
row_alone = record {
  service = 5;
  kind = 0;
  provider = Text [];
  name = Hex (0x05 ∷ 0xA4 ∷ []);
  descriptors = [];
  pmt_pid = None;
  pcr_pid = None;
  program_descriptors = [];
  components = [];
  now = None;
  next = None;
  events = [];
}

row_alone_line : service_line row_alone ≡ codes "service\t5\t0\t\thex:05a4\t\t\n"
unfolding digits encode_with
row_alone_line = refl

-- ---- local time: an hour ahead of UTC, and on UTC from 1993-10-24T01:00:00Z on

abbrev row_offset : Offset
row_offset = record { country = codes "GBR"; region = 0; behind = false; minutes = 60; change = record { 0 = 4258141200 }; next = 0 }

-- at 1993-10-13T12:45:00Z, a second before the change, and at the change
row_local : local_line 4257233100 row_offset ≡ codes "local\tGBR\t0\tahead\t60\t1993-10-24T01:00:00Z\t0\t1993-10-13T13:45:00\n"
unfolding digits moments_compute
row_local = refl

row_before_change : local_line 4258141199 row_offset ≡ codes "local\tGBR\t0\tahead\t60\t1993-10-24T01:00:00Z\t0\t1993-10-24T01:59:59\n"
unfolding digits moments_compute
row_before_change = refl

row_at_change : local_line 4258141200 row_offset ≡ codes "local\tGBR\t0\tahead\t60\t1993-10-24T01:00:00Z\t0\t1993-10-24T01:00:00\n"
unfolding digits moments_compute
row_at_change = refl

-- behind UTC by five hours and a half; in the first hours of the range no local time is told, nor in the last ones ahead of UTC
abbrev row_behind : Bool → Offset
row_behind behind = record { country = codes "USA"; region = 1; behind = behind; minutes = 330; change = record { 0 = 5662310399 }; next = 0 }

row_behind_line : local_line 19800 (row_behind true) ≡ codes "local\tUSA\t1\tbehind\t330\t2038-04-22T23:59:59Z\t0\t1858-11-17T00:00:00\n"
unfolding digits moments_compute
row_behind_line = refl

row_too_early : local_line 19799 (row_behind true) ≡ codes "local\tUSA\t1\tbehind\t330\t2038-04-22T23:59:59Z\t0\t\n"
unfolding digits moments_compute
row_too_early = refl

row_too_late : local_line 5662310000 (row_behind false) ≡ codes "local\tUSA\t1\tahead\t330\t2038-04-22T23:59:59Z\t0\t\n"
unfolding digits moments_compute
row_too_late = refl

-- ---- details: logical channel 1 of service 101 under the specifier of EACEM, in the entry of the stream; a default authority of the service;
-- a CA descriptor of its program; an AC-3 descriptor of a component; the series link of an event

abbrev specifier : RawDesc
specifier = record { tag = 0x5F; body = 0x00 ∷ 0x00 ∷ 0x00 ∷ 0x28 ∷ [] }

abbrev channels : RawDesc
channels = record { tag = 0x83; body = 0x00 ∷ 0x65 ∷ 0xFC ∷ 0x01 ∷ [] }

abbrev linkage : RawDesc
linkage = record { tag = 0x4A; body = 0x00 ∷ 0x01 ∷ 0x00 ∷ 0x01 ∷ 0x00 ∷ 0x65 ∷ 0x02 ∷ [] }

abbrev authority : RawDesc
authority = record { tag = 0x73; body = codes "example.com" }

abbrev access : RawDesc
access = record { tag = 0x09; body = 0x0B ∷ 0x00 ∷ 0xE5 ∷ 0xDC ∷ [] }

abbrev ac3 : RawDesc
ac3 = record { tag = 0x6A; body = 0x80 ∷ 0x42 ∷ [] }

abbrev series : RawDesc
series = record { tag = 0x76; body = 0xC8 ∷ 0x03 ∷ 0x2F ∷ 0x53 ∷ 0x32 ∷ [] }

abbrev row_described : Screen
row_described = record row_screen {
  network_descriptors = linkage ∷ [];
  stream_descriptors = specifier ∷ channels ∷ [];
  services = record row_service {
    descriptors = authority ∷ [];
    program_descriptors = access ∷ [];
    components = record { stream_type = 6; pid = 258; language = Some (codes "deu"); descriptors = ac3 ∷ [] } ∷ [];
    next = Some (record row_bare { descriptors = series ∷ [] });
  }
      ∷ [];
}

row_details : guide_text_with true (Whole row_described)
    ≡ codes "clock\t1970-01-01T00:00:00Z\nnetwork\t40\tDemo\ndescriptor\t4a0700010001006502\nstream\t1\t1\ndescriptor\t5f0400000028\ndescriptor\t83040065fc01\nservice\t101\t1\tAcme\tNews\t256\t257\ndescriptor\t730b6578616d706c652e636f6d\nprogram\t09040b00e5dc\ncomponent\t6\t258\tdeu\ndescriptor\t6a028042\nnext\t65535\t1858-11-17T00:00:00Z\t00:00:00\thex:656e31\t\t\t\t\t\t\ndescriptor\t7605c8032f5332\nend\n"
unfolding digits moments_compute encode_with
row_details = refl

-- without details they are not printed
row_no_details : guide_text (Whole (record row_screen { network_descriptors = linkage ∷ []; stream_descriptors = specifier ∷ channels ∷ [] })) ≡ guide_text (Whole row_screen)
unfolding digits moments_compute
row_no_details = refl
