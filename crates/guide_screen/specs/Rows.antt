-- Worked screens and needs.
use Rattle.std.specs.Prelude.{◌≡◌, ℕ, true, List, [], ◌∷◌, if◌then◌else◌, Option, Some, None, refl, codes}
use Rattle.std.specs.Str.{chars}
use Rattle.guide_model.specs.declared.shown.Shown.TheVariants.{Text}
use Rattle.si_time.specs.Readings.{moment_from_bcd, duration_from_bcd}
use Rattle.guide_model.specs.declared.screen.ScreenEvent.{ScreenEvent}
use Rattle.guide_model.specs.declared.screen.Screen.{Screen}
use Rattle.guide_model.specs.declared.screen.ScreenOther.{ScreenOther}
use Rattle.section_codec.specs.declared.table.Key.{Key}
use Rattle.section_codec.specs.KeyOrder.{is_key}
use Rattle.section_codec.specs.Contents.{Content}
use Rattle.table_bodies.specs.declared.sdt.SdtService.{SdtService}
use Rattle.table_bodies.specs.declared.eit.Eit.{Eit}
use Rattle.guide_screen.specs.declared.need.Need.TheVariants.{Pat, Nit, Sdt, Clock, Pmt, Present, Schedule}
use Rattle.guide_screen.specs.declared.need.Heard.TheVariants.{Whole, Wanting}
use Rattle.guide_screen.specs.View.{View, pmt_key, eit_key}
use Rattle.table_bodies.specs.Pmt.{pmt_in}
use Rattle.table_bodies.specs.Nit.{nit_in}
use Rattle.table_bodies.specs.Sdt.{sdt_in}
use Rattle.table_bodies.specs.Eit.{eit_in}
use Rattle.guide_screen.specs.Needs.{by_service}
use Rattle.guide_screen.specs.Screen.{heard_of}

-- ---- bodies that are read, and bodies that are cut

read_pmt : pmt_in
    (0xE1 ∷ 0x01 ∷ 0xF0 ∷ 0x02 ∷ 0x7F ∷ 0x00
    ∷ 0x03 ∷ 0xE2 ∷ 0x02 ∷ 0xF0 ∷ 0x06 ∷ 0x0A ∷ 0x04 ∷ 0x65 ∷ 0x6E ∷ 0x67 ∷ 0x00 ∷ [])
    ≡ Some (record { pcr_pid = 257; descriptors = record { tag = 0x7F; body = [] } ∷ []; components = record { stream_type = 3; pid = 514; language = Some (codes "eng"); descriptors = [] } ∷ [] })
unfolding chars
read_pmt = refl

cut_pmt : pmt_in (0xE1 ∷ 0x01 ∷ 0xF0 ∷ 0x00 ∷ 0x02 ∷ 0xE2 ∷ 0x01 ∷ 0xF0 ∷ []) ≡ None
cut_pmt = refl

-- transport_stream_loop_length leaves a byte over
left_over_nit : nit_in (0xF0 ∷ 0x00 ∷ 0xF0 ∷ 0x00 ∷ 0x00 ∷ []) ≡ None
left_over_nit = refl

-- the descriptor runs past the end of its loop
past_sdt : sdt_in (0x00 ∷ 0x01 ∷ 0xFF ∷ 0x00 ∷ 0x02 ∷ 0xFE ∷ 0x80 ∷ 0x05 ∷ 0x48 ∷ 0x04 ∷ 0x01 ∷ 0x00 ∷ 0x00 ∷ []) ≡ None
past_sdt = refl

-- event 7 at 13:00:00 of day 0xC079, of half an hour, without a descriptor; and at 24:00:00, which is no time
abbrev bare : ScreenEvent
bare = record {
  id = 7;
  start = record { 0 = 4257234000 };
  seconds = 1800;
  language = codes "und";
  name = Text [];
  short = Text [];
  extended = Text [];
  rating = None;
  genres = [];
  descriptors = [];
}

abbrev eit : Eit
eit = record { head = record { stream = 0x0405; original = 0x233A; segment_last = 7; last_table = 0x51 }; events = bare ∷ [] }

read_eit : eit_in
    (0x04 ∷ 0x05 ∷ 0x23 ∷ 0x3A ∷ 0x07 ∷ 0x51
    ∷ 0x00 ∷ 0x07 ∷ 0xC0 ∷ 0x79 ∷ 0x13 ∷ 0x00 ∷ 0x00 ∷ 0x00 ∷ 0x30 ∷ 0x00 ∷ 0xF0 ∷ 0x00 ∷ []) ≡ Some eit
unfolding moment_from_bcd duration_from_bcd
read_eit = refl

no_time : eit_in
    (0x04 ∷ 0x05 ∷ 0x23 ∷ 0x3A ∷ 0x07 ∷ 0x51
    ∷ 0x00 ∷ 0x07 ∷ 0xC0 ∷ 0x79 ∷ 0x24 ∷ 0x00 ∷ 0x00 ∷ 0x00 ∷ 0x30 ∷ 0x00 ∷ 0xF0 ∷ 0x00 ∷ []) ≡ None
unfolding moment_from_bcd duration_from_bcd
no_time = refl

-- ---- the tables of service 101 of stream 1 in network 40, which has no event

abbrev pat_key : Key
pat_key = record { pid = 0; table = 0x00; ext = 1; stream = 0; network = 0 }

abbrev nit_key : Key
nit_key = record { pid = 0x10; table = 0x40; ext = 40; stream = 0; network = 0 }

abbrev sdt_key : Key
sdt_key = record { pid = 0x11; table = 0x42; ext = 1; stream = 0; network = 1 }

abbrev one_body : List ℕ → Content
one_body body = record { number = 0; body = body } ∷ []

-- program 0 on PID 0x0010, and program 101 on PID 256
abbrev pat : Key × Content
pat = (pat_key, one_body (0x00 ∷ 0x00 ∷ 0xE0 ∷ 0x10 ∷ 0x00 ∷ 0x65 ∷ 0xE1 ∷ 0x00 ∷ []))

-- its clock on PID 257, and no component
abbrev pmt : Key × Content
pmt = (pmt_key 256 101, one_body (0xE1 ∷ 0x01 ∷ 0xF0 ∷ 0x00 ∷ []))

-- the network Demo
abbrev nit : Key × Content
nit = (
  nit_key,
  one_body
      (0xF0 ∷ 0x06 ∷ 0x40 ∷ 0x04 ∷ 0x44 ∷ 0x65 ∷ 0x6D ∷ 0x6F
      ∷ 0xF0 ∷ 0x0B ∷ 0x00 ∷ 0x01 ∷ 0x00 ∷ 0x01 ∷ 0xF0 ∷ 0x05 ∷ 0x41 ∷ 0x03 ∷ 0x00 ∷ 0x65 ∷ 0x01 ∷ []),
)

-- News of Acme, with these flags
abbrev sdt_with : ℕ → Key × Content
sdt_with flags = (
  sdt_key,
  one_body
      (0x00 ∷ 0x01 ∷ 0xFF ∷ 0x00 ∷ 0x65 ∷ flags ∷ 0x80 ∷ 0x0D
      ∷ 0x48 ∷ 0x0B ∷ 0x01 ∷ 0x04 ∷ 0x41 ∷ 0x63 ∷ 0x6D ∷ 0x65 ∷ 0x04 ∷ 0x4E ∷ 0x65 ∷ 0x77 ∷ 0x73 ∷ []),
)

abbrev eit_body : ℕ → ℕ → List ℕ
eit_body segment_last last_table = 0x00 ∷ 0x01 ∷ 0x00 ∷ 0x01 ∷ segment_last ∷ last_table ∷ []

abbrev present : Key × Content
present = (eit_key sdt_key 0x4E 101, record { number = 0; body = eit_body 1 0x4E } ∷ record { number = 1; body = eit_body 1 0x4E } ∷ [])

-- the first table of the schedule, which tells this last_table_id
abbrev schedule_to : ℕ → Key × Content
schedule_to last_table = (eit_key sdt_key 0x50 101, one_body (eit_body 0 last_table))

-- a receiver that has just these contents, and heard the time
abbrev content_among : List (Key × Content) → Key → Option Content
content_among [] k = None
content_among (c ∷ cs) k = if is_key c.0 k then Some c.1 else content_among cs k

abbrev having : List (Key × Content) → View
having cs = record {
  content = content_among cs;
  pat = Some pat_key;
  nit = Some nit_key;
  sdt = λ ext. Some sdt_key;
  others = [];
  clock = Some 4257234000;
  offsets = [];
}

-- ---- screens

-- what is shown of it, with these events of its schedule, and with these other streams
abbrev shown_beside : List ScreenOther → List ScreenEvent → Screen
shown_beside others events = record {
  clock = record { 0 = 4257234000 };
  offsets = [];
  network = 40;
  network_name = Text (codes "Demo");
  network_descriptors = [];
  stream = 1;
  original = 1;
  cable = None;
  stream_descriptors = [];
  services = record {
    service = 101;
    kind = 1;
    provider = Text (codes "Acme");
    name = Text (codes "News");
    descriptors = [];
    pmt_pid = Some 256;
    pcr_pid = Some 257;
    program_descriptors = [];
    components = [];
    now = None;
    next = None;
    events = events;
  }
      ∷ [];
  others = others;
}

abbrev shown_with : List ScreenEvent → Screen
shown_with events = shown_beside [] events

whole : heard_of (having (pat ∷ pmt ∷ nit ∷ sdt_with 0xFF ∷ present ∷ schedule_to 0x50 ∷ [])) ≡ Whole (shown_with [])
unfolding chars
whole = refl

-- event information is not needed where the flags do not tell it, and is shown all the same where it was heard
not_told : heard_of (having (pat ∷ pmt ∷ nit ∷ sdt_with 0xFC ∷ [])) ≡ Whole (shown_with [])
unfolding chars
not_told = refl

abbrev one_event : Key × Content
one_event = (
  eit_key sdt_key 0x50 101,
  one_body
      (0x00 ∷ 0x01 ∷ 0x00 ∷ 0x01 ∷ 0x00 ∷ 0x50 ∷ 0x00 ∷ 0x07 ∷ 0xC0 ∷ 0x79 ∷ 0x13 ∷ 0x00 ∷ 0x00 ∷ 0x00 ∷ 0x30 ∷ 0x00 ∷ 0x00 ∷ 0x00 ∷ []),
)

shown_all_the_same : heard_of (having (pat ∷ pmt ∷ nit ∷ sdt_with 0xFC ∷ one_event ∷ [])) ≡ Whole (shown_with (bare ∷ []))
unfolding chars moment_from_bcd duration_from_bcd
shown_all_the_same = refl

-- ---- other streams

abbrev other_key : ℕ → ℕ → Key
other_key stream network = record { pid = 0x11; table = 0x46; ext = stream; stream = 0; network = network }

-- an SDT of table 0x46 with service 201, Two of Acme
abbrev other_sdt : ℕ → ℕ → Key × Content
other_sdt stream network = (
  other_key stream network,
  one_body
      (0x00 ∷ network ∷ 0xFF ∷ 0x00 ∷ 0xC9 ∷ 0xFF ∷ 0x80 ∷ 0x0C
      ∷ 0x48 ∷ 0x0A ∷ 0x01 ∷ 0x04 ∷ 0x41 ∷ 0x63 ∷ 0x6D ∷ 0x65 ∷ 0x03 ∷ 0x54 ∷ 0x77 ∷ 0x6F ∷ []),
)

-- a schedule of service 201 of stream 2 of network 1, with one event in the table after its first, which names that table as the last
abbrev remote_first : ℕ → Key × Content
remote_first last_table = (eit_key (other_key 2 1) 0x60 201, one_body (0x00 ∷ 0x02 ∷ 0x00 ∷ 0x01 ∷ 0x00 ∷ last_table ∷ []))

abbrev remote_second : Key × Content
remote_second = (
  eit_key (other_key 2 1) 0x61 201,
  one_body
      (0x00 ∷ 0x02 ∷ 0x00 ∷ 0x01 ∷ 0x00 ∷ 0x61 ∷ 0x00 ∷ 0x07 ∷ 0xC0 ∷ 0x79 ∷ 0x13 ∷ 0x00 ∷ 0x00 ∷ 0x00 ∷ 0x30 ∷ 0x00 ∷ 0x00 ∷ 0x00 ∷ []),
)

-- the same event as the following one, in section 1 of table 0x4F
abbrev remote_present : Key × Content
remote_present = (
  eit_key (other_key 2 1) 0x4F 201,
  record { number = 0; body = 0x00 ∷ 0x02 ∷ 0x00 ∷ 0x01 ∷ 0x01 ∷ 0x4F ∷ [] }
      ∷ record {
        number = 1;
        body = 0x00 ∷ 0x02 ∷ 0x00 ∷ 0x01 ∷ 0x01 ∷ 0x4F ∷ 0x00 ∷ 0x07 ∷ 0xC0 ∷ 0x79 ∷ 0x13 ∷ 0x00 ∷ 0x00 ∷ 0x00 ∷ 0x30 ∷ 0x00 ∷ 0x00 ∷ 0x00 ∷ [];
      }
      ∷ [],
)

-- a receiver that has the tables of service 101, those of other streams, and the keys of their SDTs
abbrev having_others : List Key → List (Key × Content) → View
having_others others more = record {
  content = content_among (pat ∷ pmt ∷ nit ∷ sdt_with 0xFC ∷ more);
  pat = Some pat_key;
  nit = Some nit_key;
  sdt = λ ext. Some sdt_key;
  others = others;
  clock = Some 4257234000;
  offsets = [];
}

abbrev stream_shown : ℕ → ℕ → Option ScreenEvent → List ScreenEvent → ScreenOther
stream_shown stream network next events = record {
  stream = stream;
  original = network;
  cable = None;
  descriptors = [];
  services = record {
    service = 201;
    kind = 1;
    provider = Text (codes "Acme");
    name = Text (codes "Two");
    descriptors = [];
    now = None;
    next = next;
    events = events;
  }
      ∷ [];
}

-- the SDT of table 0x46 that describes the own stream, with the ids 1 and 1, is not shown; one that has one id in common with it is
others_shown : heard_of (having_others (other_key 1 1 ∷ other_key 1 2 ∷ other_key 2 1 ∷ []) (other_sdt 1 1 ∷ other_sdt 1 2 ∷ other_sdt 2 1 ∷ []))
    ≡ Whole (shown_beside (stream_shown 1 2 None [] ∷ stream_shown 2 1 None [] ∷ []) [])
unfolding chars
others_shown = refl

-- with its following event and the event of its schedule
remote_shown : heard_of (having_others (other_key 2 1 ∷ []) (other_sdt 2 1 ∷ remote_present ∷ remote_first 0x61 ∷ remote_second ∷ []))
    ≡ Whole (shown_beside (stream_shown 2 1 (Some bare) (bare ∷ []) ∷ []) [])
unfolding chars moment_from_bcd duration_from_bcd
remote_shown = refl

-- a table after the last one that the first names is not shown, nor is one without the first
above_last : heard_of (having_others (other_key 2 1 ∷ []) (other_sdt 2 1 ∷ remote_first 0x60 ∷ remote_second ∷ []))
    ≡ Whole (shown_beside (stream_shown 2 1 None [] ∷ []) [])
unfolding chars
above_last = refl

without_first : heard_of (having_others (other_key 2 1 ∷ []) (other_sdt 2 1 ∷ remote_second ∷ []))
    ≡ Whole (shown_beside (stream_shown 2 1 None [] ∷ []) [])
unfolding chars
without_first = refl

-- event information of a stream without an SDT is not shown
not_described : heard_of (having_others [] (remote_present ∷ remote_first 0x61 ∷ remote_second ∷ [])) ≡ Whole (shown_with [])
unfolding chars
not_described = refl

-- ---- needs

nothing : heard_of (record { content = λ k. None; pat = None; nit = None; sdt = λ ext. None; others = []; clock = None; offsets = [] })
    ≡ Wanting (Pat ∷ Nit ∷ Sdt ∷ Clock ∷ [])
nothing = refl

-- without the PMT
no_pmt : heard_of (having (pat ∷ nit ∷ sdt_with 0xFF ∷ present ∷ schedule_to 0x50 ∷ [])) ≡ Wanting (Pmt 256 101 ∷ [])
unfolding chars
no_pmt = refl

-- without event information, by the flags of the service: it is wanted where it is told to be sent
no_events : heard_of (having (pat ∷ pmt ∷ nit ∷ sdt_with 0xFF ∷ [])) ≡ Wanting (Present 101 ∷ Schedule 101 0x50 ∷ [])
unfolding chars
no_events = refl

no_schedule : heard_of (having (pat ∷ pmt ∷ nit ∷ sdt_with 0xFE ∷ [])) ≡ Wanting (Schedule 101 0x50 ∷ [])
unfolding chars
no_schedule = refl

-- the first table of the schedule tells two more
further : heard_of (having (pat ∷ pmt ∷ nit ∷ sdt_with 0xFF ∷ present ∷ schedule_to 0x52 ∷ []))
    ≡ Wanting (Schedule 101 0x51 ∷ Schedule 101 0x52 ∷ [])
unfolding chars
further = refl

-- ---- services

abbrev entry : ℕ → ℕ → SdtService
entry id kind = record { service = id; schedule = true; present = true; kind = kind; provider = Text []; name = Text []; descriptors = [] }

ascending : by_service (entry 5 1 ∷ entry 3 2 ∷ entry 5 3 ∷ entry 4 4 ∷ []) ≡ entry 3 2 ∷ entry 4 4 ∷ entry 5 1 ∷ []
ascending = refl
