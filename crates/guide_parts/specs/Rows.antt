-- Worked screens of parts.
use Rattle.std.specs.Prelude.{◌≡◌, ℕ, List, [], ◌∷◌, map, if◌then◌else◌, Option, Some, None, refl, codes}
use Rattle.std.specs.Str.{chars}
use Rattle.guide_model.specs.declared.shown.Shown.{Shown}
use Rattle.guide_model.specs.declared.shown.Shown.TheVariants.{Text}
use Rattle.si_time.specs.Readings.{moment_from_bcd, duration_from_bcd}
use Rattle.guide_model.specs.declared.screen.ScreenEvent.{ScreenEvent}
use Rattle.section_codec.specs.declared.table.Key.{Key}
use Rattle.section_codec.specs.KeyOrder.{is_key}
use Rattle.section_codec.specs.Contents.{Content}
use Rattle.guide_screen.specs.declared.need.Need.TheVariants.{Pat, Nit, Sdt, Clock, Pmt}
use Rattle.guide_screen.specs.View.{sections, eit_key}
use Rattle.guide_parts.specs.declared.part_screen.PartService.{PartService}
use Rattle.guide_parts.specs.declared.part_screen.PartScreen.{PartScreen}
use Rattle.guide_parts.specs.Parts.{Parts}
use Rattle.guide_parts.specs.PartScreen.{part_guide}

abbrev pat_key : ℕ → Key
pat_key stream = record { pid = 0; table = 0x00; ext = stream; stream = 0; network = 0 }

abbrev sdt_key : ℕ → Key
sdt_key stream = record { pid = 0x11; table = 0x42; ext = stream; stream = 0; network = 1 }

abbrev one_body : List ℕ → Content
one_body body = record { number = 0; body = body } ∷ []

-- the PAT of a stream: program 0 on PID 0x0010, and program 101 on PID 256
abbrev pat : ℕ → Key × Content
pat stream = (pat_key stream, one_body (0x00 ∷ 0x00 ∷ 0xE0 ∷ 0x10 ∷ 0x00 ∷ 0x65 ∷ 0xE1 ∷ 0x00 ∷ []))

-- the SDT of a stream: service 101, News of Acme
abbrev sdt : ℕ → Key × Content
sdt stream = (
  sdt_key stream,
  one_body
      (0x00 ∷ 0x01 ∷ 0xFF ∷ 0x00 ∷ 0x65 ∷ 0xFC ∷ 0x80 ∷ 0x0D
      ∷ 0x48 ∷ 0x0B ∷ 0x01 ∷ 0x04 ∷ 0x41 ∷ 0x63 ∷ 0x6D ∷ 0x65 ∷ 0x04 ∷ 0x4E ∷ 0x65 ∷ 0x77 ∷ 0x73 ∷ []),
)

-- event 7 of service 101, in section 1 of this table, of which the other sections are missing
abbrev eit : ℕ → ℕ → Key × Content
eit stream table = (
  eit_key (sdt_key stream) table 101,
  record {
    number = 1;
    body = 0x00 ∷ stream ∷ 0x00 ∷ 0x01 ∷ 0x01 ∷ table
        ∷ 0x00 ∷ 0x07 ∷ 0xC0 ∷ 0x79 ∷ 0x13 ∷ 0x00 ∷ 0x00 ∷ 0x00 ∷ 0x30 ∷ 0x00 ∷ 0x00 ∷ 0x00 ∷ [];
  }
      ∷ [],
)

abbrev among : List (Key × Content) → Key → Option Content
among [] k = None
among (c ∷ cs) k = if is_key c.0 k then Some c.1 else among cs k

-- a receiver that completed these, and of the others has these parts
abbrev having : Option Key → List (Key × Content) → List (Key × Content) → Parts
having completed whole parts = record {
  view = record {
    content = among whole;
    pat = completed;
    nit = None;
    sdt = λ ext. None;
    others = [];
    clock = None;
    offsets = [];
  };
  part = λ k. sections (among parts k);
  keys = map (λ (c : Key × Content). c.0) parts;
}

abbrev service : Option ℕ → Shown → Shown → Option ℕ → Option ScreenEvent → List ScreenEvent → PartService
service kind provider name pid next events = record {
  service = 101;
  kind = kind;
  provider = provider;
  name = name;
  descriptors = [];
  pmt_pid = pid;
  pcr_pid = None;
  program_descriptors = [];
  components = [];
  now = None;
  next = next;
  events = events;
}

abbrev shown : Option ℕ → Option ℕ → List PartService → PartScreen
shown stream original services = record {
  clock = None;
  offsets = [];
  network = None;
  stream = stream;
  original = original;
  cable = None;
  stream_descriptors = [];
  services = services;
  others = [];
}

abbrev event : ScreenEvent
event = record {
  id = 7;
  start = record { 0 = 4257234000 };
  seconds = 1800;
  language = codes "und";
  name = Text [];
  short = Text [];
  extended = Text [];
  rating = None;
  genres = [];
  descriptors = [];
}

nothing : part_guide (having None [] []) ≡ record { wanting = Pat ∷ Nit ∷ Sdt ∷ Clock ∷ []; shown = shown None None [] }
nothing = refl

-- the SDT alone, which needs a PAT
sdt_alone : part_guide (having None [] (sdt 1 ∷ []))
    ≡ record { wanting = Pat ∷ Nit ∷ Sdt ∷ Clock ∷ []; shown = shown (Some 1) (Some 1) (service (Some 1) (Text (codes "Acme")) (Text (codes "News")) None None [] ∷ []) }
unfolding chars
sdt_alone = refl

-- the PAT alone, whole
pat_alone : part_guide (having (Some (pat_key 1)) (pat 1 ∷ []) (pat 1 ∷ []))
    ≡ record { wanting = Nit ∷ Sdt ∷ Clock ∷ Pmt 256 101 ∷ []; shown = shown (Some 1) None (service None (Text []) (Text []) (Some 256) None [] ∷ []) }
pat_alone = refl

-- section 1 of the present and following events alone: the following one
eit_alone : part_guide (having None [] (eit 1 0x4E ∷ []))
    ≡ record { wanting = Pat ∷ Nit ∷ Sdt ∷ Clock ∷ []; shown = shown (Some 1) (Some 1) (service None (Text []) (Text []) None (Some event) [] ∷ []) }
unfolding chars moment_from_bcd duration_from_bcd
eit_alone = refl

-- section 1 of a later table of the schedule alone
schedule_alone : part_guide (having None [] (eit 1 0x5F ∷ []))
    ≡ record { wanting = Pat ∷ Nit ∷ Sdt ∷ Clock ∷ []; shown = shown (Some 1) (Some 1) (service None (Text []) (Text []) None None (event ∷ []) ∷ []) }
unfolding chars moment_from_bcd duration_from_bcd
schedule_alone = refl

-- the PAT of stream 1, and SDT and event information of stream 2
of_another : part_guide (having (Some (pat_key 1)) (pat 1 ∷ []) (pat 1 ∷ sdt 2 ∷ eit 2 0x4E ∷ []))
    ≡ record { wanting = Nit ∷ Sdt ∷ Clock ∷ Pmt 256 101 ∷ []; shown = shown (Some 2) (Some 1) (service (Some 1) (Text (codes "Acme")) (Text (codes "News")) (Some 256) (Some event) [] ∷ []) }
unfolding chars moment_from_bcd duration_from_bcd
of_another = refl
