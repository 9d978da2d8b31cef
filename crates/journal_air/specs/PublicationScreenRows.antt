-- Worked screens.
use Rattle.std.specs.Prelude.{◌≡◌, ℕ, [], ◌∷◌, codes, Some, None, refl}
use Rattle.guide_model.specs.declared.shown.Shown.TheVariants.{Text}
use Rattle.guide_model.specs.declared.event.Event.{Event}
use Rattle.guide_model.specs.declared.guide.Guide.{Guide}
use Rattle.guide_model.specs.declared.screen.ScreenEvent.{ScreenEvent}
use Rattle.guide_model.specs.declared.guide.ServiceGuide.{ServiceGuide}
use Rattle.mux_model.specs.declared.mux.MuxService.{MuxService}
use Rattle.mux_model.specs.declared.mux.RemoteService.{RemoteService}
use Rattle.mux_model.specs.declared.mux.Other.{Other}
use Rattle.mux_model.specs.declared.mux.Mux.{Mux}
use Rattle.mux_model.specs.Muxes.{mux_of}
use Rattle.journal_air.specs.Screen.{screen_of}

abbrev news : MuxService
news = record { service = 101; feed = 1; kind = 1; pmt_pid = 256; pcr_pid = 257; provider = codes "First"; name = codes "First"; components = []; descriptors = []; program_descriptors = [] }

abbrev mux : Mux
mux = mux_of 40 (codes "Demo") 2 1 (record { 0 = 0 }) 200 (news ∷ [])

-- an event of half an hour, from a second of the day on; its day is the first, or a later one
abbrev event : ℕ → ℕ → Event
event id start = record { id = id; start = record { 0 = start }; seconds = 1800; language = codes "eng"; name = codes "News"; short = []; extended = []; rating = None; genres = []; descriptors = [] }

abbrev shown : ℕ → ℕ → ScreenEvent
shown id start = record { id = id; start = record { 0 = start }; seconds = 1800; language = codes "eng"; name = Text (codes "News"); short = Text []; extended = Text []; rating = None; genres = []; descriptors = [] }

-- on the second day at noon: an event of the day before is not shown, one at midnight is, so is the one that is on; of those behind it the
-- last starts 64 days from that midnight, and is not
abbrev own_part : ServiceGuide
own_part = record {
  service = 101;
  provider = codes "Acme";
  name = codes "Acme News";
  events = event 1 84000 ∷ event 2 86400 ∷ event 3 129000 ∷ event 4 130800 ∷ event 5 5615999 ∷ event 6 5616000 ∷ [];
}

abbrev guide : Guide
guide = record { moment = record { 0 = 129600 }; services = own_part ∷ [] }

screen_services : (screen_of mux guide 129605).services ≡ record {
  service = 101;
  kind = 1;
  provider = Text (codes "Acme");
  name = Text (codes "Acme News");
  descriptors = [];
  pmt_pid = Some 256;
  pcr_pid = Some 257;
  program_descriptors = [];
  components = [];
  now = Some (shown 3 129000);
  next = Some (shown 4 130800);
  events = shown 2 86400 ∷ shown 3 129000 ∷ shown 4 130800 ∷ shown 5 5615999 ∷ [];
} ∷ []
screen_services = refl

no_others : (screen_of mux guide 129605).others ≡ []
no_others = refl

-- ---- another stream

-- stream 3 of network 4 has a service, stream 5 of network 4 has none; the first has a further descriptor, and so has its service
abbrev film : RemoteService
film = record {
  service = 90;
  feed = 2;
  kind = 25;
  provider = codes "Second";
  name = codes "Second";
  descriptors = record { tag = 0x73; body = [] } ∷ [];
}

abbrev third : Other
third = record { stream = 3; original = 4; cable = None; services = film ∷ []; descriptors = record { tag = 0x5F; body = 0 ∷ 0 ∷ 0 ∷ 0x28 ∷ [] } ∷ [] }

abbrev fifth : Other
fifth = record { stream = 5; original = 4; cable = None; services = []; descriptors = [] }

abbrev wide : Mux
wide = record {
  network = 40;
  network_name = codes "Demo";
  stream = 2;
  original = 1;
  cable = None;
  start = record { 0 = 0 };
  quota = 200;
  rate = None;
  offsets = [];
  services = news ∷ [];
  others = third ∷ fifth ∷ [];
  network_descriptors = [];
  stream_descriptors = [];
}

-- the service of the other stream has an event that is over and one that comes, and none that is on; it stands before the own service
abbrev remote_part : ServiceGuide
remote_part = record {
  service = 90;
  provider = codes "Far";
  name = codes "Far Films";
  events = event 7 127800 ∷ event 8 133200 ∷ [];
}

abbrev both : Guide
both = record { moment = record { 0 = 129600 }; services = remote_part ∷ own_part ∷ [] }

others_are : (screen_of wide both 129605).others ≡ record {
  stream = 3;
  original = 4;
  cable = None;
  descriptors = record { tag = 0x5F; body = 0 ∷ 0 ∷ 0 ∷ 0x28 ∷ [] } ∷ [];
  services = record {
    service = 90;
    kind = 25;
    provider = Text (codes "Far");
    name = Text (codes "Far Films");
    descriptors = record { tag = 0x73; body = [] } ∷ [];
    now = None;
    next = Some (shown 8 133200);
    events = shown 7 127800 ∷ shown 8 133200 ∷ [];
  } ∷ [];
} ∷ record { stream = 5; original = 4; cable = None; descriptors = []; services = [] } ∷ []
others_are = refl

own_is : (screen_of wide both 129605).services ≡ (screen_of mux guide 129605).services
own_is = refl
