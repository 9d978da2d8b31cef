-- Where nothing is wanting, what is shown of parts is what is shown of the whole.
use Rattle.std.specs.Prelude.{◌≡◌, ℕ, ◌≤◌, false, List, [], map, Some, None, IsSome}
use Rattle.std.specs.List.{AllByRecursion}
use Rattle.guide_model.specs.declared.screen.ScreenService.{ScreenService}
use Rattle.guide_model.specs.declared.screen.Screen.{Screen}
use Rattle.section_codec.specs.declared.table.Key.{Key}
use Rattle.table_bodies.specs.declared.sdt.SdtService.{SdtService}
use Rattle.sub_collect.specs.Marks.{Taken, content_over}
use Rattle.guide_screen.specs.View.{View, sdt_of, eit_key}
use Rattle.guide_screen.specs.Needs.{services_of}
use Rattle.guide_screen.specs.Screen.{heard_of}
use Rattle.guide_screen.specs.declared.need.Heard.TheVariants.{Whole}
use Rattle.guide_parts.specs.declared.part_screen.PartService.{PartService}
use Rattle.guide_parts.specs.declared.part_screen.PartScreen.{PartScreen}
use Rattle.guide_parts.specs.Parts.{Parts, parts_over}
use Rattle.guide_parts.specs.PartScreen.{part_screen}

-- a whole screen as one of parts
abbrev pub service_as_part : ScreenService → PartService
service_as_part s = record {
  service = s.service;
  kind = Some s.kind;
  provider = s.provider;
  name = s.name;
  descriptors = s.descriptors;
  pmt_pid = s.pmt_pid;
  pcr_pid = s.pcr_pid;
  program_descriptors = s.program_descriptors;
  components = s.components;
  now = s.now;
  next = s.next;
  events = s.events;
}

abbrev pub screen_as_part : Screen → PartScreen
screen_as_part s = record {
  clock = Some s.clock;
  offsets = s.offsets;
  network = Some (record { id = s.network; name = s.network_name; descriptors = s.network_descriptors });
  stream = Some s.stream;
  original = Some s.original;
  cable = s.cable;
  stream_descriptors = s.stream_descriptors;
  services = map service_as_part s.services;
  others = s.others;
}

-- The keys of PAT, NIT and SDT were completed, and the SDT is that of the PAT's stream.
pub record NamesCompleted (V : View) : Type 0 where
  pub pat : (k : Key) → V.pat ≡ Some k → IsSome (V.content k)
  pub nit : (k : Key) → V.nit ≡ Some k → IsSome (V.content k)
  pub sdt : (k : Key) → sdt_of V ≡ Some k → IsSome (V.content k)
  pub stream : (pat sdt : Key) → V.pat ≡ Some pat → sdt_of V ≡ Some sdt → sdt.ext ≡ pat.ext

-- what is held of a table of events that was not completed
abbrev pub HoldsNothing : Parts → Key → Type 0
HoldsNothing P k = P.view.content k ≡ None → P.part k ≡ []

-- Of the kinds of events that the SDT says are not sent of a service nothing is held but what is whole, and no table of a schedule without
-- the first one.
pub record IsWholeBeside (P : Parts) (sdt : Key) (s : SdtService) : Type 0 where
  pub present : s.present ≡ false → HoldsNothing P (eit_key sdt 0x4E s.service)
  pub schedule : s.schedule ≡ false → (table : ℕ) → 0x50 ≤ table → table ≤ 0x5F
      → HoldsNothing P (eit_key sdt table s.service)
  pub first : s.schedule ≡ false → P.view.content (eit_key sdt 0x50 s.service) ≡ None
      → (table : ℕ) → 0x50 ≤ table → table ≤ 0x5F → P.part (eit_key sdt table s.service) ≡ []

-- Where the whole screen is heard, the screen of parts is the same.
abbrev pub PartialIsListen : Type 0
PartialIsListen = (V : View) (taken : List Taken) → ((k : Key) → V.content k ≡ content_over taken k) → NamesCompleted V
    → ((sdt : Key) → sdt_of V ≡ Some sdt → AllByRecursion (IsWholeBeside (parts_over V taken) sdt) (services_of V))
    → (shown : Screen) → heard_of V ≡ Whole shown → part_screen (parts_over V taken) ≡ screen_as_part shown
