-- Where a receiver has a whole guide, the guide of parts is the same.
use Rattle.std.specs.Prelude.{◌≡◌, ℕ, Bool, List, [], true, Some}
use Rattle.std.specs.List.{AllByRecursion}
use Rattle.guide_model.specs.declared.screen.Screen.{Screen}
use Rattle.section_codec.specs.declared.table.Key.{Key}
use Rattle.table_bodies.specs.declared.sdt.SdtService.{SdtService}
use Rattle.ts_demux.specs.declared.section.RawSection.{RawSection}
use Rattle.sub_collect.specs.Marks.{Taken}
use Rattle.guide_screen.specs.declared.need.Heard.TheVariants.{Whole}
use Rattle.guide_screen.specs.View.{View, sdt_of}
use Rattle.guide_screen.specs.Needs.{services_of}
use Rattle.guide_receiver.specs.Guides.{view_after, guide_of}
use Rattle.strict_receiver.specs.Earlier.{strict_guide_after}
use Rattle.guide_parts.specs.Parts.{Parts, parts_over}
use Rattle.guide_parts.specs.PartScreen.{part_guide}
use Rattle.guide_parts.specs.Laws.{screen_as_part, NamesCompleted, IsWholeBeside}
use Rattle.guide_text.specs.Guides.{guide_text_with}
use Rattle.guide_parts.specs.PartTexts.{part_text_with}
use Rattle.guide_parts.specs.Heard.{parts_of, strict_parts_after}

-- Whatever sections a receiver heard before a fresh start, whatever packets since, and whatever counts of them, with the marks between:
-- the PAT, the NIT and the SDT that it names were completed, and the SDT is that of the PAT's stream.
abbrev pub NamedAreCompleted : Type 0
NamedAreCompleted = (earlier : List RawSection) (packets : List (List ℕ)) (taken : List Taken) → NamesCompleted (view_after earlier packets taken)

-- ---- the guide

-- Of the kinds of events that the SDT says are not sent nothing is held but what is whole.
abbrev pub HoldsWholeBeside : Parts → Type 0
HoldsWholeBeside P = (sdt : Key) → sdt_of P.view ≡ Some sdt → AllByRecursion (IsWholeBeside P sdt) (services_of P.view)

-- The guide of parts has nothing wanting and shows this screen, and it has the text of the whole guide, with details and without.
pub record ShowsWhole (P : Parts) (shown : Screen) : Type 0 where
  pub guide : part_guide P ≡ record { wanting = []; shown = screen_as_part shown }
  pub text : (details : Bool) → part_text_with details (part_guide P) ≡ guide_text_with details (Whole shown)

-- Where any receiver has a whole guide of packets, it shows the same of parts,
abbrev pub GuideIsSame : Type 0
GuideIsSame = (packets : List (List ℕ)) → HoldsWholeBeside (parts_of packets)
    → (shown : Screen) → guide_of packets ≡ Whole shown → ShowsWhole (parts_of packets) shown

-- and so does a strict one that started afresh after earlier recordings.
abbrev pub StrictGuideIsSame : Type 0
StrictGuideIsSame = (earlier : List (List (List ℕ))) (packets : List (List ℕ)) → HoldsWholeBeside (strict_parts_after earlier packets)
    → (shown : Screen) → strict_guide_after earlier packets ≡ Whole shown → ShowsWhole (strict_parts_after earlier packets) shown

-- The SDT says of each service that present and following events and the schedule are sent.
abbrev pub TellsAllEvents : View → Type 0
TellsAllEvents V = AllByRecursion (λ (s : SdtService). (s.present ≡ true) × (s.schedule ≡ true)) (services_of V)

-- Then it says of no kind that it is not sent.
abbrev pub NothingIsBeside : Type 0
NothingIsBeside = (V : View) (taken : List Taken) → TellsAllEvents V → HoldsWholeBeside (parts_over V taken)
