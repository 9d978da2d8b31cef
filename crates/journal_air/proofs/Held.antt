-- What the event information that a view has of a service says.
use Rattle.std.proofs.Common.{◌≡◌, ℕ, ◌+◌, ◌-◌, ◌%◌, List, [], ◌∷◌, Option, Some, map, sym, ap, ◌∙◌, subst, arith}
use Rattle.std.specs.Prelude.{suc}
use Rattle.std.specs.List.{All, AllByRecursion}
use Rattle.std.proofs.lemmas.List.Elements.{All-from_recursion}
use Rattle.guide_model.specs.declared.guide.ServiceGuide.{ServiceGuide}
use Rattle.guide_limits.specs.Events.{midnight}
use Rattle.guide_limits.specs.Limits.{IsServiceWithin}
use Rattle.section_codec.specs.declared.table.Key.{Key}
use Rattle.section_codec.specs.declared.table.SubTable.{SubTable}
use Rattle.section_codec.specs.Contents.{Content, numbers_from}
use Rattle.table_bodies.specs.Eit.{IsCodable, IsTyped}
use Rattle.eit_segments.specs.Schedule.{CanBePlaced}
use Rattle.eit_segments.specs.Laws.{at_of}
use Rattle.eit_segments.proofs.Few.{events_can_be_placed}
use Rattle.publication.specs.Eit.{Bearer, bearer_key}
use Rattle.publication.specs.EitLaws.{AreSmallEntries}
use Rattle.publication.specs.Present.{present_of, present_sections}
use Rattle.publication.specs.Schedule.{last_table_of}
use Rattle.publication.proofs.EventFacts.{all_codable}
use Rattle.guide_screen.specs.View.{sections, table_at}
use Rattle.guide_screen.specs.Needs.{last_table, tables_to}
use Rattle.guide_screen.specs.Screen.{event_at, schedule_of}
use Rattle.journal_air.specs.Screen.{now_shown, next_shown, events_shown}
use Rattle.journal_air.proofs.Own.{AreKept}
use Rattle.journal_air.proofs.Events.{HasIds, now_said, next_said}
use Rattle.journal_air.proofs.Schedules.{AreSentAt, stream_key, HasTable, last_is, schedule_said}

abbrev pub Held : (Key → Option Content) → SubTable → Type 0
Held content t = content t.key ≡ Some t.sections

-- a part of a guide can be shown: it is within its limits, and its names and events are as they are read
pub record CanBeShown (g : ServiceGuide) : Type 0 where
  pub within : IsServiceWithin g
  pub kept : AreKept g
  pub typed : AllByRecursion IsTyped g.events
  pub small : AreSmallEntries g.events

pub parts_can_be_shown : (gs : List ServiceGuide) → AllByRecursion IsServiceWithin gs → AllByRecursion AreKept gs → AllByRecursion (λ (g : ServiceGuide). AllByRecursion IsTyped g.events) gs
    → AllByRecursion (λ (g : ServiceGuide). AreSmallEntries g.events) gs → AllByRecursion CanBeShown gs
parts_can_be_shown [] within kept typed small = tt
parts_can_be_shown (g ∷ gs) within kept typed small =
    (record { within = within.0; kept = kept.0; typed = typed.0; small = small.0 }, parts_can_be_shown gs within.1 kept.1 typed.1 small.1)

zeroth : (moment : ℕ) → midnight moment % 86400 ≡ 0
zeroth moment = omega arith

-- present and following of a service are held, and the tables of its schedule
pub record HasEvents (b : Bearer) (moment : ℕ) (content : Key → Option Content) (g : ServiceGuide) : Type 0 where
  pub can : CanBeShown g
  pub present : Held content (present_of b moment g)
  pub tables : AllByRecursion (HasTable b (midnight moment) g content) (tables_to 0x50 (last_table_of (midnight moment) g.events))

module _ (b : Bearer) (ids : HasIds b) (at : AreSentAt b) (moment : ℕ) (content : Key → Option Content) (service : ℕ) (g : ServiceGuide) (same : g.service ≡ service)
    (has : HasEvents b moment content g) where
  codable : All IsCodable g.events
  codable = all_codable g.events has.can.within.events.each

  types : All IsTyped g.events
  types = All-from_recursion IsTyped g.events has.can.typed

  placed : CanBePlaced (map at_of g.events)
  placed = events_can_be_placed g.events has.can.within.events has.can.small

  pub present_is : content (bearer_key b b.present service) ≡ Some (present_sections b moment g.events)
  present_is = ap (λ (n : ℕ). content (bearer_key b b.present n)) (sym same) ∙ has.present

  pub now_is : event_at 0 (table_at content (stream_key b) service b.present) ≡ now_shown moment g
  now_is = ap (λ (o : Option Content). event_at 0 (sections o)) present_is ∙ now_said b ids g.events codable types moment

  pub next_is : event_at 1 (table_at content (stream_key b) service b.present) ≡ next_shown moment g
  next_is = ap (λ (o : Option Content). event_at 1 (sections o)) present_is ∙ next_said b ids g.events codable types moment

  abbrev pub last : ℕ
  last = last_table_of (midnight moment) g.events

  -- the first table is one of them
  first_table : HasTable b (midnight moment) g content 0x50
  first_table =
      (subst (λ (n : ℕ). AllByRecursion (HasTable b (midnight moment) g content) (numbers_from 0x50 n))
      (let size : 1 + last - 0x50 ≡ suc (1 + last - 0x51) = omega arith in size) has.tables).0

  last_own : last_table (b.sent 0x5F) (table_at content (stream_key b) g.service (b.sent 0x50)) ≡ b.sent last
  last_own = last_is b ids at (midnight moment) g content placed.fit first_table

  pub last_told : last_table (b.sent 0x5F) (table_at content (stream_key b) service (b.sent 0x50)) ≡ b.sent last
  last_told = ap (λ (n : ℕ). last_table (b.sent 0x5F) (table_at content (stream_key b) n (b.sent 0x50))) (sym same) ∙ last_own

  pub events_are : schedule_of content (stream_key b) service (b.sent 0x50) (b.sent 0x5F) ≡ events_shown moment g
  events_are =
      ap (λ (n : ℕ). schedule_of content (stream_key b) n (b.sent 0x50) (b.sent 0x5F)) (sym same)
      ∙ schedule_said b ids at (midnight moment) g content codable types has.can.within placed (zeroth moment) has.tables last_own
