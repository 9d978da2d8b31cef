-- An air of publications, and what is shown of a part of it.
use Rattle.std.specs.Prelude.{◌≡◌, ℕ, ◌+◌, ◌≤◌, List, [], ◌∷◌, ◌++◌, length, map, take, slice_index, Some}
use Rattle.std.specs.List.{AllByRecursion}
use Rattle.guide_model.specs.declared.guide.Guide.{Guide}
use Rattle.mux_model.specs.declared.mux.Mux.{Mux}
use Rattle.guide_limits.specs.Limits.{IsGuideWithin}
use Rattle.publication.specs.EitLaws.{HasTypedEvents}
use Rattle.version_book.specs.Airings.{AiredTables}
use Rattle.ts_demux.specs.Sections.{heard_all}
use Rattle.guide_screen.specs.declared.need.Heard.TheVariants.{Whole}
use Rattle.guide_receiver.specs.Latest.{clock_of}
use Rattle.guide_receiver.specs.Guides.{guide_of}
use Rattle.air_model.specs.Air.{Aired, air}
use Rattle.air_laws.specs.Joining.{HasPacketIn}
use Rattle.publication.specs.Tables.{HasServicesOf, tables_of}
use Rattle.journal_air.specs.Screen.{screen_of}
use Rattle.journal_air.specs.PublicationScreenShown.{HasKeptNames}

-- a guide of this multiplex that can be published: within its limits, with events and names as they are read
pub record CanBePublished (mux : Mux) (guide : Guide) : Type 0 where
  pub services : HasServicesOf mux guide
  pub within : IsGuideWithin guide
  pub typed : HasTypedEvents guide
  pub names : HasKeptNames mux guide

-- these airings have the tables of the publications with these numbers, or with the first of them
abbrev pub ArePublished : Mux → (ℕ → Guide) → List ℕ → List AiredTables → Type 0
ArePublished mux guides numbers airings =
    map (λ (a : AiredTables). a.tables) airings ≡ map (λ (n : ℕ). tables_of mux (guides n)) (take (length airings) numbers)

-- these airings tell the offsets of the multiplex
abbrev pub HaveOffsetsOf : Mux → List AiredTables → Type 0
HaveOffsetsOf mux airings = AllByRecursion (λ (a : AiredTables). a.form.offsets ≡ mux.offsets) airings

-- the number of the publication of the airing with this place
abbrev pub number_at : List ℕ → ℕ → ℕ
number_at numbers place = slice_index numbers place

-- Of the cycles of an air, which are of publications with these numbers, a receiver hears the packets from the place join on and before the place
-- end: all packets of this one, behind these cycles, and behind it packets alone of cycles of the same publication.
pub record StaysPublished (numbers : List ℕ) (join end : ℕ) (before : List Aired) (x : Aired) (after : List Aired) : Type 0 where
  pub joined : join ≤ length (air before)
  pub whole : length (air before) + length x.packets ≤ end
  pub same : (one two : List Aired) (y : Aired) → after ≡ one ++ y ∷ two → HasPacketIn join end (length (air (before ++ x ∷ one))) y
      → number_at numbers (length (before ++ x ∷ one)) ≡ number_at numbers (length before)

-- Packets show this guide of the multiplex, whole, with the moment that they tell last.
pub record AreShown (mux : Mux) (guide : Guide) (packets : List (List ℕ)) : Type 0 where
  pub clock : ℕ
  pub told : clock_of (heard_all [] packets) ≡ Some clock
  pub shown : guide_of packets ≡ Whole (screen_of mux guide clock)
