-- What is heard of an air of a journal from which packets were lost.
use Rattle.std.specs.Prelude.{◌≡◌, ℕ, List, [], ◌∷◌, ◌++◌, length, Some}
use Rattle.std.specs.List.{AllByRecursion}
use Rattle.guide_model.specs.declared.guide.Guide.{Guide}
use Rattle.mux_model.specs.declared.mux.Mux.{Mux}
use Rattle.section_codec.specs.declared.table.Key.{Key}
use Rattle.journal_model.specs.declared.step.Entry.{Entry}
use Rattle.desk_core.specs.Journal.{Legal}
use Rattle.desk_core.specs.Publications.{publication}
use Rattle.ts_demux.specs.Sections.{heard_all}
use Rattle.guide_screen.specs.declared.need.Heard.TheVariants.{Whole}
use Rattle.guide_receiver.specs.Latest.{clock_of}
use Rattle.sub_collect.specs.Marks.{completions_over}
use Rattle.strict_receiver.specs.Strict.{taken_of, strict_dones_by, strict_guide_of}
use Rattle.air_model.specs.Air.{Aired}
use Rattle.journal_air.specs.Published.{number_at}
use Rattle.loss_laws.specs.Thinned.{Fate, DidCome, bytes_that_came, fates_at, SomeCame, IsThinnedAir, IsAiredAmong, IsDoneAmong}
use Rattle.journal_air.specs.Screen.{screen_of}
use Rattle.journal_air.specs.Air.{airings}
use Rattle.journal_air.specs.JournalScreenShown.{IsAsRead, numbers_on_air}
use Rattle.cycle_player.specs.Airs.{IsAirAt}

-- The cycles of an air are of publications with these numbers. All packets of this cycle came, and of later cycles
-- packets came only where they are of the same publication.
pub record CamePublished (numbers : List ℕ) (fates : List Fate) (before : List Aired) (x : Aired) (after : List Aired) : Type 0 where
  pub whole : AllByRecursion DidCome (fates_at fates before x)
  pub same : (one two : List Aired) (y : Aired) → after ≡ one ++ y ∷ two → SomeCame fates (before ++ x ∷ one) y
      → number_at numbers (length (before ++ x ∷ one)) ≡ number_at numbers (length before)

-- Packets show this guide of the multiplex to a strict receiver, whole, with the moment that they tell last.
pub record AreStrictlyShown (mux : Mux) (guide : Guide) (packets : List (List ℕ)) : Type 0 where
  pub clock : ℕ
  pub told : clock_of (heard_all [] packets) ≡ Some clock
  pub shown : strict_guide_of packets ≡ Whole (screen_of mux guide clock)

-- What a strict receiver has of these cycles of a journal, where these packets of them came.
pub record IsStrictlyHeard (mux : Mux) (journal : List Entry) (cycles : List Aired) (fates : List Fate) : Type 0 where
  -- each completion that a packet shows is of one airing, of whose cycle a packet came,
  pub dones : (past rest : List (List ℕ)) (packet : List ℕ) → bytes_that_came fates ≡ past ++ packet ∷ rest
      → AllByRecursion (IsDoneAmong fates cycles) (strict_dones_by past packet)
  -- and so is each other content that is completed
  pub coherent : (k : Key) → AllByRecursion (IsAiredAmong fates cycles) (completions_over k (taken_of (bytes_that_came fates)))
  -- after a whole cycle the guide is that of its publication
  pub exact : (before : List Aired) (x : Aired) (after : List Aired) → cycles ≡ before ++ x ∷ after
      → CamePublished (numbers_on_air journal) fates before x after
      → AreStrictlyShown mux (publication mux journal (number_at (numbers_on_air journal) (length before))) (bytes_that_came fates)

-- A recording is what came of an air of a legal journal: it is heard so.
abbrev pub ThinnedJournalIsHeard : Type 0
ThinnedJournalIsHeard =
    (mux : Mux) (journal : List Entry) → IsAsRead mux journal → Legal mux journal
    → (cycles : List Aired) → IsAirAt mux.rate (airings mux journal) cycles
    → (fates : List Fate) → IsThinnedAir cycles fates → IsStrictlyHeard mux journal cycles fates
