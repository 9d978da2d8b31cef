-- What is shown at the end of the air of a journal that ends with a publish and two swaps.
use Rattle.std.specs.Prelude.{◌≡◌, ℕ, ◌≤◌, List, [], ◌∷◌, ◌++◌, length, drop, map, Option, Some}
use Rattle.std.specs.Io.KnownBytes.{Appends}
use Rattle.mux_model.specs.declared.mux.Mux.{Mux}
use Rattle.journal_model.specs.declared.step.Step.TheVariants.{Publish, Swap}
use Rattle.journal_model.specs.declared.step.Entry.{Entry}
use Rattle.journal_model.specs.Steps.{command_of}
use Rattle.desk_core.specs.Publications.{guide_after}
use Rattle.ts_demux.specs.Sections.{heard_all}
use Rattle.ts_packets.specs.WholePackets.{whole_packets}
use Rattle.air_model.specs.Air.{Aired, air, air_bytes}
use Rattle.guide_screen.specs.declared.need.Heard.{Heard}
use Rattle.guide_screen.specs.declared.need.Heard.TheVariants.{Whole}
use Rattle.guide_receiver.specs.Latest.{clock_of}
use Rattle.publication.specs.Tables.{tables_of}
use Rattle.journal_air.specs.Screen.{screen_of}
use Rattle.journal_air.specs.Air.{airings}
use Rattle.cycle_player.specs.Airs.{IsAirAt}

-- the journal ends with a publish, a swap and a swap of this caller
pub record EndsPublished (who : ℕ) (journal : List Entry) : Type 0 where
  pub front : List Entry
  pub final : List Entry
  pub ends : journal ≡ front ++ final
  pub commands : map command_of final ≡ (who, Publish) ∷ (who, Swap) ∷ (who, Swap) ∷ []

-- What the air took, from before to now, are all cycles of this journal, of which the last two are of one publication; and this guide is what
-- was heard of its packets from the place join on.
pub record IsShownLast (join : ℕ) (mux : Mux) (journal : List Entry) (before now : Option (List ℕ)) (heard : Option Heard) : Type 0 where
  pub cycles : List Aired
  pub first : Aired
  pub last : Aired
  pub is_air : IsAirAt mux.rate (airings mux journal) (cycles ++ first ∷ last ∷ [])
  pub bytes : Appends before now (air_bytes (cycles ++ first ∷ last ∷ []))
  -- that publication has each edit of the whole journal that was accepted
  pub first_is : first.airing.tables ≡ tables_of mux (guide_after mux journal)
  pub last_is : last.airing.tables ≡ tables_of mux (guide_after mux journal)
  -- who joined before the last cycle, and so whoever heard two, has its screen, whole, with the moment of the TDT that was heard last
  pub shown : join ≤ length (air (cycles ++ first ∷ [])) → (clock : ℕ)
      × (clock_of (heard_all [] (drop join (whole_packets (air_bytes (cycles ++ first ∷ last ∷ []))))) ≡ Some clock)
      × (heard ≡ Some (Whole (screen_of mux (guide_after mux journal) clock)))
