-- What holds of the air of a run, by whom it is heard.
use Rattle.std.specs.Prelude.{◌≡◌, ℕ, List, Option, Some, None}
use Rattle.version_book.specs.Airings.{AiredTables}
use Rattle.air_model.specs.Air.{Aired}
use Rattle.mux_model.specs.declared.mux.Mux.{Mux}
use Rattle.journal_model.specs.declared.step.Entry.{Entry}
use Rattle.carousel_player.specs.Spacing.{IsSpacedAir}
use Rattle.cycle_player.specs.Playing.{IsTimedAir}
use Rattle.air_laws.specs.Coherence.{IsCoherent}
use Rattle.cycle_player.specs.Sent.{SentOf, packets_sent}
use Rattle.journal_air.specs.Air.{airings}
use Rattle.journal_air.specs.JournalScreenShown.{IsExact}
use Rattle.journal_air.specs.HeardKeys.{HaveFewKeys}

-- Of each air at this bit rate, or without one, of which what was sent are the first bytes: this
-- holds of its cycles, and of the whole packets that were sent.
abbrev pub OfEachAir : Option ℕ → List AiredTables → Option (List ℕ) → Option (List ℕ)
    → (List Aired → List (List ℕ) → Type 0) → Type 0
OfEachAir rate airings before now P =
    (air : SentOf rate airings before now) → P air.cycles (packets_sent air)

-- What was sent for a journal, from before to now.
pub record SentAir (mux : Mux) (journal : List Entry) (before now : Option (List ℕ)) : Type 0 where
  -- It is an air of the journal, or the first bytes of one.
  pub sent : SentOf mux.rate (airings mux journal) before now
  -- It is coherent: of any part of its packets no content is ever completed from two airings.
  pub coherent : OfEachAir mux.rate (airings mux journal) before now IsCoherent
  -- It is exact: once a cycle was heard whole, the guide that is heard is that of its publication,
  -- as long as that stays on air.
  pub exact : OfEachAir mux.rate (airings mux journal) before now (IsExact mux journal)
  -- Without a bit rate it is spaced: sections of tier Fast and Near repeat within their bounds.
  pub spaced : mux.rate ≡ None
      → OfEachAir None (airings mux journal) before now (λ cycles packets. IsSpacedAir cycles)
  -- At a bit rate it keeps time: sections of one sub-table are 25 ms apart, TDT and TOT tell the
  -- time, and where the span of a cycle is right, what is frequent is repeated in time.
  pub timed : (rate : ℕ) → mux.rate ≡ Some rate
      → OfEachAir (Some rate) (airings mux journal) before now (λ cycles packets. IsTimedAir rate cycles)
  -- No receiver hears more keys than it keeps.
  pub few : OfEachAir mux.rate (airings mux journal) before now (λ cycles packets. HaveFewKeys packets)
