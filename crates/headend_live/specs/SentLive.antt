-- What a run sent, and how it is heard.
use Rattle.std.specs.Prelude.{◌≡◌, ℕ, List, Option, Some, None}
use Rattle.mux_model.specs.declared.mux.Mux.{Mux}
use Rattle.mux_model.specs.Sound.{IsSoundWithIds}
use Rattle.journal_model.specs.declared.step.Entry.{Entry}
use Rattle.carousel_player.specs.Spacing.{IsSpacedAir}
use Rattle.cycle_player.specs.Playing.{IsTimedAir}
use Rattle.air_laws.specs.Coherence.{IsCoherent}
use Rattle.cycle_player.specs.Sent.{IsSentWhole, SentOf}
use Rattle.journal_air.specs.Air.{airings}
use Rattle.journal_air.specs.Laws.{HasTypedEdits}
use Rattle.journal_air.specs.JournalScreenShown.{IsAsRead, IsExact}
use Rattle.journal_air.specs.HeardKeys.{HaveFewKeys}
use Rattle.journal_air.specs.SentAir.{OfEachAir}
use Rattle.headend_jobs.specs.declared.live.LiveStop.{LiveStop}

-- What a run with this journal and this stop sent, from before to now. The premises on multiplex and journal hold of each desk, by the types
-- of its values (`desk_is_as_read`).
pub record SentLive (mux : Mux) (journal : List Entry) (stop : Option LiveStop) (before now : Option (List ℕ)) : Type 0 where
  -- It is the first bytes of an air of the journal, and all of one where nothing stopped the run.
  pub sent : SentOf mux.rate (airings mux journal) before now
  pub whole : stop ≡ None → (air : SentOf mux.rate (airings mux journal) before now) × IsSentWhole air
  -- Each such air is coherent: of any part of its packets no content is ever completed from two airings.
  pub coherent : IsSoundWithIds mux → HasTypedEdits journal → OfEachAir mux.rate (airings mux journal) before now IsCoherent
  -- And without a bit rate it is spaced: sections of tier Fast and Near repeat within their bounds.
  pub spaced : HasTypedEdits journal → mux.rate ≡ None
      → OfEachAir None (airings mux journal) before now (λ cycles packets. IsSpacedAir cycles)
  -- And at one it keeps time: sections of one sub-table are 25 ms apart, and TDT and TOT tell the time.
  pub timed : (rate : ℕ) → IsAsRead mux journal → mux.rate ≡ Some rate
      → OfEachAir (Some rate) (airings mux journal) before now (λ cycles packets. IsTimedAir rate cycles)
  -- And exact: once a cycle was heard whole, the guide is that of its publication, as long as that stays on air.
  pub exact : IsAsRead mux journal → OfEachAir mux.rate (airings mux journal) before now (IsExact mux journal)
  -- And of its packets no receiver hears more keys than it keeps.
  pub keys : IsSoundWithIds mux → HasTypedEdits journal
      → OfEachAir mux.rate (airings mux journal) before now (λ cycles packets. HaveFewKeys packets)
