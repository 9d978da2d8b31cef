-- What a run sent, from what its player and its control did.
use Rattle.std.proofs.Common.{◌≡◌, ℕ, List}
use Rattle.std.specs.Prelude.{Option, None, Ok, Result}
use Rattle.mux_model.specs.declared.mux.Mux.{Mux}
use Rattle.mux_model.specs.Sound.{IsSound}
use Rattle.journal_model.specs.declared.step.Entry.{Entry}
use Rattle.desk_core.specs.Journal.{Legal}
use Rattle.journal_air.specs.Air.{airings, mux_form}
use Rattle.journal_air.proofs.CarryFacts.{airings_heard}
use Rattle.journal_air.proofs.JournalScreenShown.{sent_shown}
use Rattle.journal_air.specs.declared.send.SendStop.{SendStop}
use Rattle.journal_air.specs.AirOf.{AirDid}
use Rattle.journal_air.proofs.SendingKeys.{sent_keys}
use Rattle.journal_air.proofs.Sent.{did_all, did_sent, rate_some, sent_coherent}
use Rattle.journal_air.proofs.Spaced.{airings_fit, airings_timed, sent_spaced, sent_timed}
use Rattle.headend_jobs.specs.declared.live.LiveStop.{LiveStop}
use Rattle.headend_live.specs.SentLive.{SentLive}

pub sent_live : (mux : Mux) (journal : List Entry) (sent : Result (Unit {0}) SendStop) (stop : Option LiveStop) (before now : Option (List ℕ)) → IsSound mux → Legal mux journal → AirDid mux journal before now sent
    → (stop ≡ None → sent ≡ Ok tt) → SentLive mux journal stop before now
sent_live mux journal sent stop before now sound legal did all = record {
  sent = did_sent mux journal before now sent did;
  whole = λ none. did_all mux journal before now sent (all none) did;
  coherent = λ ids typed air. sent_coherent mux.rate (airings mux journal) before now air (airings_heard mux journal ids typed legal);
  spaced = λ typed none air. sent_spaced (mux_form mux) (airings mux journal) (airings_fit mux journal sound typed legal) before now air;
  timed = λ rate read is air. sent_timed rate (rate_some mux.rate rate is sound.rate) (airings mux journal) (airings_timed mux journal read legal) before now air;
  exact = λ read air. sent_shown mux journal read legal before now air;
  keys = λ ids typed air. sent_keys mux journal ids.sound (airings_heard mux journal ids typed legal) before now air;
}
