-- What was sent of a legal journal, however its last cycle ended: it is coherent, exact, and spaced or in time.
use Rattle.std.proofs.Common.{◌≡◌, ℕ, ◌<◌, List, Option, Some, None, refl, arith}
use Rattle.std.specs.Prelude.{Ok, Err, Result}
use Rattle.std.specs.List.{AllByRecursion}
use Rattle.version_book.specs.Airings.{AiredTables}
use Rattle.mux_model.specs.declared.mux.Mux.{Mux}
use Rattle.mux_model.specs.Sound.{HasSoundRate}
use Rattle.journal_model.specs.declared.step.Entry.{Entry}
use Rattle.air_laws.specs.Counting.{CanBeHeard}
use Rattle.air_laws.specs.Coherence.{IsCoherent}
use Rattle.air_laws.proofs.Coherent.{front_is_coherent}
use Rattle.air_model.specs.Air.{airings_of}
use Rattle.cycle_player.specs.Sent.{SentOf, packets_sent, IsSentWhole}
use Rattle.cycle_player.proofs.Sent.{cycles_sent, whole_sent, cut_sent, sent_repeats, each_sent}
use Rattle.desk_core.specs.Journal.{Legal}
use Rattle.journal_air.specs.Air.{airings, mux_form}
use Rattle.journal_air.proofs.CarryFacts.{airings_heard}
use Rattle.journal_air.specs.JournalScreenShown.{IsAsRead}
use Rattle.journal_air.proofs.JournalScreenShown.{sent_shown}
use Rattle.journal_air.specs.declared.send.SendStop.{SendStop}
use Rattle.journal_air.specs.declared.send.SendStop.TheVariants.{Air, Memory}
use Rattle.journal_air.specs.AirOf.{AirDid}
use Rattle.journal_air.specs.SentAir.{SentAir}
use Rattle.journal_air.proofs.SendingKeys.{sent_keys}
use Rattle.journal_air.proofs.Spaced.{sent_spaced, airings_fit, sent_timed, airings_timed}

-- what was sent is coherent, where the airings can be heard
pub sent_coherent : (rate : Option ℕ) (airings : List AiredTables) (before now : Option (List ℕ)) (sent : SentOf rate airings before now) → AllByRecursion CanBeHeard airings
    → IsCoherent sent.cycles (packets_sent sent)
sent_coherent rate airings before now sent can =
    front_is_coherent (airings_of sent.cycles) sent.cycles (sent_repeats rate airings before now sent) (each_sent rate airings before now sent CanBeHeard can) sent.size

-- a sound bit rate is not 0
pub rate_some : (rate : Option ℕ) (bits : ℕ) → rate ≡ Some bits → HasSoundRate rate → 0 < bits
rate_some None bits e sound = cc e
rate_some (Some n) bits e sound =
    let same : n ≡ bits = cc in
    omega (arith, same, sound.0)

module _ (mux : Mux) (journal : List Entry) (before now : Option (List ℕ)) where
  -- where all was sent, the whole air of the journal
  pub did_all : (sent : Result (Unit {0}) SendStop) → sent ≡ Ok tt → AirDid mux journal before now sent
      → (air : SentOf mux.rate (airings mux journal) before now) × IsSentWhole air
  did_all (Ok u) e did = whole_sent mux.rate (airings mux journal) before now did.cycles did.is_air did.made did.bytes
  did_all (Err stop) e did = cc e

  -- and else the first bytes of an air of it
  pub did_sent : (sent : Result (Unit {0}) SendStop) → AirDid mux journal before now sent → SentOf mux.rate (airings mux journal) before now
  did_sent (Ok u) did = (did_all (Ok u) refl did).0
  did_sent (Err Air) did = cut_sent mux.rate (airings mux journal) before now did.whole did.cut did.taken did.is_air did.made did.bytes
  did_sent (Err Memory) did = cycles_sent mux.rate (airings mux journal) before now did.left did.cycles did.airings_are did.is_air did.made did.bytes

  pub air_sent : (sent : Result (Unit {0}) SendStop) → IsAsRead mux journal → Legal mux journal → AirDid mux journal before now sent → SentAir mux journal before now
  air_sent sent read legal did =
      let can : AllByRecursion CanBeHeard (airings mux journal) = airings_heard mux journal read.sound read.edits legal in
      record {
        sent = did_sent sent did;
        coherent = λ air. sent_coherent mux.rate (airings mux journal) before now air can;
        exact = λ air. sent_shown mux journal read legal before now air;
        spaced = λ none air. sent_spaced (mux_form mux) (airings mux journal) (airings_fit mux journal read.sound.sound read.edits legal) before now air;
        timed = λ rate is air. sent_timed rate (rate_some mux.rate rate is read.sound.sound.rate) (airings mux journal) (airings_timed mux journal read legal) before now air;
        few = λ air. sent_keys mux journal read.sound.sound can before now air;
      }
