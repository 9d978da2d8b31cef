-- A run that met Done: no job stopped.
use Rattle.std.proofs.Common.{◌≡◌, ℕ, List, [], ◌∷◌, refl}
use Rattle.std.specs.Prelude.{Option, Some, None, Ok, Err, Result}
use Rattle.mux_model.specs.declared.mux.Mux.{Mux}
use Rattle.input_lines.specs.declared.stop.EditStop.{EditStop}
use Rattle.input_lines.specs.declared.stop.EditStop.TheVariants as edit
use Rattle.journal_model.specs.declared.step.Entry.{Entry}
use Rattle.headend_jobs.specs.declared.live.LiveStop.{LiveStop}
use Rattle.journal_air.specs.declared.send.SendStop.{SendStop}
use Rattle.journal_air.specs.declared.send.SendStop.TheVariants as send
use Rattle.headend_jobs.specs.Callers.{CommandsAre, PlayerSwapped}
use Rattle.headend_jobs.specs.Stops.{and_stop, control_stop, feed_stop, feeds_stop, run_stop, sent_stop}
use Rattle.headend_jobs.specs.Ticking.{ticks_of, turns_by}
use Rattle.epg_report.specs.declared.status.Status.TheVariants.{Done}
use Rattle.epg_live.specs.Stops.{live_status}
use Rattle.headend_live.proofs.Viewed.{and_none}
use Rattle.epg_live.proofs.StopFacts.{done_none, no_control}

no_feed : (f : ℕ) (stop : Option EditStop) → feed_stop f stop ≡ None → stop ≡ None
no_feed f None e = refl
no_feed f (Some (edit.NoCommand n)) e = cc
no_feed f (Some (edit.Read s)) e = cc
no_feed f (Some edit.Memory) e = cc

-- what met no stop: the air, the control, and the feeds
pub done_stops : (sent : Result (Unit {0}) SendStop) (control : Option EditStop) (feeds : Option LiveStop) → live_status (run_stop sent control feeds) ≡ Done
    → (sent_stop sent ≡ None) × (control ≡ None) × (feeds ≡ None)
done_stops sent control feeds done =
    let stops = and_none (sent_stop sent) (and_stop (control_stop control) feeds) (done_none (run_stop sent control feeds) done) in
    let jobs = and_none (control_stop control) feeds stops.1 in
    (stops.0, no_control control jobs.0, jobs.1)

pub two_fed : (first second : Option EditStop) → feeds_stop None 1 (first ∷ second ∷ []) ≡ None → (first ≡ None) × (second ≡ None)
two_fed first second none =
    let both = and_none (feed_stop 1 first) (feed_stop 2 second) none in
    (no_feed 1 first both.0, no_feed 2 second both.1)

-- the player made all of its swaps
pub all_swapped : (mux : Mux) (player sent : Result (Unit {0}) SendStop) (journal : List Entry) (cycles : ℕ) → ((stop : SendStop) → player ≡ Err stop → sent ≡ Err stop) → sent_stop sent ≡ None
    → PlayerSwapped mux journal cycles player → CommandsAre journal 1 (turns_by 1 (ticks_of mux journal cycles))
all_swapped mux player (Err send.Air) journal cycles failed all_sent swapped = cc all_sent
all_swapped mux player (Err send.Memory) journal cycles failed all_sent swapped = cc all_sent
all_swapped mux (Err stop) (Ok u) journal cycles failed all_sent swapped = cc (failed stop refl)
all_swapped mux (Ok v) (Ok u) journal cycles failed all_sent swapped = swapped
