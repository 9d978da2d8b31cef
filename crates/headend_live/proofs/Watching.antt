-- What is heard of the air of a run.
use Rattle.std.proofs.Common.{◌≡◌, ◌≢◌, ◌+◌, ℕ, ◌/◌, Bool, true, false, List, [], ◌∷◌, take, drop, map, refl, sym, ap, ◌∙◌, subst, append-nil}
use Rattle.std.specs.Prelude.{Option, Some, None, IfSome, Ok, Err, Result, IfOk, OnErr}
use Rattle.mux_model.specs.declared.mux.Mux.{Mux}
use Rattle.mux_model.specs.Sound.{IsSound}
use Rattle.si_causes.specs.Reading.{Reading}
use Rattle.ts_packets.specs.Bytes.{Packet, bytes_of_packet}
use Rattle.air_model.specs.Air.{air, air_bytes, airings_of}
use Rattle.air_model.proofs.Airs.{repeating-whole}
use Rattle.cycle_player.proofs.Sent.{sent_repeats}
use Rattle.journal_model.specs.declared.step.Entry.{Entry}
use Rattle.guide_receiver.specs.Heard.{Hearing}
use Rattle.guide_receiver.specs.Guides.{guide_of}
use Rattle.guide_screen.specs.declared.need.Heard.{Heard}
use Rattle.journal_air.specs.declared.send.SendStop.{SendStop}
use Rattle.air_monitor.specs.declared.done_line.DoneLine.{DoneLine}
use Rattle.air_monitor.specs.declared.monitor.MonitorLog.{MonitorLog}
use Rattle.air_monitor.specs.Heard.{AreInSync, HasTaken, HearsBy, WasHeard, WatchedOn, Watching}
use Rattle.ts_packets.specs.WholePackets.{whole_packets}
use Rattle.ts_packets.specs.Packets.{joined}
use Rattle.air_monitor.proofs.Packets.{heard_front, told_taken, was_heard}
use Rattle.ts_packets.proofs.WholePackets.{whole_packets-front}
use Rattle.journal_air.specs.AirOf.{AirDid}
use Rattle.journal_air.proofs.Sent.{did_sent}
use Rattle.journal_air.specs.Air.{airings}
use Rattle.air_laws.proofs.Coherent.{packets_whole, packets_joined}
use Rattle.headend_jobs.specs.declared.live.Ended.{Ended}
use Rattle.headend_jobs.specs.declared.live.LiveStop.{LiveStop}
use Rattle.headend_jobs.specs.declared.live.LiveStop.TheVariants as live
use Rattle.headend_jobs.specs.Jobs.{Streams}
use Rattle.headend_jobs.specs.Posting.{posts_of}
use Rattle.headend_jobs.specs.Ran.{HallRan, Taken, taken}
use Rattle.headend_live.specs.declared.live.LiveEnd.{LiveEnd}
use Rattle.headend_live.specs.declared.live.LivePlan.{LivePlan}
use Rattle.headend_live.specs.declared.live.Observed.{Observed}
use Rattle.headend_live.specs.SentLive.{SentLive}
use Rattle.headend_live.specs.Viewing.{AreViewed}
use Rattle.headend_live.specs.Watched.{HeardOfAir, HeardWhole, IsNotTold, IsTold, WatchedRan, watched_stop}
use Rattle.headend_live.proofs.Sending.{sent_live}
use Rattle.headend_live.proofs.Viewed.{all_sent, no_stop, tally_known}

packets_sync : (ps : List Packet) → AreInSync (map bytes_of_packet ps)
packets_sync [] = tt
packets_sync (p ∷ ps) = (refl, packets_sync ps)

pub heard_of_air : (mux : Mux) (journal : List Entry) (join : ℕ) (before now : Option (List ℕ)) (sent : Result (Unit {0}) SendStop) (wanting : Bool) (receiver : Hearing) (dones : List DoneLine) (bytes : List ℕ)
    → before ≡ Some bytes → AirDid mux journal before now sent → WasHeard join before now wanting receiver dones → HeardOfAir join before now wanting receiver dones
heard_of_air mux journal join before now sent wanting receiver dones bytes told did was =
    let front = did_sent mux journal before now sent did in
    let packets = map bytes_of_packet (air front.cycles) in
    let repeats = sent_repeats mux.rate (airings mux journal) before now front in
    let whole = packets_whole (air front.cycles) (repeating-whole (airings_of front.cycles) front.cycles repeats) in
    let is : was.taken ≡ take front.size (joined packets) = told_taken before now bytes was.taken (take front.size (air_bytes front.cycles)) told was.gave front.bytes ∙ ap (take front.size) (packets_joined (air front.cycles)) in
    let heard = heard_front join front.size was.taken packets wanting receiver dones whole (packets_sync (air front.cycles)) is was.heard in
    let are : whole_packets was.taken ≡ take (front.size / 188) packets = ap whole_packets is ∙ whole_packets-front packets front.size whole in
    record {
      taken = was.taken;
      gave = was.gave;
      heard = subst (λ (ps : List (List ℕ)). HearsBy wanting join (drop join ps) receiver dones) (sym are) heard;
    }

-- all completions are a front of them
or_wanting : (join : ℕ) (before now : Option (List ℕ)) (was wanting : Bool) (receiver : Hearing) (dones : List DoneLine) → (was ≡ true → wanting ≡ true) → HeardOfAir join before now was receiver dones
    → HeardOfAir join before now wanting receiver dones
or_wanting join before now false false receiver dones more h = h
or_wanting join before now true true receiver dones more h = h
or_wanting join before now true false receiver dones more h = cc (more refl)
or_wanting join before now false true receiver dones more h =
    record { taken = h.taken; gave = h.gave; heard = ([], sym h.heard.1 ∙ sym (append-nil dones)) }

-- where the stop is no want of memory, the lines are exact
heard_whole : (join : ℕ) (before now : Option (List ℕ)) (wanting : Bool) (receiver : Hearing) (dones : List DoneLine) (heard : Option Heard) (stop : Option LiveStop) → HeardOfAir join before now wanting receiver dones
    → ((join : ℕ) (packets : List (List ℕ)) → HearsBy false join packets receiver dones → IfSome heard (λ (h : Heard). h ≡ guide_of packets))
    → watched_stop wanting stop ≢ Some live.Memory → HeardWhole join before now receiver dones heard
heard_whole join before now false receiver dones heard stop h guide other =
    record { taken = h.taken; gave = h.gave; stands = h.heard.0; lines = h.heard.1; guide = guide join (drop join (whole_packets h.taken)) h.heard }
heard_whole join before now true receiver dones heard stop h guide other = absurd (other refl)

-- What a log says was heard of the air that a monitor was lent, from first to last.
pub log_heard : {A : Type 0} (written : A → Option (List ℕ)) (is_same : A → A → Type 0) (m n : Watching A) (log : MonitorLog) (join : ℕ) (first last : A) → HasTaken [] m.part m.listener → WatchedOn written is_same m n
    → m.listener.join ≡ join → m.air ≡ first → n.air ≡ last → log.dones ≡ n.listener.dones → log.receiver ≡ n.listener.receiver → log.wanting ≡ n.listener.wanting
    → WasHeard join (written first) (written last) log.wanting log.receiver log.dones
log_heard written is_same m n log join first last has on join_is first_is last_is dones receiver wanting =
    rw (dones, receiver, wanting, sym join_is, sym first_is, sym last_is) (was_heard written is_same m n has on)

-- nothing is told of a run that stopped
pub not_told : (log : MonitorLog) (met : Option LiveStop) (stop : LiveStop) (wanting : Bool) (o : Observed) → (log.wanting ≡ true → wanting ≡ true) → watched_stop wanting met ≡ Some stop → IsNotTold stop o → IsTold log met o
not_told log met stop wanting o deaf is none = record {
  wanting = wanting;
  deaf = deaf;
  stop_is = none.stop_is ∙ sym is;
  told = (λ some. absurd (let no : false ≡ true = rw none.guide at some in cc no), λ e. absurd (let no : Some stop ≡ None = sym none.stop_is ∙ e in cc no));
  guide = λ join packets by. subst (λ (h : Option Heard). IfSome h (λ (x : Heard). x ≡ guide_of packets)) (sym none.guide) tt;
  unviewed = λ other. none.lines;
}

not_wanting : (wanting : Bool) (met : Option LiveStop) → watched_stop wanting met ≡ None → wanting ≡ false
not_wanting true met e = cc e
not_wanting false met e = refl

-- all is, of one that did not
pub told_all : (log : MonitorLog) (met : Option LiveStop) (o : Observed) → watched_stop log.wanting met ≡ None → (log.wanting ≡ false → IsTold log None o) → IsTold log met o
told_all log met o none told = subst (λ (s : Option LiveStop). IsTold log s o) (sym (no_stop log.wanting met none)) (told (not_wanting log.wanting met none))

-- what is told of an end
abbrev pub end_told : {F S : Type 0} → Ended F S → MonitorLog → Observed → LiveEnd F S
end_told jobs log told = record {
  desk = jobs.desk;
  tally = jobs.tally;
  dones = log.dones;
  heard = told.guide;
  views = told.views.lines;
  viewers = told.views.viewers;
  stop = told.stop;
  feeds = jobs.inputs.feeds;
  control = jobs.inputs.control;
}

module _ {F S : Type 0} (st : Streams F S) (mux : Mux) (plan : LivePlan) (feeds : List (Reading F)) (control : Reading S) (air : Taken) (jobs : Ended F S) (log : MonitorLog) (told : Observed) where
  -- What a run did, from what its jobs did, what was heard and what is told of it.
  pub watched_ran : HallRan st mux plan.cycles feeds control air jobs → WasHeard plan.join air.before air.now log.wanting log.receiver log.dones → IsTold log jobs.stop told
      → (told.stop ≡ None → jobs.sent ≡ Ok tt → AreViewed (posts_of mux jobs.desk.entries) (plan.cycles + 1) plan.views told.views.viewers told.views.lines)
      → WatchedRan st mux plan feeds control air (end_told jobs log told)
  watched_ran ran was t viewed =
      let heard : (bytes : List ℕ) → air.before ≡ Some bytes → HeardOfAir plan.join air.before air.now t.wanting log.receiver log.dones = λ bytes tells.
      or_wanting plan.join air.before air.now log.wanting t.wanting log.receiver log.dones t.deaf
      (heard_of_air mux jobs.desk.entries plan.join air.before air.now jobs.sent log.wanting log.receiver log.dones bytes tells ran.did.air was) in
      record {
        jobs = jobs;
        ran = ran;
        wanting = t.wanting;
        receiver = log.receiver;
        stop_is = t.stop_is;
        heard = heard;
        whole = λ bytes tells other. heard_whole plan.join air.before air.now t.wanting log.receiver log.dones told.guide jobs.stop (heard bytes tells) t.guide (λ is. other (t.stop_is ∙ is));
        told = t.told;
        viewed = λ none. viewed none (all_sent t.wanting jobs.sent _ (sym (t.stop_is ∙ ap (watched_stop t.wanting) ran.stop_is) ∙ none));
        unviewed = t.unviewed;
        tally = tally_known mux jobs.desk.entries jobs.tally t.wanting jobs.sent _ told.stop (t.stop_is ∙ ap (watched_stop t.wanting) ran.stop_is) ran.tally;
      }

-- so it did, and the air is the one that was lent
pub end_ran : {F S A E : Type 0} (st : Streams F S) (written : A → Option (List ℕ)) (faults : A → ℕ) (mux m : Mux) (plan p : LivePlan) (feeds : List (Reading F)) (control : Reading S) (first last new : A) (r : Result (LiveEnd F S) E)
    → m ≡ mux → p ≡ plan → new ≡ last → IfOk r (WatchedRan st m p feeds control (taken written faults first last)) → IfOk r (WatchedRan st mux plan feeds control (taken written faults first new))
end_ran st written faults mux m plan p feeds control first last new r mux_is plan_is gives ran =
    subst (λ a. IfOk r (WatchedRan st mux plan feeds control (taken written faults first a))) (sym gives)
    (subst (λ (q : LivePlan). IfOk r (WatchedRan st mux q feeds control (taken written faults first last))) plan_is
    (subst (λ (x : Mux). IfOk r (WatchedRan st x p feeds control (taken written faults first last))) mux_is ran))

-- an air that was lent is as it was, where the run did not begin
pub end_kept : {T E A B : Type 0} (now : B → A) (r : Result T E) (lent last : B) (new : A) → new ≡ now last → OnErr r (last ≡ lent) → OnErr r (new ≡ now lent)
end_kept now (Ok x) lent last new gives kept = tt
end_kept now (Err e) lent last new gives kept = gives ∙ ap now kept

-- what such a run sent
pub end_sent : {F S E : Type 0} (st : Streams F S) (mux : Mux) (plan : LivePlan) (feeds : List (Reading F)) (control : Reading S) (air : Taken) (r : Result (LiveEnd F S) E) → IsSound mux
    → IfOk r (WatchedRan st mux plan feeds control air) → IfOk r (λ (end : LiveEnd F S). SentLive mux end.desk.entries end.stop air.before air.now)
end_sent st mux plan feeds control air (Err e) sound ran = tt
end_sent st mux plan feeds control air (Ok end) sound w =
    sent_live mux end.desk.entries w.jobs.sent end.stop air.before air.now sound w.ran.did.journal_did.legal w.ran.did.air
    (λ none. all_sent w.wanting w.jobs.sent _ (sym (w.stop_is ∙ ap (watched_stop w.wanting) w.ran.stop_is) ∙ none))
