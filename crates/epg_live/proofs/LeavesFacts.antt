-- What a run leaves, from what it met and how its report ended: what it sent is heard as it should be, and its monitor shows what is on air at its end.
use Rattle.std.proofs.Common.{◌≡◌, ◌≤◌, ◌++◌, ◌∷◌, [], append_assoc, inl, inr, ℕ, true, false, List, length, refl, sym, ap, ◌∙◌, subst, map, drop}
use Rattle.std.specs.Prelude.{Option, Some, None, IfSome, IsSome, Ok, Err, Result}
use Rattle.std.specs.List.{AllByRecursion}
use Rattle.headend_live.specs.declared.live.LivePlan.{LivePlan}
use Rattle.si_causes.specs.Opening.{Files}
use Rattle.mux_model.specs.declared.mux.Mux.{Mux}
use Rattle.si_time.specs.declared.moment.Moment.{Moment}
use Rattle.mux_model.proofs.FedFacts.{fed_named}
use Rattle.mux_config.proofs.FineLines.{described_texts_are_kept, whole_descriptions_are_sound}
use Rattle.input_lines.specs.declared.stop.EditStop.{EditStop}
use Rattle.input_lines.specs.Ahead.{Ahead, Came}
use Rattle.journal_model.specs.declared.step.Entry.{Entry}
use Rattle.journal_model.specs.Steps.{command_of}
use Rattle.ts_packets.specs.WholePackets.{whole_packets}
use Rattle.air_model.specs.Air.{air_bytes}
use Rattle.air_monitor.proofs.Packets.{told_taken}
use Rattle.guide_screen.specs.declared.need.Heard.{Heard}
use Rattle.guide_receiver.specs.Guides.{guide_of}
use Rattle.journal_air.specs.JournalScreenShown.{IsAsRead}
use Rattle.journal_air.specs.Last.{EndsPublished, IsShownLast}
use Rattle.journal_air.proofs.Last.{journals_last}
use Rattle.headend_jobs.specs.declared.live.LiveStop.{LiveStop}
use Rattle.journal_air.specs.declared.send.SendStop.{SendStop}
use Rattle.journal_air.specs.declared.send.SendStop.TheVariants as send
use Rattle.journal_air.specs.AirOf.{AirDid, AirOf}
use Rattle.headend_jobs.specs.Live.{LastMade}
use Rattle.headend_jobs.specs.Stops.{and_stop, control_stop, feeds_stop, halts, run_stop, sent_stop}
use Rattle.headend_live.specs.Watched.{guide_of_air}
use Rattle.journal_air.proofs.Sent.{air_sent}
use Rattle.journal_text.specs.Back.{IsOfLines, IsWritten}
use Rattle.headend_jobs.specs.Ticking.{tick_by, tick_of}
use Rattle.headend_jobs.specs.Whole.{final_commands}
use Rattle.epg_report.specs.declared.status.Status.{Status}
use Rattle.epg_report.specs.declared.status.Status.TheVariants.{Done, Memory}
use Rattle.epg_report.specs.Told.{OpenerAsked, ReportTaken, SourceGave}
use Rattle.epg_live.specs.declared.reporting.Observed.{Observed}
use Rattle.mux_config.specs.Texts.{ahead_of, described}
use Rattle.epg_live.specs.Runs.{EndsBefore, JobsRan, LiveCall, live_call}
use Rattle.epg_report.specs.Ends.{ReportEnds, or_report}
use Rattle.epg_live.specs.Ends.{HasMet, HasMetAsking, run_text}
use Rattle.epg_live.specs.Leaves.{LeavesLive}
use Rattle.headend_live.proofs.Viewed.{and_none}
use Rattle.epg_live.proofs.StopFacts.{done_none, no_control}
use Rattle.epg_live.proofs.ReportFacts.{is_script, none_is_script}
use Rattle.epg_live.proofs.TypedFacts.{run_of_lines, run_typed}

-- ---- a run that nothing stopped

-- the control made its last turns, where nothing stopped the run
pub last_made : (told : Option Moment) (player sent : Result (Unit {0}) SendStop) (control : Option EditStop) (feeds : Option LiveStop) (final : List Entry)
    → ((stop : SendStop) → player ≡ Err stop → sent ≡ Err stop) → sent_stop sent ≡ None → control ≡ None → feeds ≡ None
    → LastMade (halts player control feeds) told 0 final sent → map command_of final ≡ tick_by 0 told ++ final_commands 0
last_made told player (Err send.Air) control feeds final failed all_sent none fed last = cc all_sent
last_made told player (Err send.Memory) control feeds final failed all_sent none fed last = cc all_sent
last_made told (Err stop) (Ok u) control feeds final failed all_sent none fed last = cc (failed stop refl)
last_made told (Ok v) (Ok u) (Some stop) feeds final failed all_sent none fed last = cc none
last_made told (Ok v) (Ok u) None (Some stop) final failed all_sent none fed last = cc fed
last_made told (Ok v) (Ok u) None None final failed all_sent none fed last = last

-- A journal that ends with a tick, if any, and then a publish and two swaps, ends with these.
pub ends_published : (told : Option Moment) (journal front final : List Entry) → journal ≡ front ++ final
    → map command_of final ≡ tick_by 0 told ++ final_commands 0 → EndsPublished 0 journal
ends_published None journal front final ends commands = record { front = front; final = final; ends = ends; commands = commands }
ends_published (Some at) journal front [] ends commands = cc commands
ends_published (Some at) journal front (e ∷ final) ends commands = record {
  front = front ++ e ∷ [];
  final = final;
  ends = ends ∙ sym (append_assoc front (e ∷ []) final);
  commands = cc commands;
}

-- and the air took all cycles
all_aired : (mux : Mux) (journal : List Entry) (before now : Option (List ℕ)) (sent : Result (Unit {0}) SendStop) → sent_stop sent ≡ None → AirDid mux journal before now sent
    → AirOf mux journal before now
all_aired mux journal before now (Ok u) all_sent did = did
all_aired mux journal before now (Err send.Air) all_sent did = cc all_sent
all_aired mux journal before now (Err send.Memory) all_sent did = cc all_sent

told_guide : (guide : Option Heard) (heard : Heard) → IsSome guide → IfSome guide (λ (h : Heard). h ≡ heard) → guide ≡ Some heard
told_guide None heard some is = (let no : false ≡ true = some in cc no)
told_guide (Some h) heard some is = ap (λ (x : Heard). Some x) is

module _ (call : LiveCall) (mux : Mux) (behind : Ahead) (journal : List Entry) (observed : Observed) (status : Status) (whole : described call.text ≡ Came (Ok mux) behind)
    (ran : JobsRan call mux behind journal observed status) where
  pub as_read : IsAsRead mux journal
  as_read =
      let typed = run_typed call mux behind journal observed status ran in
      let kept = described_texts_are_kept (ahead_of call.text) mux behind whole in
      record {
        sound = whole_descriptions_are_sound (ahead_of call.text) mux behind whole;
        network = kept.0;
        services = fed_named mux kept.1;
        edits = typed.0;
        steps = typed.1;
      }

  pub ran_shown : status ≡ Done → (sent : List ℕ) → call.before ≡ Some sent → IsShownLast call.plan.join mux journal call.before call.now observed.guide
  ran_shown done sent knows =
      let fed = feeds_stop None 1 ran.feed_stops in
      let none = done_none (run_stop ran.sent ran.control_stop fed) (sym ran.status_is ∙ done) in
      let stops = and_none (sent_stop ran.sent) (and_stop (control_stop ran.control_stop) fed) none in
      let jobs = and_none (control_stop ran.control_stop) fed stops.1 in
      let air = all_aired mux journal call.before call.now ran.sent stops.0 ran.air_is in
      let was = ran.was_heard sent knows in
      let taken = told_taken call.before call.now sent was.taken (air_bytes air.cycles) knows was.gave air.bytes in
      let guide = told_guide observed.guide (guide_of_air call.plan.join was.taken) (ran.told.1 done) was.guide in
      let told = tick_of mux journal call.plan.cycles in
      let last = last_made told ran.player ran.sent ran.control_stop fed ran.final ran.failed stops.0 (no_control ran.control_stop jobs.0) jobs.1 ran.last in
      journals_last 0 call.plan.join mux journal as_read ran.journal_is.legal (ends_published told journal ran.journal_is.front ran.final ran.journal_is.ends last)
      air.cycles air.is_air call.before call.now air.bytes observed.guide (guide ∙ ap (λ (bytes : List ℕ). Some (guide_of (drop call.plan.join (whole_packets bytes)))) taken)

-- ---- the run

pub by_memory : (text : List ℕ) (report : ReportTaken) (met status : Status) → met ≡ Memory → ReportEnds met text report status → status ≡ Memory
by_memory text report met status is (inl (took, same)) = same ∙ is
by_memory text report met status is (inr (rose, took, same)) = same ∙ ap or_report is

-- what was met, whatever was asked for
pub met_of : (call : LiveCall) (tried_before tried_now : Option (List (List ℕ))) (journal : List Entry) (observed : Observed) (met : Status) → HasMetAsking call tried_before tried_now journal observed met
    → HasMet call journal observed met
met_of call tried_before tried_now journal observed met (inl memory) = inl memory
met_of call tried_before tried_now journal observed met (inr (inl none)) = inr (inl none.0)
met_of call tried_before tried_now journal observed met (inr (inr ran)) = inr (inr ran.0)

pub leaves : (paths : List (List ℕ)) (plan : LivePlan) (text : List ℕ) (files : Files) (opener : OpenerAsked) (input : SourceGave) (air report : ReportTaken) (journal : List Entry) (observed : Observed) (met status : Status)
    → length paths ≤ 255 → AllByRecursion IsWritten journal → HasMetAsking (live_call paths plan text files opener input air) opener.tried_old opener.tried_new journal observed met
    → ReportEnds met (run_text journal observed) report status → LeavesLive paths plan text files opener input air report status
leaves paths plan text files opener input air report journal observed met status few written (inl memory) ends = inl (by_memory (run_text journal observed) report met status memory ends)
leaves paths plan text files opener input air report journal observed met status few written (inr (inl (none, tried))) ends = inr (record {
  journal = journal;
  observed = observed;
  met = met;
  ran = inr (inl (none, tried));
  reported = ends;
  of_lines = subst (AllByRecursion IsOfLines) (sym none.journal_is) tt;
  again = none_is_script text journal none.journal_is;
  sent = inl none.sent;
  shown = λ done sent knows. absurd (subst (EndsBefore (live_call paths plan text files opener input air)) done none.why);
})
leaves paths plan text files opener input air report journal observed met status few written (inr (inr ((mux, behind, whole, ran), tried))) ends =
    let call = live_call paths plan text files opener input air in
    let read = as_read call mux behind journal observed met whole ran in
    inr (record {
      journal = journal;
      observed = observed;
      met = met;
      ran = inr (inr ((mux, behind, whole, ran), tried));
      reported = ends;
      of_lines = run_of_lines call mux behind journal observed met ran read.sound.sound few written;
      again = is_script text mux behind journal whole ran.journal_is.legal;
      sent = inr (mux, behind, whole, air_sent mux journal air.old air.new ran.sent read ran.journal_is.legal ran.air_is);
      shown = λ done sent knows. (mux, behind, whole, ran_shown call mux behind journal observed met whole ran done sent knows);
    })
