-- From what a run did to what it leaves of the texts of its files.
use Rattle.std.proofs.Common.{◌≡◌, inl, inr, ℕ, ◌+◌, ◌<◌, ◌≤◌, arith, List, [], ◌∷◌, ◌++◌, length, map, refl, sym, ap, ◌∙◌, subst}
use Rattle.std.specs.Prelude.{Option, Some, None, Ok, Err, Result}
use Rattle.std.specs.Io.KnownBytes.{IsAtEnd}
use Rattle.std.proofs.Math.Seq.{take-length}
use Rattle.si_causes.specs.Causes.{Rose}
use Rattle.si_causes.specs.Opening.{Files, GivesFile, file_at}
use Rattle.si_causes.specs.Reading.{Reading, fresh, text_left}
use Rattle.si_causes.specs.declared.stop.ReadStop.TheVariants.{Failed, TooLong as Overlong}
use Rattle.si_causes.proofs.CauseFacts.{Rose-from}
use Rattle.si_causes.proofs.TextFacts.{fresh_text}
use Rattle.mux_model.specs.declared.mux.Mux.{Mux}
use Rattle.mux_config.specs.Reads.{ReadMux}
use Rattle.mux_config.specs.Texts.{ahead_of}
use Rattle.mux_config.proofs.Reading.{mux_read}
use Rattle.si_time.specs.declared.moment.Moment.{Moment}
use Rattle.input_lines.specs.declared.stop.EditStop.{EditStop}
use Rattle.input_lines.specs.declared.stop.EditStop.TheVariants as edit
use Rattle.input_lines.specs.Ahead.{ahead}
use Rattle.script_lines.specs.Edits.{edits_ahead}
use Rattle.journal_model.specs.declared.step.Entry.{Entry}
use Rattle.journal_model.specs.Steps.{command_of}
use Rattle.desk_hall.specs.Reads.{HasReadCause, Stream, ToldDid, commands_by, edit_step}
use Rattle.turn_lock.specs.Knowledge.{TableId}
use Rattle.headend_jobs.specs.declared.jobs.FeedJob.{FeedJob}
use Rattle.headend_jobs.specs.declared.live.LiveStop.{LiveStop}
use Rattle.headend_jobs.specs.declared.live.LiveStop.TheVariants as live
use Rattle.headend_jobs.specs.Callers.{CallerRead, CommandsAre, FeedsRead}
use Rattle.headend_jobs.specs.Jobs.{FeedsDid as TheyDid, Streams, lines_of, new_feeds, stops_of}
use Rattle.headend_jobs.specs.Live.{LastMade}
use Rattle.headend_jobs.specs.Ran.{Taken}
use Rattle.headend_jobs.specs.Stops.{feeds_stop, halts, run_stop}
use Rattle.headend_jobs.specs.Ticking.{tick_of}
use Rattle.journal_air.specs.declared.send.SendStop.{SendStop}
use Rattle.headend_live.specs.declared.live.LivePlan.{LivePlan}
use Rattle.headend_live.specs.declared.live.LiveEnd.{LiveEnd}
use Rattle.headend_live.specs.Watched.{WatchedRan, watched_stop}
use Rattle.epg_report.specs.Rates.{rate_line}
use Rattle.epg_report.specs.Told.{OpenerAsked, ReportTaken, gave}
use Rattle.epg_live.specs.declared.reporting.LiveResult.{LiveResult}
use Rattle.epg_live.specs.Views.{unserved}
use Rattle.epg_live.specs.Opened.{AreOpened, HasTried, IfFailed, IsOpened}
use Rattle.epg_live.specs.Stops.{HasStatusCause, HaveReadCauses, live_status}
use Rattle.epg_live.specs.Met.{LiveMet}
use Rattle.epg_live.specs.Runs.{CallerDid, ControlTook, FeedsDid, Ran, live_call}
use Rattle.epg_live.proofs.DescribedFacts.{control_took, has_read}
use Rattle.epg_live.proofs.MetFacts.{of_jobs}
use Rattle.epg_live.proofs.OpenFacts.{opened_length}
use Rattle.epg_live.proofs.StopFacts.{done_control, done_none, done_told, memory_or, run_caused, unless_wanting}

-- ---- the feeds

text_of : (files : Files) (path : List ℕ) (left : Option (List ℕ)) → GivesFile (Some files) path left → (text : List ℕ) × (file_at path files ≡ Some text) × (left ≡ Some text)
text_of files path None holds = absurd holds
text_of files path (Some text) holds = (text, holds, refl)

feed_cause : (before now : ℕ) (was is : ℕ) (stop : Option EditStop) → was ≡ 0 → (0 < is → Rose before now) → HasReadCause was is stop → HasReadCause before now stop
feed_cause before now was is None none rose cause = tt
feed_cause before now was is (Some (edit.NoCommand n)) none rose cause = tt
feed_cause before now was is (Some (edit.Read Failed)) none rose (inl more) = rose (omega (arith, more))
feed_cause before now was is (Some (edit.Read Failed)) none rose (inr last) = rose (omega (arith, last))
feed_cause before now was is (Some (edit.Read Overlong)) none rose cause = tt
feed_cause before now was is (Some edit.Memory) none rose cause = tt

-- the count of the input's faults may have risen before the jobs started
read_from : (old mid now : ℕ) (stop : Option EditStop) → old ≤ mid → HasReadCause mid now stop → HasReadCause old now stop
read_from old mid now (Some (edit.Read Failed)) le cause = Rose-from old mid now le cause
read_from old mid now (Some (edit.Read Overlong)) le cause = tt
read_from old mid now other le cause = tt

module _ {F : Type 0} (s : Stream F) where
  feed_did : (files : Files) (journal : List Entry) (f : ℕ) (path : List ℕ) (reader : Reading F) (job : FeedJob F) → IsOpened s.left s.faults (Some files) path reader
      → CallerRead (edit_step f) edits_ahead s.left journal (f + 1) [] reader job.lines job.stop
      → (text : List ℕ) × (file_at path files ≡ Some text) × CallerDid journal (f + 1) (edit_step f) (edits_ahead (ahead_of text)) [] job.stop
  feed_did files journal f path reader job opened read =
      let (text, is, told) = text_of files path (s.left opened.source) opened.holds in
      let did : ToldDid (λ values. CommandsAre journal (f + 1) (commands_by (f + 1) (edit_step f) values ++ [])) (edits_ahead (ahead reader text)) job.stop =
      read.told (ap (λ (r : Reading F). r.stop) opened.unread) text (ap (λ (r : Reading F). text_left s.left r) opened.unread ∙ fresh_text s.left opened.source ∙ told) in (
        text,
        is,
        subst (λ (r : Reading F). CallerDid journal (f + 1) (edit_step f) (edits_ahead (ahead r text)) [] job.stop) opened.unread did,
      )

  feeds_did : (files : Files) (journal : List Entry) (f : ℕ) (paths : List (List ℕ)) (readers : List (Reading F)) (jobs : List (FeedJob F)) → AreOpened s.left s.faults (Some files) paths readers
      → FeedsRead s.left journal f readers jobs → FeedsDid files journal f paths (stops_of jobs)
  feeds_did files journal f [] [] [] opened read = tt
  feeds_did files journal f [] [] (job ∷ jobs) opened read = absurd read
  feeds_did files journal f [] (r ∷ rs) jobs opened read = absurd opened
  feeds_did files journal f (p ∷ ps) [] jobs opened read = absurd opened
  feeds_did files journal f (p ∷ ps) (r ∷ rs) [] opened read = absurd read
  feeds_did files journal f (p ∷ ps) (r ∷ rs) (job ∷ jobs) (one, opened) (number, read, more) =
      (feed_did files journal f p r job one read, feeds_did files journal (f + 1) ps rs jobs opened more)

  feeds_caused : (turns : TableId) (mux : Mux) (before now f : ℕ) (paths : List (List ℕ)) (known : Option Files) (readers : List (Reading F)) (jobs : List (FeedJob F)) → AreOpened s.left s.faults known paths readers
      → TheyDid s (new_feeds turns mux f readers) jobs → IfFailed s.faults (Rose before now) (lines_of jobs) → HaveReadCauses before now (stops_of jobs)
  feeds_caused turns mux before now f [] known [] [] opened did rose = tt
  feeds_caused turns mux before now f [] known [] (job ∷ jobs) opened did rose = absurd did
  feeds_caused turns mux before now f [] known (r ∷ rs) jobs opened did rose = absurd opened
  feeds_caused turns mux before now f (p ∷ ps) known [] jobs opened did rose = absurd opened
  feeds_caused turns mux before now f (p ∷ ps) known (r ∷ rs) [] opened did rose = absurd did
  feeds_caused turns mux before now f (p ∷ ps) known (r ∷ rs) (job ∷ jobs) (one, opened) (did, more) (here, rose) = (
    feed_cause before now (s.faults r.source) (s.faults job.lines.source) job.stop (ap (λ (o : Reading F). s.faults o.source) one.unread ∙ one.sound) here (did.read.cause (ap (λ (o : Reading F). o.stop) one.unread)),
    feeds_caused turns mux before now (f + 1) ps known rs jobs opened more rose,
  )

-- ---- the run

-- where the control stopped it made no last turns
halted_none : {E X Y : Type 0} (told : Option Moment) (player : Result (Unit {0}) E) (stop : X) (feeds : Option Y) (who : ℕ) (final : List Entry) (sent : Result (Unit {0}) SendStop) → LastMade (halts player (Some stop) feeds) told who final sent → final ≡ []
halted_none told (Ok u) stop feeds who final sent last = last
halted_none told (Err e) stop feeds who final sent last = last

abbrev taken_of : ReportTaken → Taken
taken_of air = record { before = air.old; now = air.new; faults_before = air.faults_old; faults_now = air.faults_new }

-- what is reported of a run whose jobs came to this end
abbrev pub told_of : {F S : Type 0} → Mux → LiveEnd F S → LiveResult
told_of mux end = record {
  desk = Some end.desk;
  observed = record { dones = end.dones; views = end.views; guide = end.heard; rate = mux.rate; tally = end.tally };
  met = live_status end.stop;
}

module _ {F S : Type 0} (st : Streams F S) (mux : Mux) (plan : LivePlan) (feeds : List (Reading F)) (control : Reading S) (paths : List (List ℕ)) (opener : OpenerAsked) (source : S) (air : ReportTaken)
    (end : LiveEnd F S) (w : WatchedRan st mux plan feeds control (taken_of air) end) (read : ReadMux st.control.left st.control.faults st.control.same (fresh source) control (Ok mux))
    (opened : AreOpened st.feeds.left st.feeds.faults opener.files paths feeds) (tried : HasTried opener.tried_old opener.tried_new paths)
    (rose : IfFailed st.feeds.faults (Rose opener.read_old opener.read_new) end.feeds.items) (served : unserved mux plan.views ≡ None) where
  abbrev now : S
  now = end.control.source

  abbrev journal : List Entry
  journal = end.desk.entries

  abbrev stop : Option EditStop
  stop = w.ran.did.control.stop

  abbrev fed : Option LiveStop
  fed = feeds_stop None 1 (stops_of w.ran.did.feeds)

  going : control.stop ≡ None
  going = ((mux_read st.control.left st.control.faults st.control.same (fresh source) control mux read).takes refl).looked.going

  source_is : now ≡ w.ran.did.control.lines.source
  source_is = ap (λ (r : Reading S). r.source) w.ran.control_is

  stop_is : end.stop ≡ watched_stop w.wanting (run_stop w.jobs.sent stop fed)
  stop_is = w.stop_is ∙ ap (watched_stop w.wanting) (w.ran.stop_is ∙ ap (λ o. run_stop w.jobs.sent o w.jobs.feed) w.ran.control_stop ∙ ap (run_stop w.jobs.sent stop) w.ran.feed_stop)

  causes : HaveReadCauses opener.read_old opener.read_new (stops_of w.ran.did.feeds)
  causes = feeds_caused st.feeds w.ran.turns mux opener.read_old opener.read_new 1 paths opener.files feeds w.ran.did.feeds opened w.ran.did.feeds_did (subst (IfFailed st.feeds.faults (Rose opener.read_old opener.read_new)) w.ran.feeds_are rose)

  control_cause : HasReadCause (st.control.faults source) (st.control.faults now) stop
  control_cause = subst (λ (s : S). HasReadCause (st.control.faults source) (st.control.faults s) stop) (sym source_is)
      (read_from (st.control.faults source) (st.control.faults control.source) (st.control.faults w.ran.did.control.lines.source) stop read.reads.later (w.ran.did.control_did.cause going))

  ran_of : (text : List ℕ) → st.control.left source ≡ Some text → (files : Files) → opener.files ≡ Some files → (end.stop ≡ Some live.Memory → ⊥)
      → Ran (live_call paths plan text files opener (gave st.control.left st.control.faults source now) air) journal (told_of mux end).observed (live_status end.stop)
  ran_of text tells files known other =
      let has = has_read st.control.left st.control.faults st.control.same control source text mux tells read in
      let opened_files = subst (λ (o : Option Files). AreOpened st.feeds.left st.feeds.faults o paths feeds) known opened in
      let tick = tick_of mux journal plan.cycles in
      let low : w.ran.did.control.pass.own.low ≡ 0 = ap (λ z. z.own.low) w.ran.did.control_did.did.1.gained in
      let last = subst (λ (k : ℕ). LastMade (halts w.ran.did.player.end stop fed) tick k w.ran.did.final w.jobs.sent) low w.ran.did.last in
      let none : stop ≡ Some (edit.Read Failed) → map command_of w.ran.did.final ≡ [] = (λ e. ap (map command_of) (halted_none tick w.ran.did.player.end (edit.Read Failed) fed 0 w.ran.did.final w.jobs.sent
      (subst (λ (o : Option EditStop). LastMade (halts w.ran.did.player.end o fed) tick 0 w.ran.did.final w.jobs.sent) e last))) in (
        mux,
        ahead control has.read.rest,
        has.read.reads,
        record {
          player = w.ran.did.player.end;
          sent = w.jobs.sent;
          control_stop = stop;
          feed_stops = stops_of w.ran.did.feeds;
          final = w.ran.did.final;
          journal_is = record {
            legal = w.ran.did.journal_did.legal;
            control_did = w.ran.commands.control_read.told going has.read.rest has.read.told;
            control_took = subst (λ (s : S). ControlTook text (st.control.left s) mux journal stop) (sym source_is)
                (control_took st.control.left st.control.faults st.control.same text mux control w.ran.did.control.lines journal (map command_of w.ran.did.final) stop has (w.ran.commands.control_read.taken going) none);
            player_did = w.ran.commands.player_swapped;
            feeds_did = feeds_did st.feeds files journal 1 paths feeds w.ran.did.feeds opened_files w.ran.commands.feeds_read;
            others = λ k le. w.ran.commands.others k (omega (arith, le, opened_length st.feeds.left st.feeds.faults (Some files) paths feeds opened_files));
            front = w.ran.did.journal_did.front;
            ends = w.ran.did.journal_did.ends;
          };
          last = last;
          failed = w.ran.did.failed;
          status_is = ap live_status (unless_wanting w.wanting end.stop (run_stop w.jobs.sent stop fed) stop_is other);
          control_cause = control_cause;
          causes = causes;
          air_is = w.ran.did.air;
          was_heard = λ sent knows. let heard = w.whole sent knows other in record { taken = heard.taken; gave = heard.gave; lines = heard.lines; guide = heard.guide };
          told = done_told end.heard end.stop (live_status end.stop) refl w.told;
          served = served;
          viewed = λ done. (end.viewers, w.viewed (done_none end.stop done));
          unviewed = λ other. w.unviewed (λ none. other (ap live_status none));
          rated = ap (rate_line mux.rate) (w.tally other);
        },
      )

  -- what a run met whose jobs came to this end
  pub jobs_met : LiveMet paths plan opener (gave st.control.left st.control.faults source now) air (told_of mux end)
  jobs_met =
      let status = of_jobs end.stop in
      record {
        met = λ text tells files known. elim (memory_or end.stop) [
          | inl memory ↦ inl (ap live_status memory)
          | inr other ↦ inr (inr (ran_of text tells files known other, tried))
        ];
        known = status.known;
        said = status.said;
        asked_for = (length paths, subst (HasTried opener.tried_old opener.tried_new) (sym (take-length paths)) tried, status.all_asked (length paths));
        end = λ done. subst (λ (s : S). IsAtEnd (st.control.left s)) (sym source_is) (w.ran.did.control_did.end (done_control w.wanting end.stop w.jobs.sent stop fed stop_is done));
        cause = subst (λ (o : Option LiveStop). HasStatusCause (st.control.faults source) (st.control.faults now) opener.read_old opener.read_new air.faults_old air.faults_new (live_status o)) (sym stop_is)
            (run_caused (st.control.faults source) (st.control.faults now) opener.read_old opener.read_new air.faults_old air.faults_new w.wanting w.jobs.sent stop (stops_of w.ran.did.feeds) w.ran.cause control_cause causes);
        open_cause = λ f e. absurd (status.not_open f e);
      }

-- the input is the one that was lent
pub watched_same : {F S : Type 0} (st : Streams F S) (mux : Mux) (plan : LivePlan) (feeds : List (Reading F)) (control : Reading S) (air : Taken) (end : LiveEnd F S) → WatchedRan st mux plan feeds control air end
    → st.control.same control.source end.control.source
watched_same {S = S} st mux plan feeds control air end w =
    subst (λ (s : S). st.control.same control.source s) (sym (ap (λ (r : Reading S). r.source) w.ran.control_is)) w.ran.did.control_did.same
