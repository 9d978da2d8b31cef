-- A script that was followed from a checkpoint, over the text of an input.
use Rattle.std.proofs.Common.{◌≡◌, ◌≤◌, ℕ, List, [], ◌++◌, length, refl, sym, ap, ◌∙◌, subst, inl, inr, append-nil}
use Rattle.std.specs.Prelude.{Bool, Option, Some, Ok, Err}
use Rattle.si_causes.proofs.CauseFacts.{Appends-nothing}
use Rattle.si_causes.specs.Opening.{Files, Tries, file_at}
use Rattle.si_causes.specs.Reading.{Reading, fresh_to}
use Rattle.input_lines.specs.Ahead.{Ahead, Came, Found, NoCommand as NoLine, Stop as LineStop, TooLong as PastEnd, ahead}
use Rattle.air_model.specs.Air.{Aired}
use Rattle.cycle_player.specs.Airs.{IsAirAt}
use Rattle.mux_model.specs.declared.mux.Mux.{Mux}
use Rattle.mux_config.specs.Descriptions.{Description}
use Rattle.mux_config.specs.Reads.{ReadMux}
use Rattle.mux_config.proofs.Reading.{mux_read}
use Rattle.journal_model.specs.declared.step.Entry.{Entry}
use Rattle.journal_air.specs.Air.{airings}
use Rattle.journal_air.specs.JournalScreenShown.{IsAsRead}
use Rattle.journal_air.proofs.Heard.{airs_heard}
use Rattle.desk_core.specs.Desks.{DeskState}
use Rattle.desk_core.specs.Journal.{Legal, publishes}
use Rattle.journal_air.specs.OnAir.{IsPlayerOf}
use Rattle.desk_checkpoint.specs.Steps.{folded, shift_of}
use Rattle.desk_checkpoint.specs.declared.start.Start.{Start}
use Rattle.epg_report.specs.declared.status.Status.{Status}
use Rattle.epg_report.specs.declared.status.Status.TheVariants.{BadCheckpoint, Memory, OpenFault, ReadFault, TooLong as PastLimit}
use Rattle.epg_report.specs.declared.status.Origin.TheVariants.{Input, Feed, Recording}
use Rattle.epg_report.specs.Asked.{AtPath}
use Rattle.epg_report.specs.Ends.{or_report}
use Rattle.epg_report.specs.Texts.{CanBeSaid, fault_lines}
use Rattle.epg_report.specs.Told.{OpenerAsked, ReportTaken, Reported}
use Rattle.epg_play.specs.Beginning.{BeginsAt, IsNotBegun}
use Rattle.epg_play.specs.Behind.{AirOn}
use Rattle.epg_play.specs.Checkpointed.{HasRun, IsCheckpoint, checkpoint_limit, checkpoint_of}
use Rattle.epg_play.specs.CheckpointRuns.{Nothing, NothingAsked}
use Rattle.epg_play.specs.Courses.{BeganAt}
use Rattle.epg_play.specs.Over.{LeavesBy}
use Rattle.epg_play.proofs.Bases.{begun_aired, begun_tallied, folded_base, nothing_folded}
use Rattle.epg_play.proofs.GoingOn.{IsBase}
use Rattle.epg_play.proofs.ReadBack.{begun_from, read_as, same_checkpoint}
use Rattle.epg_play.proofs.SentBehind.{whole_sent_behind}
use Rattle.epg_follow.specs.Behind.{FollowsBehind}
use Rattle.epg_follow.specs.Finish.{EndsIdle}
use Rattle.epg_follow.specs.Runs.{FollowResumes, HasFollowedOn, IsBehindMux, LeavesLong, RefusedAt}
use Rattle.epg_play.specs.Over.{described_within}
use Rattle.epg_play.specs.Script.{long_limit}
use Rattle.epg_follow.proofs.GoingFacts.{took}
use Rattle.epg_follow.proofs.LongFacts.{idle_ends, long_text}
use Rattle.epg_follow.proofs.MadeFacts.{none_made}
use Rattle.epg_follow.proofs.NewRuns.{followed_long}

-- ---- nothing more was sent

nothing_on : (mux : Mux) (journal : List Entry) (earlier : List Aired) (w : Option (List ℕ)) (f : ℕ) → HasRun mux journal earlier → AirOn mux journal [] earlier (took w w f f)
nothing_on mux journal earlier w f run =
    let same : journal ++ [] ≡ journal = append-nil journal in
    let airs : earlier ++ [] ≡ earlier = append-nil earlier in
    let read : IsAsRead mux (journal ++ []) = subst (IsAsRead mux) (sym same) run.read in
    let legal : Legal mux (journal ++ []) = subst (Legal mux) (sym same) run.folds.legal in
    let is : IsAirAt mux.rate (airings mux (journal ++ [])) (earlier ++ []) =
    subst (λ (l : List Entry). IsAirAt mux.rate (airings mux l) (earlier ++ [])) (sym same) (subst (IsAirAt mux.rate (airings mux journal)) (sym airs) run.is_air) in
    record {
      cycles = [];
      is_air = is;
      made = none_made mux.rate earlier;
      bytes = Appends-nothing w;
      heard = airs_heard mux (journal ++ []) (earlier ++ []) read legal is;
      sent = whole_sent_behind mux (journal ++ []) earlier read legal [] is (none_made mux.rate earlier);
    }

-- ---- no checkpoint

module _ (path : List ℕ) (files : Files) (keep : Bool) (opener : OpenerAsked) (w r0 r2 : Option (List ℕ)) (f g0 g2 : ℕ) (mux : Mux) (lines : Ahead) where
  abbrev air : ReportTaken
  air = took w w f f

  abbrev report : ReportTaken
  report = took r0 r2 g0 g2

  -- a file that holds the checkpoint of a journal is not refused
  refused : (stop : LineStop) → AtPath path files (λ bytes. checkpoint_of mux bytes ≡ Err stop) → (journal : List Entry) (earlier : List Aired) (bytes : List ℕ) → file_at path files ≡ Some bytes
      → length bytes ≤ checkpoint_limit → HasRun mux journal earlier → IsCheckpoint mux journal earlier bytes → ⊥
  refused stop at journal earlier bytes file le run is =
      let read = read_as mux journal earlier bytes run is le in
      let no = same_checkpoint path files mux at.bytes bytes (Err stop) read.0 at.file file at.is read.1 in
      cc no

  memory_only : Reported report (fault_lines Memory) → (journal : List Entry) (earlier : List Aired) → HasRun mux journal earlier → FollowsBehind keep mux journal earlier air report lines Memory
  memory_only took_it journal earlier run = record { k = 0; air_is = inl (inl (nothing_on mux journal earlier w f run)); report_is = took_it }

  pub not_begun : Tries opener.tried_old opener.tried_new path → (met : Status) → BeginsAt path files mux (Err met) → IsNotBegun met → Reported report (fault_lines met)
      → FollowResumes path files keep opener air report mux lines met
  not_begun tried (OpenFault n) at is line = record { asked = tried; refused = (at, (Appends-nothing w, line)); goes_on = λ journal earlier bytes file le run cp. tt }
  not_begun tried (BadCheckpoint n) at is line =
      record { asked = tried; refused = (at, (Appends-nothing w, line)); goes_on = λ journal earlier bytes file le run cp. absurd (refused (NoLine n) at journal earlier bytes file le run cp) }
  not_begun tried (PastLimit Recording) at is line =
      record { asked = tried; refused = (at, (Appends-nothing w, line)); goes_on = λ journal earlier bytes file le run cp. absurd (refused PastEnd at journal earlier bytes file le run cp) }
  not_begun tried (PastLimit Input) at is line = absurd is
  not_begun tried (PastLimit (Feed n)) at is line = absurd is
  not_begun tried (ReadFault Recording) at is line = record { asked = tried; refused = (Appends-nothing w, line); goes_on = λ journal earlier bytes file le run cp. tt }
  not_begun tried (ReadFault Input) at is line = absurd is
  not_begun tried (ReadFault (Feed n)) at is line = absurd is
  not_begun tried Memory at is line = record { asked = tried; refused = tt; goes_on = λ journal earlier bytes file le run cp. memory_only line journal earlier run }
  not_begun tried other at is line = absurd is

  pub memory_begun : Tries opener.tried_old opener.tried_new path → Reported report (fault_lines Memory) → FollowResumes path files keep opener air report mux lines Memory
  memory_begun tried line = record { asked = tried; refused = tt; goes_on = λ journal earlier bytes file le run cp. memory_only line journal earlier run }

pub begun_own : (met : Status) → IsNotBegun met → or_report met ≡ met
begun_own (OpenFault n) is = refl
begun_own (BadCheckpoint n) is = refl
begun_own (PastLimit origin) is = refl
begun_own (ReadFault origin) is = refl
begun_own Memory is = refl
begun_own other is = absurd is

pub begun_said : (met : Status) → IsNotBegun met → CanBeSaid met
begun_said (OpenFault n) is = tt
begun_said (BadCheckpoint n) is = tt
begun_said (PastLimit origin) is = tt
begun_said (ReadFault origin) is = tt
begun_said Memory is = tt
begun_said other is = absurd is

-- over the text
not_long : (Idle : Status → Type 0) (B : Mux → Ahead → Status → Type 0) (text : List ℕ) (left : Option (List ℕ)) (mux : Mux) (lines : Ahead) (met : Status)
    → described_within long_limit text ≡ Came (Ok mux) lines → IsNotBegun met → B mux lines met → LeavesLong Idle B text left met
not_long Idle B text left mux lines (OpenFault n) d is b = subst (λ (found : Found Description). LeavesBy Idle B found (OpenFault n)) (sym d) b
not_long Idle B text left mux lines (BadCheckpoint n) d is b = subst (λ (found : Found Description). LeavesBy Idle B found (BadCheckpoint n)) (sym d) b
not_long Idle B text left mux lines (PastLimit origin) d is b = subst (λ (found : Found Description). LeavesBy Idle B found (PastLimit origin)) (sym d) b
not_long Idle B text left mux lines (ReadFault Recording) d is b = subst (λ (found : Found Description). LeavesBy Idle B found (ReadFault Recording)) (sym d) b
not_long Idle B text left mux lines (ReadFault Input) d is b = absurd is
not_long Idle B text left mux lines (ReadFault (Feed n)) d is b = absurd is
not_long Idle B text left mux lines Memory d is b = inr (mux, lines, d, b)
not_long Idle B text left mux lines other d is b = absurd is

-- a start that goes on from the checkpoint of a journal is none of the refusals
refused_none : (path : List ℕ) (files : Files) (Idle : Status → Type 0) (mux : Mux) (t : Status) → IsBehindMux t → RefusedAt path files Idle mux t
refused_none path files Idle mux (OpenFault n) is = absurd is
refused_none path files Idle mux (ReadFault Recording) is = absurd is
refused_none path files Idle mux (ReadFault Input) is = tt
refused_none path files Idle mux (ReadFault (Feed n)) is = tt
refused_none path files Idle mux (PastLimit Recording) is = absurd is
refused_none path files Idle mux (PastLimit Input) is = tt
refused_none path files Idle mux (PastLimit (Feed n)) is = tt
refused_none path files Idle mux (BadCheckpoint n) is = absurd is
refused_none path files Idle mux other is = tt

module _ {S : Type 0} (keep : Bool) (left : S → Option (List ℕ)) (faults : S → ℕ) (alike : S → S → Type 0) (old mid : Reading S) (text : List ℕ) (mux : Mux)
    (path : List ℕ) (files : Files) (opener : OpenerAsked) (unread : old ≡ fresh_to long_limit old.source) (told : left old.source ≡ Some text) (read : ReadMux left faults alike old mid (Ok mux))
    (tried : Tries opener.tried_old opener.tried_new path) where
  -- the file holds no checkpoint
  pub refused_long : (met s : Status) (w r0 r2 : Option (List ℕ)) (f g0 g2 : ℕ) → BeginsAt path files mux (Err met) → IsNotBegun met → EndsIdle met (took r0 r2 g0 g2) s
      → LeavesLong (NothingAsked opener (took w w f f) (took r0 r2 g0 g2)) (FollowResumes path files keep opener (took w w f f) (took r0 r2 g0 g2)) text (left mid.source) s
  refused_long met s w r0 r2 f g0 g2 at is ends =
      let reads = mux_read left faults alike (fresh_to long_limit old.source) mid mux (subst (λ r. ReadMux left faults alike r mid (Ok mux)) unread read) in
      let d = reads.gives refl text (long_text left old.source text told) in
      let Idle = NothingAsked opener (took w w f f) (took r0 r2 g0 g2) in
      let B = FollowResumes path files keep opener (took w w f f) (took r0 r2 g0 g2) in
      idle_ends met s (took r0 r2 g0 g2) (LeavesLong Idle B text (left mid.source)) (begun_own met is) ends
      (λ line. not_long Idle B text (left mid.source) mux (ahead mid d.rest) met d.reads is (not_begun path files keep opener w r0 r2 f g0 g2 mux (ahead mid d.rest) tried met at is line))
      (λ line. inr (mux, ahead mid d.rest, d.reads, memory_begun path files keep opener w r0 r2 f g0 g2 mux (ahead mid d.rest) tried line))

  -- it was gone on from
  pub resumed_long : (new : Reading S) (start : Start) (a0 a1 r0 r2 : Option (List ℕ)) (f0 f1 g0 g2 : ℕ) (s : Status) → IsBehindMux s → BeganAt path files mux start
      → HasFollowedOn keep left mid new start (took a0 a1 f0 f1) (took r0 r2 g0 g2) s
      → LeavesLong (NothingAsked opener (took a0 a1 f0 f1) (took r0 r2 g0 g2)) (FollowResumes path files keep opener (took a0 a1 f0 f1) (took r0 r2 g0 g2)) text (left new.source) s
  resumed_long new start a0 a1 r0 r2 f0 f1 g0 g2 s known began on =
      let reads = mux_read left faults alike (fresh_to long_limit old.source) mid mux (subst (λ r. ReadMux left faults alike r mid (Ok mux)) unread read) in
      let d = reads.gives refl text (long_text left old.source text told) in
      followed_long keep left old.source mid new text mux told d (reads.takes refl) start a0 a1 r0 r2 f0 f1 g0 g2 s known on
      (NothingAsked opener (took a0 a1 f0 f1) (took r0 r2 g0 g2)) (FollowResumes path files keep opener (took a0 a1 f0 f1) (took r0 r2 g0 g2))
      (λ ls t is any. record {
        asked = tried;
        refused = refused_none path files (Nothing (took a0 a1 f0 f1) (took r0 r2 g0 g2)) mux t is;
        goes_on = λ journal earlier bytes file le run cp.
            let from = begun_from path files mux journal earlier bytes start began file le run cp in
            let sound = run.folds.sound in
            let legal = run.folds.legal in
            let entries : start.desk.entries ≡ folded mux journal = ap (λ (x : DeskState). x.entries) from.desk in
            let none : airings start.desk.mux start.desk.entries ≡ [] = ap (λ (x : DeskState). airings x.mux x.entries) from.desk ∙ nothing_folded mux journal sound legal in
            let player_of = subst (λ (m : Mux). IsPlayerOf m start.player) (sym began.is.mux_is) began.is.player_of in
            any (shift_of (publishes journal)) journal earlier
            (subst (λ (l : List Entry). IsBase mux (shift_of (publishes journal)) journal l) (sym entries) (folded_base mux journal sound legal)) run
            (record { mux_is = began.is.mux_is; shift_is = from.shift; aired = begun_aired earlier start a0 none from.player player_of; tallied = begun_tallied start none began.is.tally; player_of = player_of });
      })
