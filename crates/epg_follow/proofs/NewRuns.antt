-- A script that was followed over the text of an input.
use Rattle.std.proofs.Common.{◌≡◌, ℕ, List, [], ◌++◌, refl, sym, ap, ◌∙◌, subst, inl, inr}
use Rattle.std.specs.Prelude.{Bool, Option, Some, Ok, Err, Result}
use Rattle.std.specs.Io.KnownBytes.{Consumes}
use Rattle.si_causes.specs.Reading.{Reading, fresh_to}
use Rattle.si_causes.specs.declared.stop.ReadStop.TheVariants.{Failed, TooLong as Overlong}
use Rattle.input_lines.specs.Ahead.{Ahead, Breaks, Came, Found, ahead}
use Rattle.input_lines.specs.Reads.{Leaves as LeavesAhead, Passes, ahead_with}
use Rattle.input_lines.proofs.Steps.{whole_more}
use Rattle.input_lines.specs.Going.{WereWhole}
use Rattle.air_model.specs.Air.{Aired}
use Rattle.mux_model.specs.declared.mux.Mux.{Mux}
use Rattle.mux_config.specs.Descriptions.{Description, description_ahead}
use Rattle.mux_config.specs.Texts.{described_taken}
use Rattle.journal_model.specs.declared.step.Entry.{Entry}
use Rattle.desk_core.specs.Desks.{DeskState}
use Rattle.cycle_player.specs.Sending.{Sending}
use Rattle.journal_air.specs.OnAir.{HasAired, IsPlayerOf}
use Rattle.journal_air.specs.Tallied.{HasTallied}
use Rattle.desk_checkpoint.specs.declared.start.Start.{Start}
use Rattle.epg_report.specs.declared.status.Status.{Status}
use Rattle.epg_report.specs.declared.status.Status.TheVariants as status
use Rattle.epg_report.specs.declared.status.Origin.TheVariants.{Feed, Input, Recording}
use Rattle.epg_report.specs.Told.{ReportTaken}
use Rattle.epg_play.specs.Checkpointed.{HasRun}
use Rattle.epg_play.specs.Over.{LeavesBy}
use Rattle.epg_play.specs.Script.{Unread}
use Rattle.epg_play.proofs.GoingOn.{IsBase, desk_with}
use Rattle.epg_play.proofs.RunFacts.{bytes_left}
use Rattle.epg_follow.specs.declared.stop.FollowStop.{FollowStop}
use Rattle.epg_follow.specs.declared.stop.FollowStop.TheVariants.{NoCommand, Disagrees, Read, Air, Report, Memory}
use Rattle.epg_follow.specs.Behind.{FollowsBehind}
use Rattle.epg_follow.specs.Course.{followed}
use Rattle.epg_follow.specs.Finish.{FinishedBy}
use Rattle.epg_follow.specs.Items.{desk_of}
use Rattle.epg_follow.specs.Rest.{FollowedWholeLines, RestDid, RestTaken}
use Rattle.epg_follow.specs.Runs.{HasFollowedOn, IsBehindMux, LeavesLong}
use Rattle.epg_play.specs.Script.{long_limit}
use Rattle.epg_follow.proofs.BehindFacts.{IsStartOf, follows_behind, memory_behind}
use Rattle.epg_follow.proofs.CourseFacts.{ends_there, stopped}
use Rattle.epg_follow.proofs.EndFacts.{end_met, ends_as, met_read}
use Rattle.epg_follow.proofs.GoingFacts.{took}
use Rattle.epg_follow.proofs.LongFacts.{idle_ends, long_text, own_status, undescribed_long}
use Rattle.epg_follow.specs.Finish.{EndsIdle}
use Rattle.epg_play.specs.Beginning.{IsNew}
use Rattle.epg_play.specs.CheckpointRuns.{Nothing}
use Rattle.epg_play.specs.Leaves.{mux_stop, status_for}
use Rattle.epg_play.proofs.Bases.{begun_aired, begun_tallied, new_base}
use Rattle.epg_play.proofs.CourseRuns.{new_run}
use Rattle.epg_report.specs.Texts.{fault_lines}
use Rattle.epg_report.specs.Told.{Reported}
use Rattle.journal_air.specs.Air.{airings}
use Rattle.mux_config.specs.declared.stop.MuxStop.{MuxStop}
use Rattle.mux_config.specs.Reads.{ReadMux}
use Rattle.mux_config.proofs.Reading.{mux_read}

-- a start whose desk goes on as a journal, and whose player has handed out its air
pub record GoesOnFrom (mux : Mux) (shift : ℕ) (earlier : List Aired) (start : Start) (before : Option (List ℕ)) : Type 0 where
  pub mux_is : start.desk.mux ≡ mux
  pub shift_is : start.shift ≡ shift
  pub aired : HasAired earlier start.desk start.player before before
  pub tallied : HasTallied start.desk start.player
  pub player_of : IsPlayerOf start.desk.mux start.player

-- what is left behind each journal and air that the start goes on from
abbrev pub FollowsAny : Bool → Mux → Start → Option (List ℕ) → ReportTaken → ReportTaken → Ahead → Status → Type 0
FollowsAny keep mux start before air report ls t =
    (shift : ℕ) (journal : List Entry) (earlier : List Aired) → IsBase mux shift journal start.desk.entries → HasRun mux journal earlier → GoesOnFrom mux shift earlier start before
    → FollowsBehind keep mux journal earlier air report ls t

module _ {S : Type 0} (keep : Bool) (left : S → Option (List ℕ)) (source : S) (mid new : Reading S) (text : List ℕ) (mux : Mux) (told : left source ≡ Some text)
    (d : LeavesAhead left description_ahead (Came (Ok mux)) (fresh_to long_limit source) mid text) (came : Passes left description_ahead (Came (Ok mux)) (fresh_to long_limit source) mid)
    (start : Start) (a0 a1 r0 r2 : Option (List ℕ)) (f0 f1 g0 g2 : ℕ) (s : Status) (known : IsBehindMux s)
    (on : HasFollowedOn keep left mid new start (took a0 a1 f0 f1) (took r0 r2 g0 g2) s) (Idle : Status → Type 0) (B : Mux → Ahead → Status → Type 0)
    (wrap : (ls : Ahead) (t : Status) → IsBehindMux t → FollowsAny keep mux start a0 (took a0 a1 f0 f1) (took r0 r2 g0 g2) ls t → B mux ls t) where
  abbrev short : List Entry
  short = start.desk.entries

  desk_is : desk_of short on.first ≡ start.desk
  desk_is = ap (λ (m : Mux). desk_with m short) on.mux_is

  is_start : (shift : ℕ) (earlier : List Aired) → GoesOnFrom mux shift earlier start a0 → IsStartOf mux shift short earlier on.first a0
  is_start shift earlier from = record {
    mux_is = on.mux_is ∙ from.mux_is;
    shift_is = on.shift_is ∙ from.shift_is;
    aired = subst (λ (p : Sending). HasAired earlier (desk_of short on.first) p a0 a0) (sym on.player_is) (subst (λ (x : DeskState). HasAired earlier x start.player a0 a0) (sym desk_is) from.aired);
    tallied = subst (λ (p : Sending). HasTallied (desk_of short on.first) p) (sym on.player_is) (subst (λ (x : DeskState). HasTallied x start.player) (sym desk_is) from.tallied);
    player_of = subst (λ (p : Sending). IsPlayerOf on.first.desk.mux p) (sym on.player_is) (subst (λ (m : Mux). IsPlayerOf m start.player) (sym on.mux_is) from.player_of);
  }

  abbrev Any : Ahead → Status → Type 0
  Any ls t = FollowsAny keep mux start a0 (took a0 a1 f0 f1) (took r0 r2 g0 g2) ls t

  -- of the lines of the whole text
  as_long : (t : Status) → IsBehindMux t → (t ≡ status.ReadFault Input → ⊥) → Any (ahead mid d.rest) t → LeavesLong Idle B text (left new.source) t
  as_long (status.ReadFault Input) is not b = absurd (not refl)
  as_long (status.ReadFault Recording) is not b = absurd is
  as_long (status.ReadFault (Feed f)) is not b = absurd is
  as_long status.Memory is not b = inr (mux, ahead mid d.rest, d.reads, wrap (ahead mid d.rest) status.Memory tt b)
  as_long other is not b = subst (λ (found : Found Description). LeavesBy Idle B found other) (sym d.reads) (wrap (ahead mid d.rest) other is b)

  abbrev Scripts : Ahead → Result (Unit {0}) FollowStop → Type 0
  Scripts ls r = RestDid short on.first on.end (took a0 a1 f0 f1) (took r0 on.written g0 on.faults) (followed keep on.first.shift on.first.desk.mux short ls) r

  -- a script that no failed read ended
  told_long : (r : Result (Unit {0}) FollowStop) → on.result ≡ r → (r ≡ Err (Read Failed) → ⊥) → LeavesLong Idle B text (left new.source) s
  told_long r is no_fault =
      let finished = subst (λ (x : Result (Unit {0}) FollowStop). FinishedBy on.end x (took on.written r2 on.faults g2) s) is on.finished in
      as_long s known (λ e. no_fault (met_read r (end_met r (took on.written r2 on.faults g2) s (status.ReadFault Input) (ends_as on.end r (took on.written r2 on.faults g2) s finished) e (λ x. cc x) (λ x. cc x))))
      (λ shift journal earlier base run from. follows_behind keep mux shift journal short earlier base run on.first on.end a0 a1 r0 on.written r2 f0 f1 g0 on.faults g2 (is_start shift earlier from) (ahead mid d.rest) r
      (subst (Scripts (ahead mid d.rest)) is (on.did.0 d.rest d.told)) (λ e. on.air_cause (is ∙ e)) (λ e. absurd (no_fault e)) on.later s finished)

  whole_lines : on.result ≡ Err (Read Failed) → FollowedWholeLines keep left mid new short on.first on.end (took a0 a1 f0 f1) (took r0 on.written g0 on.faults)
  whole_lines is = subst (RestTaken keep left mid new short on.first on.end (took a0 a1 f0 f1) (took r0 on.written g0 on.faults)) is on.did.1

  -- a read failed: of the lines that were whole all was followed
  taken_long : on.result ≡ Err (Read Failed) → FollowedWholeLines keep left mid new short on.first on.end (took a0 a1 f0 f1) (took r0 on.written g0 on.faults) → s ≡ status.ReadFault Input
      → FinishedBy on.end (Err (Read Failed)) (took on.written r2 on.faults g2) s → LeavesLong Idle B text (left new.source) s
  taken_long is p e finished =
      let both : WereWhole left (fresh_to long_limit source) new (came.looked.lines ++ p.lines) = whole_more left (fresh_to long_limit source) mid new came.looked.lines p.lines came.looked.handed p.unended p.whole in
      let lines_are = ahead_with mid p.lines Breaks in
      let are : described_taken both.more ≡ Came (Ok mux) lines_are = ap (λ l. description_ahead (ahead_with (fresh_to long_limit source) l Breaks)) both.whole ∙ came.reads p.lines Breaks in
      let b = bytes_left (left new.source) text both.more (subst (λ (o : Option (List ℕ)). Consumes o (left new.source) both.more) told both.gave) in
      let did : Scripts lines_are (Err (Read Failed)) = (p.did.0, stopped Unread [], p.did.1 ∙ sym (ends_there p.did.0 Unread []), p.did.2) in
      let behind : Any lines_are s = λ shift journal earlier base run from.
      follows_behind keep mux shift journal short earlier base run on.first on.end a0 a1 r0 on.written r2 f0 f1 g0 on.faults g2 (is_start shift earlier from) lines_are (Err (Read Failed)) did
      (λ x. on.air_cause (is ∙ x)) (λ x. p.did) on.later s finished in
      subst (LeavesLong Idle B text (left new.source)) (sym e) (record {
        taken = both.more;
        rest = b.0;
        text_is = b.1;
        left_is = b.2;
        leaves = subst (λ (found : Found Description). LeavesBy Idle B found (status.ReadFault Input)) (sym are) (wrap lines_are (status.ReadFault Input) tt (subst (Any lines_are) e behind));
      })

  failed_long : on.result ≡ Err (Read Failed) → FinishedBy on.end (Err (Read Failed)) (took on.written r2 on.faults g2) s → LeavesLong Idle B text (left new.source) s
  failed_long is (inl out) =
      as_long s known (λ e. let no : status.Memory ≡ status.ReadFault Input = sym out.0 ∙ e in cc no)
      (λ shift journal earlier base run from. memory_behind keep mux shift journal short earlier base run on.first on.end a0 a1 r0 on.written r2 f0 f1 g0 on.faults g2 (is_start shift earlier from) (ahead mid d.rest)
      (subst (Scripts (ahead mid d.rest)) is (on.did.0 d.rest d.told)) on.later s out)
  failed_long is (inr (inl (took_all, e))) = taken_long is (whole_lines is) e (inr (inl (took_all, e)))
  failed_long is (inr (inr (rose, front, e))) = taken_long is (whole_lines is) e (inr (inr (rose, front, e)))

  by_result : (r : Result (Unit {0}) FollowStop) → on.result ≡ r → LeavesLong Idle B text (left new.source) s
  by_result (Ok u) is = told_long (Ok u) is (λ e. cc e)
  by_result (Err (NoCommand n why)) is = told_long (Err (NoCommand n why)) is (λ e. cc e)
  by_result (Err (Disagrees n kept found)) is = told_long (Err (Disagrees n kept found)) is (λ e. cc e)
  by_result (Err (Read Overlong)) is = told_long (Err (Read Overlong)) is (λ e. let no : Overlong ≡ Failed = cc e in cc no)
  by_result (Err (Read Failed)) is = failed_long is (subst (λ (x : Result (Unit {0}) FollowStop). FinishedBy on.end x (took on.written r2 on.faults g2) s) is on.finished)
  by_result (Err Air) is = told_long (Err Air) is (λ e. cc e)
  by_result (Err Report) is = told_long (Err Report) is (λ e. cc e)
  by_result (Err Memory) is = told_long (Err Memory) is (λ e. cc e)

  pub followed_long : LeavesLong Idle B text (left new.source) s
  followed_long = by_result on.result refl

-- ---- a head-end that did nothing yet

new_entries : (mux : Mux) (start : Start) → IsNew mux start → start.desk.entries ≡ []
new_entries mux start new = ap (λ (d : DeskState). d.entries) new.desk

pub new_from : (mux : Mux) (start : Start) (w : Option (List ℕ)) → IsNew mux start → GoesOnFrom mux 0 [] start w
new_from mux start w new =
    let none : airings start.desk.mux start.desk.entries ≡ [] = ap (λ (d : DeskState). airings d.mux d.entries) new.desk in
    let same : start.desk.mux ≡ mux = ap (λ (d : DeskState). d.mux) new.desk in
    let of : IsPlayerOf start.desk.mux start.player = subst (λ (m : Mux). IsPlayerOf m start.player) (sym same) new.player_of in
    record { mux_is = same; shift_is = new.shift; aired = begun_aired [] start w none new.player of; tallied = begun_tallied start none new.tally; player_of = of }

pub new_long : {S : Type 0} (keep : Bool) (left : S → Option (List ℕ)) (faults : S → ℕ) (alike : S → S → Type 0) (old mid new : Reading S) (text : List ℕ) (mux : Mux) (start : Start)
    (a0 a1 r0 r2 : Option (List ℕ)) (f0 f1 g0 g2 : ℕ) (s : Status)
    → IsBehindMux s → old ≡ fresh_to long_limit old.source → left old.source ≡ Some text → ReadMux left faults alike old mid (Ok mux) → IsNew mux start
    → HasFollowedOn keep left mid new start (took a0 a1 f0 f1) (took r0 r2 g0 g2) s
    → LeavesLong (Nothing (took a0 a1 f0 f1) (took r0 r2 g0 g2)) (λ m. FollowsBehind keep m [] [] (took a0 a1 f0 f1) (took r0 r2 g0 g2)) text (left new.source) s
new_long keep left faults alike old mid new text mux start a0 a1 r0 r2 f0 f1 g0 g2 s known unread told read is on =
    let reads = mux_read left faults alike (fresh_to long_limit old.source) mid mux (subst (λ r. ReadMux left faults alike r mid (Ok mux)) unread read) in
    let d = reads.gives refl text (long_text left old.source text told) in
    let run = new_run mux (ahead mid d.rest) (ahead (fresh_to long_limit old.source) text, d.reads) in
    followed_long keep left old.source mid new text mux told d (reads.takes refl) start a0 a1 r0 r2 f0 f1 g0 g2 s known on
    (Nothing (took a0 a1 f0 f1) (took r0 r2 g0 g2)) (λ m. FollowsBehind keep m [] [] (took a0 a1 f0 f1) (took r0 r2 g0 g2))
    (λ ls t is_known any. any 0 [] [] (subst (λ (l : List Entry). IsBase mux 0 [] l) (sym (new_entries mux start is)) (new_base mux run.folds.sound)) run (new_from mux start a0 is))

-- no multiplex is described
pub undescribed_run : {S : Type 0} (left : S → Option (List ℕ)) (faults : S → ℕ) (alike : S → S → Type 0) (old new : Reading S) (text : List ℕ) (stop : MuxStop) (met s : Status) (air report : ReportTaken)
    (Idle : Status → Type 0) (B : Mux → Ahead → Status → Type 0)
    → old ≡ fresh_to long_limit old.source → left old.source ≡ Some text → ReadMux left faults alike old new (Err stop) → met ≡ status_for (mux_stop stop) → EndsIdle met report s
    → ((t : Status) → Reported report (fault_lines t) → Idle t) → LeavesLong Idle B text (left new.source) s
undescribed_run left faults alike old new text stop met s air report Idle B unread told read is ends idle =
    idle_ends (status_for (mux_stop stop)) s report (LeavesLong Idle B text (left new.source)) (own_status stop) (subst (λ (m : Status). EndsIdle m report s) is ends)
    (λ took_it. undescribed_long left faults alike old new old.source text stop Idle B unread told read (idle (status_for (mux_stop stop)) took_it))
    (λ took_it. inl (idle status.Memory took_it))
