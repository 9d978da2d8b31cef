-- What a run leaves stands.
use Rattle.std.proofs.Common.{◌≡◌, ◌<◌, ℕ, Bool, true, false, List, ◌∷◌, ◌++◌, [], Option, Some, None, drop, length, refl, sym, ap, ◌∙◌, subst, inl, inr, take, append-nil, append_assoc, arith}
use Rattle.std.specs.Prelude.{◌⊎◌, if◌then◌else◌}
use Rattle.std.specs.Io.KnownBytes.{Appends}
use Rattle.std.proofs.Math.Seq.{drop-append_seam}
use Rattle.std.proofs.lemmas.List.{take_all, take-append-drop}
use Rattle.std.proofs.lemmas.List.Elements.{filter_map-append}
use Rattle.si_lists.proofs.Lists.{all_append, all_map}
use Rattle.si_causes.specs.Causes.{Rose}
use Rattle.si_causes.specs.Text.{lines_left}
use Rattle.input_lines.specs.Ahead.{ahead_in}
use Rattle.input_lines.specs.Ahead as reading
use Rattle.air_model.specs.Air.{Aired, air_bytes, airings_of}
use Rattle.journal_air.specs.OnAir.{cycle_bytes}
use Rattle.cycle_player.specs.Airs.{IsAirAt}
use Rattle.cycle_player.specs.Tallies.{tally_of}
use Rattle.cycle_player.specs.Tally.{no_cycles}
use Rattle.mux_model.specs.declared.mux.Mux.{Mux}
use Rattle.journal_model.specs.Steps.{IsStepInWindow, IsTypedStep}
use Rattle.journal_model.specs.declared.step.Entry.{Entry}
use Rattle.journal_model.specs.declared.step.Outcome.{Outcome}
use Rattle.desk_core.specs.Journal.{Legal, LegalAfter}
use Rattle.desk_core.proofs.TypedFacts.{accepted_typed}
use Rattle.desk_checkpoint.proofs.GoFacts.{legal_on}
use Rattle.journal_air.specs.Air.{airings}
use Rattle.journal_air.specs.JournalScreenShown.{IsAsRead}
use Rattle.script_lines.specs.declared.script.ScriptItem.TheVariants.{Step as step, Kept, End}
use Rattle.script_notes.specs.declared.why.Why.TheVariants.{Disagrees}
use Rattle.script_notes.specs.declared.noting.Noting.{Noting}
use Rattle.script_notes.specs.declared.noting.Noting.TheVariants.{Bad, Item}
use Rattle.script_notes.specs.Notings.{notings_ahead}
use Rattle.epg_report.specs.Texts.{fault_lines}
use Rattle.epg_report.specs.Told.{ReportTaken}
use Rattle.epg_report.specs.declared.status.Status.{Status}
use Rattle.epg_report.specs.declared.status.Status.TheVariants.{BadMux, BadScript, Done, Memory, ReadFault, TooLong as PastLimit, WriteFault}
use Rattle.epg_report.specs.declared.status.Status.TheVariants as status
use Rattle.epg_report.specs.declared.status.Origin.TheVariants.{Input}
use Rattle.epg_report.specs.declared.status.Outlet.TheVariants.{Air, Report}
use Rattle.epg_play.specs.Behind.{AirOn, CutAirOn}
use Rattle.epg_play.specs.Checkpointed.{HasRun}
use Rattle.epg_play.specs.CheckpointRuns.{Nothing}
use Rattle.epg_play.specs.Leaves.{IsOfPlay}
use Rattle.epg_play.specs.Outcomes.{is_outcome}
use Rattle.epg_play.specs.Script.{Stop, Ended, NoCommand, Disagreed, TooLong, Unread, long_limit}
use Rattle.epg_play.proofs.CourseRuns.{new_run}
use Rattle.script_notes.specs.ReportLaws.{HasNoOutcome, IsCutOrEnd}
use Rattle.script_notes.specs.Pieces.{Entered, Noted, Piece, entries_in, entry_in, piece_text, pieces_text}
use Rattle.epg_follow.specs.Behind.{EndsWith, FollowedAll, FollowedTo, FollowedToCut, FollowedToMemory, FollowedUnreported, FollowedWhole, FollowsBehind, SentBut, ending_text, next_text}
use Rattle.epg_follow.specs.Course.{Agrees, Followed, and_others, entries_with, followed, followed_of, made_by, of_outcome, unless_kept}
use Rattle.epg_follow.specs.Items.{IsSwapEntry}
use Rattle.epg_follow.specs.Leaving.{FollowRunsLeaveWhatStands, FollowingLeavesWhatStands, WhatIsLeftStands}
use Rattle.epg_follow.specs.Runs.{IsBehindMux}
use Rattle.epg_follow.specs.Stands.{Stands}
use Rattle.epg_follow.proofs.EndingFacts.{endings_have_no_outcome}
use Rattle.epg_follow.proofs.LongFacts.{behind_long}
use Rattle.epg_follow.proofs.MadeFacts.{none_made}
use Rattle.epg_follow.proofs.PieceFacts.{AreRead, IsReadEntry, followed_legal, followed_read, front_read}
use Rattle.epg_follow.proofs.RecoveryFacts.{standing_legal}
use Rattle.epg_follow.proofs.UnsentFacts.{swap_goes_on}

-- what was taken behind the bytes before is one text
same_taken : (before after : Option (List ℕ)) (old taken text : List ℕ) → before ≡ Some old → after ≡ Some (old ++ taken) → Appends before after text → taken ≡ text
same_taken before after old taken text was now appends =
    let there = subst (λ (b : Option (List ℕ)). Appends b after text) was appends in
    let both : old ++ taken ≡ old ++ text = subst (λ (a : Option (List ℕ)). Appends (Some old) a text) now there in
    sym (drop-append_seam old taken) ∙ ap (drop (length old)) both ∙ drop-append_seam old text

pub what_is_left_stands : WhatIsLeftStands
what_is_left_stands mux before earlier pieces k part old taken air was now (inl whole) rest = record {
  k = k;
  part = part;
  report_is = refl;
  part_is = rest;
  cycles = whole.cycles;
  is_air = whole.is_air;
  made = whole.made;
  air_is = inl (same_taken air.old air.new old taken (air_bytes whole.cycles) was now whole.bytes);
}
what_is_left_stands mux before earlier pieces k part old taken air was now (inr cut) rest = record {
  k = k;
  part = part;
  report_is = refl;
  part_is = rest;
  cycles = cut.whole ++ cut.cut ∷ [];
  is_air = cut.is_air;
  made = cut.made;
  air_is = inr (record {
    ends = record { front = cut.front; last = cut.last; entries_are = cut.entries; is_swap = cut.is_swap };
    whole = cut.whole;
    cut = cut.cut;
    cycles_are = refl;
    count = cut.taken;
    bytes = same_taken air.old air.new old taken (air_bytes cut.whole ++ take cut.taken (cycle_bytes cut.cut)) was now cut.bytes;
  });
}

-- ---- a script that is followed

module _ (keep : Bool) (mux : Mux) where
  abbrev of : List Entry → Option Outcome → List Noting → reading.Stop → Followed
  of before made notings stop = followed_of keep 0 mux before made notings stop

  -- a line at fault passed over or not
  unless_none : (so : Bool) (piece : Piece) (stop : Stop) (comment : List Piece) (others : Followed) → entries_in comment ≡ [] → entries_in others.comment ≡ []
      → entries_in (and_others (unless_kept so piece stop comment) others).comment ≡ []
  unless_none true piece stop comment others own rest = rest
  unless_none false piece stop comment others own rest = own

  outcome_none : (n : ℕ) (kept made : Outcome) (others : Followed) → entries_in others.comment ≡ [] → entries_in (and_others (of_outcome keep n kept made) others).comment ≡ []
  outcome_none n kept made others rest = go (is_outcome kept made)
    where
      go : (same : Bool) → entries_in (and_others (if same then Agrees else unless_kept keep (Noted n (Disagrees kept made)) (Disagreed n kept made) []) others).comment ≡ []
      go true = rest
      go false = unless_none keep (Noted n (Disagrees kept made)) (Disagreed n kept made) [] others refl rest

  -- the comment on the line that ends a script is no entry
  comment_none : (notings : List Noting) (before : List Entry) (made : Option Outcome) (stop : reading.Stop) → entries_in (of before made notings stop).comment ≡ []
  comment_none [] before made stop = refl
  comment_none (Item (step who s) ∷ notings) before made stop =
      comment_none notings (entries_with keep 0 mux before (Item (step who s))) (made_by keep 0 mux before (Item (step who s))) stop
  comment_none (Item (Kept n kept) ∷ notings) before None stop = comment_none notings before None stop
  comment_none (Item (Kept n kept) ∷ notings) before (Some made) stop = outcome_none n kept made (of before None notings stop) (comment_none notings before None stop)
  comment_none (Item End ∷ notings) before made stop = comment_none notings before None stop
  comment_none (Bad n why ∷ notings) before made stop =
      unless_none keep (Noted n why) (NoCommand n) (Noted n why ∷ []) (of before None notings stop) refl (comment_none notings before None stop)

module _ (mux : Mux) (before : List Entry) (earlier : List Aired) (air report : ReportTaken) (script : Followed) (sent taken written new : List ℕ)
    (air_was : air.old ≡ Some sent) (air_now : air.new ≡ Some (sent ++ taken)) (report_was : report.old ≡ Some written) (report_now : report.new ≡ Some (written ++ new))
    (none : entries_in script.comment ≡ []) where
  abbrev OnAir : List Piece → Type 0
  OnAir pieces = AirOn mux before (entries_in pieces) earlier air ⊎ CutAirOn mux before (entries_in pieces) earlier air

  abbrev Standing : List ℕ → Type 0
  Standing text = Stands mux before earlier script.pieces taken text

  abbrev Left : Type 0
  Left = Standing new

  by_text : (text : List ℕ) → Appends report.old report.new text → Standing text → Left
  by_text text told stands = subst Standing (sym (same_taken report.old report.new written new text report_was report_now told)) stands

  by_part : (k : ℕ) (part : List ℕ) → OnAir (take k script.pieces) → IsCutOrEnd (drop k script.pieces) part → Appends report.old report.new (pieces_text (take k script.pieces) ++ part) → Left
  by_part k part air_is part_is told =
      by_text (pieces_text (take k script.pieces) ++ part) told (what_is_left_stands mux before earlier script.pieces k part sent taken air air_was air_now air_is part_is)

  -- the report ends with this text, or with a front of it
  by_ending : (pieces ending : List ℕ) → ((part : List ℕ) → HasNoOutcome part → Standing (pieces ++ part)) → ((cut : ℕ) → HasNoOutcome (take cut ending)) → EndsWith report pieces ending → Left
  by_ending pieces ending stands plain (inl whole) = by_text (pieces ++ ending) whole (stands ending (subst HasNoOutcome (take_all (length ending) ending (omega arith)) (plain (length ending))))
  by_ending pieces ending stands plain (inr (rose, (n, proper, told))) = by_text (pieces ++ take n ending) told (stands (take n ending) (plain n))

  on_air : (k : ℕ) → OnAir (take k script.pieces) → (part : List ℕ) → HasNoOutcome part → Standing (pieces_text (take k script.pieces) ++ part)
  on_air k air_is part plain = what_is_left_stands mux before earlier script.pieces k part sent taken air air_was air_now air_is (inr plain)

  all_left : (stop : Stop) (status : Status) → IsBehindMux status → FollowedAll mux before earlier air report script stop status → Left
  all_left stop status behind all =
      let pieces_are : script.pieces ≡ take (length script.pieces) script.pieces = sym (take_all (length script.pieces) script.pieces (omega arith)) in
      let ending = ending_text mux all.air_is.cycles script.comment status in
      by_ending (pieces_text (take (length script.pieces) script.pieces)) ending
      (on_air (length script.pieces) (inl (subst (λ (l : List Piece). AirOn mux before (entries_in l) earlier air) pieces_are all.air_is)))
      (λ cut. endings_have_no_outcome script.comment mux.rate (tally_of mux.rate (airings_of all.air_is.cycles)) status cut none behind)
      (subst (λ (l : List Piece). EndsWith report (pieces_text l) ending) pieces_are all.report_is)

  whole_left : FollowedWhole mux before earlier air report script → Left
  whole_left whole =
      all_left Ended Done tt (record { stopped = whole.stopped; legal = whole.legal; air_is = whole.air_is; report_is = inl whole.report_is })

  cut_left : FollowedToCut mux before earlier air report script → Left
  cut_left cut =
      by_ending (pieces_text (take cut.k script.pieces)) (ending_text mux (cut.air_is.whole ++ cut.air_is.cut ∷ []) [] (WriteFault Air)) (on_air cut.k (inr cut.air_is))
      (λ n. endings_have_no_outcome [] mux.rate (tally_of mux.rate (airings_of (cut.air_is.whole ++ cut.air_is.cut ∷ []))) (WriteFault Air) n refl tt)
      cut.report_is

  -- the report failed in what comes next
  next_is : (next : List Piece) (cycles : List Aired) (n : ℕ) → n < length (next_text next (ending_text mux cycles [] Done))
      → IsCutOrEnd next (take n (next_text next (ending_text mux cycles [] Done)))
  next_is [] cycles n proper = inr (endings_have_no_outcome [] mux.rate (tally_of mux.rate (airings_of cycles)) Done n refl tt)
  next_is (piece ∷ pieces) cycles n proper =
      let one : piece_text piece ≡ pieces_text (take 1 (piece ∷ pieces)) = sym (append-nil (piece_text piece)) in
      inl (record { cut = n; part_is = ap (take n) one; short = λ some. subst (λ (text : List ℕ). n < length text) one proper })

  unreported_left : FollowedUnreported mux before earlier air report script → Left
  unreported_left cut =
      by_part cut.k (take cut.n (next_text (drop cut.k script.pieces) (ending_text mux cut.air_is.cycles [] Done))) (inl cut.air_is)
      (next_is (drop cut.k script.pieces) cut.air_is.cycles cut.n cut.proper) cut.report_is

  -- ---- want of memory

  -- the line of this fault
  memory_plain : (cut : ℕ) → HasNoOutcome (take cut (fault_lines Memory))
  memory_plain cut = endings_have_no_outcome [] None no_cycles Memory cut refl tt

  module _ (run : HasRun mux before earlier) (read : AreRead script.pieces) (legal : LegalAfter mux before (entries_in script.pieces)) where
    -- the first of these entries are legal, and were read
    first_legal : (k : ℕ) → Legal mux (before ++ entries_in (take k script.pieces))
    first_legal k = legal_on mux [] before (entries_in (take k script.pieces)) run.folds.legal (standing_legal mux before k script.pieces legal)

    first_read : (k : ℕ) → IsAsRead mux (before ++ entries_in (take k script.pieces))
    first_read k =
        let entries = entries_in (take k script.pieces) in
        let own : AreRead (take k script.pieces) = front_read (take k script.pieces) (drop k script.pieces) (subst AreRead (sym (take-append-drop k script.pieces)) read) in
        record {
          sound = run.read.sound;
          network = run.read.network;
          services = run.read.services;
          edits = accepted_typed (before ++ entries)
              (all_append (λ (e : Entry). IsTypedStep e.step) before entries run.folds.typed (all_map IsReadEntry (λ (e : Entry). IsTypedStep e.step) (λ e is. is.0) entries own));
          steps = all_append (λ (e : Entry). IsStepInWindow e.step) before entries run.read.steps (all_map IsReadEntry (λ (e : Entry). IsStepInWindow e.step) (λ e is. is.1) entries own);
        }

    -- a last swap was reported, and no packet of it was sent
    unsent : (k : ℕ) (front : List Piece) (last : Piece) → take k script.pieces ≡ front ++ last ∷ [] → IsSwapEntry last → AirOn mux before (entries_in front) earlier air
        → (part : List ℕ) → HasNoOutcome part → Standing (pieces_text (take k script.pieces) ++ part)
    unsent k front (Noted n why) is swap on part plain = absurd swap
    unsent k front (Entered e) is swap on part plain =
        let own = entries_in front in
        let entries : entries_in (take k script.pieces) ≡ own ++ e ∷ [] = ap entries_in is ∙ filter_map-append entry_in front (Entered e ∷ []) in
        let all : before ++ entries_in (take k script.pieces) ≡ (before ++ own) ++ e ∷ [] = ap (λ (l : List Entry). before ++ l) entries ∙ sym (append_assoc before own (e ∷ [])) in
        let (next, is_air, made) =
        swap_goes_on mux (before ++ own) e earlier on.cycles (subst (IsAsRead mux) all (first_read k)) (subst (Legal mux) all (first_legal k)) swap on.is_air on.made in
        record {
          k = k;
          part = part;
          report_is = refl;
          part_is = inr plain;
          cycles = on.cycles ++ next ∷ [];
          is_air = subst (λ (l : List Entry). IsAirAt mux.rate (airings mux l) (earlier ++ (on.cycles ++ next ∷ []))) (sym all) is_air;
          made = made;
          air_is = inr (record {
            ends = record { front = own; last = e; entries_are = entries; is_swap = swap };
            whole = on.cycles;
            cut = next;
            cycles_are = refl;
            count = 0;
            bytes = same_taken air.old air.new sent taken (air_bytes on.cycles) air_was air_now on.bytes ∙ sym (append-nil (air_bytes on.cycles));
          });
        }

    memory_left : FollowedToMemory mux before earlier air report script → Left
    memory_left left = by_ending (pieces_text (take left.k script.pieces)) (fault_lines Memory) (by left.air_is) memory_plain left.report_is
      where
        by : SentBut mux before earlier air report script (take left.k script.pieces) ⊎ (Rose air.faults_old air.faults_new × CutAirOn mux before (entries_in (take left.k script.pieces)) earlier air)
            → (part : List ℕ) → HasNoOutcome part → Standing (pieces_text (take left.k script.pieces) ++ part)
        by (inl (inl whole)) = on_air left.k (inl whole)
        by (inl (inr (front, last, is, swap, on))) = unsent left.k front last is swap on
        by (inr (rose, cut)) = on_air left.k (inr cut)

  -- ---- each status

  by_status : (status : Status) → IsOfPlay status → (status ≡ Memory → HasRun mux before earlier) → AreRead script.pieces → LegalAfter mux before (entries_in script.pieces)
      → FollowedTo mux before earlier air report script status → Left
  by_status Done known has read legal did = whole_left did
  by_status (BadScript n) known has read legal did = all_left (NoCommand n) (BadScript n) tt did
  by_status (status.Disagrees n kept found) known has read legal did = all_left (Disagreed n kept found) (status.Disagrees n kept found) tt did
  by_status (PastLimit Input) known has read legal did = all_left TooLong (PastLimit Input) tt did
  by_status (ReadFault Input) known has read legal did = all_left Unread (ReadFault Input) tt did
  by_status (WriteFault Air) known has read legal did = cut_left did
  by_status (WriteFault Report) known has read legal did = unreported_left did
  by_status Memory known has read legal did = memory_left (has refl) read legal did
  by_status (BadMux fault) known has read legal did = absurd did
  by_status status known has read legal did = absurd known

pub following_leaves_what_stands : FollowingLeavesWhatStands
following_leaves_what_stands keep mux before earlier air report lines status sent taken written new air_was air_now report_was report_now known has did =
    let notings = notings_ahead false lines in
    by_status mux before earlier air report (followed keep 0 mux before lines) sent taken written new air_was air_now report_was report_now
    (comment_none keep mux notings.0 before None notings.1) status known has (followed_read keep 0 mux before lines) (followed_legal keep mux before lines) did

-- ---- a whole run

-- no step was done
nothing_left : (mux : Mux) (pieces : List Piece) (air report : ReportTaken) (sent taken written new : List ℕ) → air.old ≡ Some sent → air.new ≡ Some (sent ++ taken)
    → report.old ≡ Some written → report.new ≡ Some (written ++ new) → HasRun mux [] [] → Nothing air report Memory → Stands mux [] [] pieces taken new
nothing_left mux pieces air report sent taken written new air_was air_now report_was report_now run (silent, line) =
    by_ending mux [] [] air report (record { pieces = pieces; stop = Ended; comment = [] }) sent taken written new air_was air_now report_was report_now refl [] (fault_lines Memory)
    (λ part plain. record {
      k = 0;
      part = part;
      report_is = refl;
      part_is = inr plain;
      cycles = [];
      is_air = run.is_air;
      made = none_made mux.rate [];
      air_is = inl (same_taken air.old air.new sent taken [] air_was air_now silent);
    })
    (memory_plain mux [] [] air report (record { pieces = pieces; stop = Ended; comment = [] }) sent taken written new air_was air_now report_was report_now refl)
    line

pub follow_runs_leave_what_stands : FollowRunsLeaveWhatStands
follow_runs_leave_what_stands keep input air report status sent taken written new air_was air_now report_was report_now run no_fault text gave mux lines described =
    by (behind_long (Nothing air report) (λ m. FollowsBehind keep m [] [] air report) text input.new mux lines described status no_fault (run.leaves text gave))
  where
    new_one : HasRun mux [] []
    new_one = new_run mux lines (ahead_in 1 (lines_left long_limit text), described)

    by : ((status ≡ Memory) × Nothing air report Memory) ⊎ FollowsBehind keep mux [] [] air report lines status → Stands mux [] [] (followed keep 0 mux [] lines).pieces taken new
    by (inl (memory, idle)) = nothing_left mux (followed keep 0 mux [] lines).pieces air report sent taken written new air_was air_now report_was report_now new_one idle
    by (inr did) =
        following_leaves_what_stands keep mux [] [] air report lines status sent taken written new air_was air_now report_was report_now run.known (λ memory. new_one) did
