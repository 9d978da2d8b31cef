-- What a run that follows a script leaves behind a journal and its air, from what was done and how its report ended.
use Rattle.std.proofs.Common.{◌≡◌, ◌≤◌, ◌<◌, ℕ, Bool, List, [], ◌∷◌, ◌++◌, length, take, refl, sym, ap, ◌∙◌, subst, append-nil, append_assoc, inl, inr, ◌⊎◌}
use Rattle.std.specs.Prelude.{Option, Ok, Err, Result, drop}
use Rattle.std.specs.Io.KnownBytes.{Appends}
use Rattle.std.proofs.KnownBytes.{Appends-trans}
use Rattle.std.proofs.Math.Seq.{drop-append_seam, take-append_seam}
use Rattle.si_causes.proofs.CauseFacts.{Rose-from}
use Rattle.si_causes.specs.Causes.{Rose}
use Rattle.si_causes.specs.declared.stop.ReadStop.TheVariants.{Failed, TooLong as Overlong}
use Rattle.input_lines.specs.Ahead.{Ahead}
use Rattle.version_book.specs.Airings.{AiredTables}
use Rattle.air_model.specs.Air.{Aired, airings_of}
use Rattle.mux_model.specs.declared.mux.Mux.{Mux}
use Rattle.journal_model.specs.declared.step.Entry.{Entry}
use Rattle.journal_model.specs.Steps.{Command}
use Rattle.desk_core.specs.Journal.{Legal, journal_after}
use Rattle.cycle_player.specs.Tallies.{tally_of}
use Rattle.cycle_player.proofs.Airs.{airings_are as cycle_airings}
use Rattle.journal_air.specs.Air.{airings}
use Rattle.journal_air.specs.JournalScreenShown.{IsAsRead}
use Rattle.journal_model.specs.Raising.{all_raised}
use Rattle.desk_checkpoint.proofs.GoFacts.{journals_alike}
use Rattle.journal_air.specs.OnAir.{HasAired, IsPlayerOf}
use Rattle.journal_air.specs.Tallied.{HasTallied}
use Rattle.epg_report.specs.declared.status.Status.{Status}
use Rattle.epg_report.specs.declared.status.Status.TheVariants as status
use Rattle.epg_report.specs.declared.status.Origin.TheVariants.{Input}
use Rattle.epg_report.specs.declared.status.Outlet.TheVariants as outlet
use Rattle.epg_report.specs.Ends.{ReportEnds, or_report}
use Rattle.epg_report.specs.Rates.{rate_line}
use Rattle.epg_report.specs.Texts.{fault_lines}
use Rattle.epg_report.specs.Told.{ReportTaken, Reported}
use Rattle.epg_play.specs.Behind.{AirOn, CutAirOn}
use Rattle.epg_play.specs.Checkpointed.{HasRun}
use Rattle.epg_play.specs.Played.{desk_after}
use Rattle.epg_play.specs.Script.{Stop, Ended, NoCommand as NoLine, Disagreed, TooLong, Unread}
use Rattle.epg_play.proofs.GoingOn.{IsBase, air_on, cut_on, desk_with, legal_on, read_on}
use Rattle.script_notes.specs.Pieces.{Piece, Noted, entries_in, piece_text, pieces_text}
use Rattle.epg_follow.specs.declared.follower.Follower.{Follower}
use Rattle.epg_follow.specs.declared.stop.FollowStop.{FollowStop}
use Rattle.epg_follow.specs.declared.stop.FollowStop.TheVariants.{NoCommand, Disagrees, Read, Air, Report, Memory}
use Rattle.epg_follow.specs.Behind.{EndsWith, FollowedAll, FollowedTo, FollowedToCut, FollowedUnreported, FollowedWhole, FollowsBehind, SentBut, ending_text, next_text}
use Rattle.epg_follow.specs.Course.{Followed, followed}
use Rattle.epg_follow.specs.Finish.{FinishedBy, OutOfMemory, closing_text, comment_of}
use Rattle.epg_follow.specs.Items.{Carries, CarriesFront, IsSwapEntry, desk_of}
use Rattle.epg_follow.specs.Rest.{Entering, RestDid, StopsAt, journal_at, with_pieces}
use Rattle.epg_follow.specs.Stops.{met_by}
use Rattle.epg_follow.proofs.AlikeFacts.{followed_same}
use Rattle.epg_follow.proofs.GoingFacts.{took}
use Rattle.epg_follow.proofs.PieceFacts.{AreRead, commands_read, followed_read, front_read}

-- a run goes on at a desk with the short journal
pub record IsStartOf (mux : Mux) (shift : ℕ) (short : List Entry) (earlier : List Aired) (start : Follower) (before : Option (List ℕ)) : Type 0 where
  pub mux_is : start.desk.mux ≡ mux
  pub shift_is : start.shift ≡ shift
  pub aired : HasAired earlier (desk_of short start) start.player before before
  pub tallied : HasTallied (desk_of short start) start.player
  pub player_of : IsPlayerOf start.desk.mux start.player

module _ (mux : Mux) (shift : ℕ) (journal short : List Entry) (earlier : List Aired) (base : IsBase mux shift journal short) (run : HasRun mux journal earlier)
    (start : Follower) (a0 a1 r0 r1 r2 : Option (List ℕ)) (f0 f1 g0 g1 g2 : ℕ) (is_start : IsStartOf mux shift short earlier start a0)
    (script : Followed) (read : AreRead script.pieces) where
  abbrev more : List Command → List Entry
  more commands = journal_after mux journal commands

  abbrev air : ReportTaken
  air = took a0 a1 f0 f1

  abbrev all : ReportTaken
  all = took r0 r2 g0 g2

  airings_are : airings_of earlier ≡ airings mux journal
  airings_are = cycle_airings mux.rate (airings mux journal) earlier run.is_air

  -- ---- the entries of pieces

  module _ (now : Follower) (pieces : List Piece) (e : Entering short start now pieces) where
    made : entries_in pieces ≡ all_raised shift (journal_after mux short e.commands)
    made = e.entries ∙ ap (λ (s : ℕ). all_raised s (journal_after start.desk.mux short e.commands)) is_start.shift_is
        ∙ ap (λ (m : Mux). all_raised shift (journal_after m short e.commands)) is_start.mux_is

    entries_are : entries_in pieces ≡ more e.commands
    entries_are = made ∙ sym (journals_alike mux shift journal short e.commands base.sound base.legal base.own base.alike)

    desk_is : desk_of (journal_at e) now ≡ desk_after (desk_with mux short) e.commands
    desk_is =
        ap (λ (m : Mux). desk_with m (journal_at e)) (e.mux ∙ is_start.mux_is)
        ∙ ap (λ (m : Mux). desk_with mux (short ++ journal_after m short e.commands)) is_start.mux_is

    legal : Legal mux (journal ++ entries_in pieces)
    legal = subst (λ (l : List Entry). Legal mux (journal ++ l)) (sym entries_are) (legal_on mux shift journal short base e.commands)

    as_read : AreRead pieces → IsAsRead mux (journal ++ more e.commands)
    as_read typed = read_on mux shift journal short base earlier e.commands run (commands_read shift mux short e.commands pieces made typed)

    -- the tally that a line on the bit rate is of
    rate_is : (cycles : List Aired) → HasTallied (desk_of (journal_at e) now) now.player → airings_of cycles ≡ airings now.desk.mux (journal_at e)
        → rate_line now.desk.mux.rate now.player.tally ≡ rate_line mux.rate (tally_of mux.rate (airings_of cycles))
    rate_is cycles told own =
        let line = λ (r : Option ℕ) (l : List AiredTables). rate_line r (tally_of r l) in
        ap (rate_line now.desk.mux.rate) told ∙ ap (line now.desk.mux.rate) (sym own) ∙ ap (λ (m : Mux). line m.rate (airings_of cycles)) (e.mux ∙ is_start.mux_is)

    -- the cycles that were sent
    sent : AreRead pieces → Carries short (journal_at e) start now air
        → (on : AirOn mux journal (entries_in pieces) earlier air) × (rate_line now.desk.mux.rate now.player.tally ≡ rate_line mux.rate (tally_of mux.rate (airings_of on.cycles)))
    sent typed carries =
        let has = carries.aired earlier a0 is_start.aired in
        let told = (carries.tallied is_start.player_of is_start.tallied).1 in
        let on = air_on mux shift journal short base earlier (desk_of (journal_at e) now) now.player air e.commands airings_are desk_is has (as_read typed) in
        subst (λ (l : List Entry). (x : AirOn mux journal l earlier air) × (rate_line now.desk.mux.rate now.player.tally ≡ rate_line mux.rate (tally_of mux.rate (airings_of x.cycles)))) (sym entries_are)
        (on.0, rate_is on.0.cycles told on.1)

    sent_cut : AreRead pieces → CarriesFront short (journal_at e) start now air
        → (on : CutAirOn mux journal (entries_in pieces) earlier air)
        × (rate_line now.desk.mux.rate now.player.tally ≡ rate_line mux.rate (tally_of mux.rate (airings_of (on.whole ++ on.cut ∷ []))))
    sent_cut typed carries =
        let has = carries.aired earlier a0 is_start.aired in
        let told = (carries.tallied is_start.player_of is_start.tallied).1 in
        let on = cut_on mux shift journal short base earlier (desk_of (journal_at e) now) air e.commands airings_are desk_is has (as_read typed) in
        subst (λ (l : List Entry). (x : CutAirOn mux journal l earlier air)
        × (rate_line now.desk.mux.rate now.player.tally ≡ rate_line mux.rate (tally_of mux.rate (airings_of (x.whole ++ x.cut ∷ []))))) (sym entries_are)
        (on.0, rate_is (on.0.whole ++ on.0.cut ∷ []) told on.1)

  -- ---- the report

  -- behind what was reported the report ends so
  ends_with : (text ending : List ℕ) → Appends r0 r1 text → Reported (took r1 r2 g1 g2) ending → g0 ≤ g1 → EndsWith all text ending
  ends_with text ending before (inl took_all) later = inl (Appends-trans r0 r1 r2 text ending before took_all)
  ends_with text ending before (inr (rose, (n, proper, front))) later =
      inr (Rose-from g0 g1 g2 later rose, (n, proper, Appends-trans r0 r1 r2 text (take n ending) before front))

  -- the text with which the run ends
  ending_is : (now : Follower) (r : Result (Unit {0}) FollowStop) (cycles : List Aired) (comment : List Piece) (s : Status) → comment_of r ≡ comment
      → rate_line now.desk.mux.rate now.player.tally ≡ rate_line mux.rate (tally_of mux.rate (airings_of cycles))
      → closing_text now r ++ fault_lines s ≡ ending_text mux cycles comment s
  ending_is now r cycles comment s is rate =
      append_assoc (pieces_text (comment_of r)) (rate_line now.desk.mux.rate now.player.tally) (fault_lines s)
      ∙ ap (λ (c : List Piece). pieces_text c ++ (rate_line now.desk.mux.rate now.player.tally ++ fault_lines s)) is
      ∙ ap (λ (l : List ℕ). pieces_text comment ++ (l ++ fault_lines s)) rate

  -- ---- the first pieces of the script

  first_are : (front : List Piece) (rest : Followed) → script ≡ with_pieces front rest → take (length front) script.pieces ≡ front
  first_are front rest is = ap (λ (f : Followed). take (length front) f.pieces) is ∙ take-append_seam front rest.pieces

  behind_are : (front : List Piece) (rest : Followed) → script ≡ with_pieces front rest → drop (length front) script.pieces ≡ rest.pieces
  behind_are front rest is = ap (λ (f : Followed). drop (length front) f.pieces) is ∙ drop-append_seam front rest.pieces

  read_front : (front : List Piece) (rest : Followed) → script ≡ with_pieces front rest → AreRead front
  read_front front rest is = front_read front rest.pieces (subst (λ (f : Followed). AreRead f.pieces) is read)

  -- a script that stops after these pieces
  abbrev stops : List Piece → Stop → List Piece → Followed
  stops pieces stop comment = record { pieces = pieces; stop = stop; comment = comment }

  abbrev nothing_left : Stop → List Piece → Followed
  nothing_left stop comment = record { pieces = []; stop = stop; comment = comment }

  as_front : (pieces : List Piece) (stop : Stop) (comment : List Piece) → script ≡ stops pieces stop comment → script ≡ with_pieces pieces (nothing_left stop comment)
  as_front pieces stop comment is = is ∙ ap (λ (l : List Piece). stops l stop comment) (sym (append-nil pieces))

  -- ---- want of memory

  out_of_memory : (k : ℕ) → (SentBut mux journal earlier air all script (take k script.pieces)
      ⊎ (Rose f0 f1 × CutAirOn mux journal (entries_in (take k script.pieces)) earlier air))
      → Appends r0 r1 (pieces_text (take k script.pieces)) → g0 ≤ g1 → (s : Status) → OutOfMemory (took r1 r2 g1 g2) s → FollowedTo mux journal earlier air all script s
  out_of_memory k sent before later s (is, took_it) =
      subst (FollowedTo mux journal earlier air all script) (sym is)
      (record { k = k; air_is = sent; report_is = ends_with (pieces_text (take k script.pieces)) (fault_lines status.Memory) before took_it later })

  -- ---- a report that failed

  -- after the first k pieces, and before what comes next
  abbrev UnreportedAt : List Piece → List Piece → Type 0
  UnreportedAt ps qs =
      Legal mux (journal ++ entries_in ps) → (x : AirOn mux journal (entries_in ps) earlier air) (n : ℕ)
      → n < length (next_text qs (ending_text mux x.cycles [] status.Done))
      → Appends r0 r2 (pieces_text ps ++ take n (next_text qs (ending_text mux x.cycles [] status.Done))) → FollowedUnreported mux journal earlier air all script

  unreported_at : (k : ℕ) (ps qs : List Piece) → take k script.pieces ≡ ps → drop k script.pieces ≡ qs → UnreportedAt ps qs
  unreported_at k ps qs first rest =
      subst (λ (l : List Piece). UnreportedAt l qs) first
      (subst (λ (l : List Piece). UnreportedAt (take k script.pieces) l) rest
      (λ legals x n proper reported. record { k = k; legal = legals; air_is = x; n = n; proper = proper; report_is = reported }))

  -- ---- a script that stops

  module _ (end : Follower) (stop : Stop) (comment : List Piece) (later : g0 ≤ g1) (at : StopsAt short start end air (took r0 r1 g0 g1) script stop comment) where
    abbrev pieces : List Piece
    pieces = at.0

    front : script ≡ with_pieces pieces (nothing_left stop comment)
    front = as_front pieces stop comment at.1

    typed : AreRead pieces
    typed = read_front pieces (nothing_left stop comment) front

    on : (x : AirOn mux journal (entries_in pieces) earlier air) × (rate_line end.desk.mux.rate end.player.tally ≡ rate_line mux.rate (tally_of mux.rate (airings_of x.cycles)))
    on = sent end pieces at.2.entering typed at.2.carries

    memory_there : (s : Status) → OutOfMemory (took r1 r2 g1 g2) s → FollowedTo mux journal earlier air all script s
    memory_there s out =
        let first = first_are pieces (nothing_left stop comment) front in
        out_of_memory (length pieces)
        (inl (inl (subst (λ (l : List Piece). AirOn mux journal (entries_in l) earlier air) (sym first) on.0)))
        (subst (λ (l : List Piece). Appends r0 r1 (pieces_text l)) (sym first) at.2.reported) later s out

    abbrev IsAll : Followed → Stop → Status → Type 0
    IsAll f t s = FollowedAll mux journal earlier air all f t s

    followed_all : (r : Result (Unit {0}) FollowStop) (s : Status) → comment_of r ≡ comment → Reported (took r1 r2 g1 g2) (closing_text end r ++ fault_lines s)
        → FollowedAll mux journal earlier air all script stop s
    followed_all r s is reported =
        subst (λ (f : Followed). FollowedAll mux journal earlier air all f stop s) (sym at.1)
        (record {
          stopped = refl;
          legal = legal end pieces at.2.entering;
          air_is = on.0;
          report_is = ends_with (pieces_text pieces) (ending_text mux on.0.cycles comment s) at.2.reported
              (subst (Reported (took r1 r2 g1 g2)) (ending_is end r on.0.cycles comment s is on.1) reported) later;
        })

    -- how it ends where a fault was met
    fault_met : (r : Result (Unit {0}) FollowStop) (met s : Status) → met_by r ≡ met → comment_of r ≡ comment → or_report met ≡ met
        → ((t : Status) → FollowedAll mux journal earlier air all script stop met → t ≡ met → FollowedTo mux journal earlier air all script t)
        → OutOfMemory (took r1 r2 g1 g2) s ⊎ ReportEnds (met_by r) (closing_text end r) (took r1 r2 g1 g2) s → FollowedTo mux journal earlier air all script s
    fault_met r met s is comment_is own wrap (inl out) = memory_there s out
    fault_met r met s is comment_is own wrap (inr ends) =
        by (subst (λ (m : Status). ReportEnds m (closing_text end r) (took r1 r2 g1 g2) s) is ends)
      where
        by : ReportEnds met (closing_text end r) (took r1 r2 g1 g2) s → FollowedTo mux journal earlier air all script s
        by (inl (appended, e)) = wrap s (followed_all r met comment_is (inl appended)) e
        by (inr (rose, fronts, e)) = wrap s (followed_all r met comment_is (inr (rose, fronts))) (e ∙ own)

  -- the script was done
  ended_done : (end : Follower) (later : g0 ≤ g1) (at : StopsAt short start end air (took r0 r1 g0 g1) script Ended []) (s : Status)
      → OutOfMemory (took r1 r2 g1 g2) s ⊎ ReportEnds status.Done (closing_text end (Ok tt)) (took r1 r2 g1 g2) s → FollowedTo mux journal earlier air all script s
  ended_done end later at s (inl out) = memory_there end Ended [] later at s out
  ended_done end later at s (inr (inl (appended, e))) =
      let x = on end Ended [] later at in
      subst (FollowedTo mux journal earlier air all script) (sym e)
      (subst (λ (f : Followed). FollowedWhole mux journal earlier air all f) (sym at.1)
      (record {
        stopped = refl;
        legal = legal end at.0 at.2.entering;
        air_is = x.0;
        report_is = Appends-trans r0 r1 r2 (pieces_text at.0) (ending_text mux x.0.cycles [] status.Done) at.2.reported
            (subst (Appends r1 r2) (ending_is end (Ok tt) x.0.cycles [] status.Done refl x.1) appended);
      }))
  ended_done end later at s (inr (inr (rose, (n, proper, fronts), e))) =
      let x = on end Ended [] later at in
      let f = front end Ended [] later at in
      let first = first_are at.0 (nothing_left Ended []) f in
      let rest = behind_are at.0 (nothing_left Ended []) f in
      let ending = ending_is end (Ok tt) x.0.cycles [] status.Done refl x.1 in
      subst (FollowedTo mux journal earlier air all script) (sym e)
      (unreported_at (length at.0) at.0 [] first rest (legal end at.0 at.2.entering) x.0 n
      (subst (λ (l : List ℕ). n < length l) ending proper)
      (Appends-trans r0 r1 r2 (pieces_text at.0) (take n (ending_text mux x.0.cycles [] status.Done)) at.2.reported
      (subst (λ (l : List ℕ). Appends r1 r2 (take n l)) ending fronts)))

  -- a line ended it, or the reader did
  by_stop : (end : Follower) (later : g0 ≤ g1) (r : Result (Unit {0}) FollowStop) → RestDid short start end air (took r0 r1 g0 g1) script r → (r ≡ Err Air → Rose f0 f1) → (s : Status)
      → FinishedBy end r (took r1 r2 g1 g2) s
      → (r ≡ Err (Read Failed) → StopsAt short start end air (took r0 r1 g0 g1) script Unread []) → FollowedTo mux journal earlier air all script s
  by_stop end later (Ok u) did cause s finished failed = ended_done end later did s finished
  by_stop end later (Err (NoCommand n why)) did cause s finished failed =
      fault_met end (NoLine n) (Noted n why ∷ []) later did (Err (NoCommand n why)) (status.BadScript n) s refl refl refl
      (λ t f e. subst (FollowedTo mux journal earlier air all script) (sym e) f) finished
  by_stop end later (Err (Disagrees n kept found)) did cause s finished failed =
      fault_met end (Disagreed n kept found) [] later did (Err (Disagrees n kept found)) (status.Disagrees n kept found) s refl refl refl
      (λ t f e. subst (FollowedTo mux journal earlier air all script) (sym e) f) finished
  by_stop end later (Err (Read Overlong)) did cause s finished failed =
      fault_met end TooLong [] later did (Err (Read Overlong)) (status.TooLong Input) s refl refl refl
      (λ t f e. subst (FollowedTo mux journal earlier air all script) (sym e) f) finished
  by_stop end later (Err (Read Failed)) did cause s finished failed =
      fault_met end Unread [] later (failed refl) (Err (Read Failed)) (status.ReadFault Input) s refl refl refl
      (λ t f e. subst (FollowedTo mux journal earlier air all script) (sym e) f) finished
  by_stop end later (Err Air) (pieces, rest, is, c) cause s finished failed = by finished
    where
      typed : AreRead pieces
      typed = read_front pieces rest is

      x : (x : CutAirOn mux journal (entries_in pieces) earlier air)
          × (rate_line end.desk.mux.rate end.player.tally ≡ rate_line mux.rate (tally_of mux.rate (airings_of (x.whole ++ x.cut ∷ []))))
      x = sent_cut end pieces c.entering typed c.carries

      first : take (length pieces) script.pieces ≡ pieces
      first = first_are pieces rest is

      CutAt : List Piece → Type 0
      CutAt ps = Legal mux (journal ++ entries_in ps) → (y : CutAirOn mux journal (entries_in ps) earlier air)
          → EndsWith all (pieces_text ps) (ending_text mux (y.whole ++ y.cut ∷ []) [] (status.WriteFault outlet.Air)) → FollowedToCut mux journal earlier air all script

      cut_at : CutAt pieces
      cut_at = subst CutAt first (λ legals y ends. record { k = length pieces; legal = legals; air_is = y; report_is = ends })

      ended : Reported (took r1 r2 g1 g2) (closing_text end (Err Air) ++ fault_lines (status.WriteFault outlet.Air)) → FollowedToCut mux journal earlier air all script
      ended reported =
          cut_at (legal end pieces c.entering) x.0
          (ends_with (pieces_text pieces) (ending_text mux (x.0.whole ++ x.0.cut ∷ []) [] (status.WriteFault outlet.Air)) c.reported
          (subst (Reported (took r1 r2 g1 g2)) (ending_is end (Err Air) (x.0.whole ++ x.0.cut ∷ []) [] (status.WriteFault outlet.Air) refl x.1) reported) later)

      by : OutOfMemory (took r1 r2 g1 g2) s ⊎ ReportEnds (status.WriteFault outlet.Air) (closing_text end (Err Air)) (took r1 r2 g1 g2) s → FollowedTo mux journal earlier air all script s
      by (inl out) =
          out_of_memory (length pieces) (inr (cause refl, subst (λ (l : List Piece). CutAirOn mux journal (entries_in l) earlier air) (sym first) x.0))
          (subst (λ (l : List Piece). Appends r0 r1 (pieces_text l)) (sym first) c.reported) later s out
      by (inr (inl (appended, e))) = subst (FollowedTo mux journal earlier air all script) (sym e) (ended (inl appended))
      by (inr (inr (rose, fronts, e))) = subst (FollowedTo mux journal earlier air all script) (sym e) (ended (inr (rose, fronts)))
  by_stop end later (Err Report) (pieces, piece, rest, is, u) cause s (e, same) failed =
      let front_is : script ≡ with_pieces pieces (with_pieces (piece ∷ []) rest) =
      is ∙ ap (λ (l : List Piece). let f : Followed = record rest { pieces = l } in f) (append_assoc pieces (piece ∷ []) rest.pieces) in
      let typed = read_front pieces (with_pieces (piece ∷ []) rest) front_is in
      let x = sent u.state pieces u.entering typed u.carries in
      subst (FollowedTo mux journal earlier air all script) (sym e)
      (unreported_at (length pieces) pieces (piece ∷ rest.pieces) (first_are pieces (with_pieces (piece ∷ []) rest) front_is) (behind_are pieces (with_pieces (piece ∷ []) rest) front_is)
      (legal u.state pieces u.entering) x.0 u.n u.proper (subst (λ (o : Option (List ℕ)). Appends r0 o (pieces_text pieces ++ take u.n (piece_text piece))) (sym same) u.reported))
  by_stop end later (Err Memory) (pieces, swap, rest, is, m) cause s finished failed =
      let first = first_are (pieces ++ swap) rest is in
      let front_is : script ≡ with_pieces pieces (with_pieces swap rest) =
      is ∙ ap (λ (l : List Piece). let f : Followed = record rest { pieces = l } in f) (append_assoc pieces swap rest.pieces) in
      let typed = read_front pieces (with_pieces swap rest) front_is in
      let x = sent m.state pieces m.entering typed m.carries in
      out_of_memory (length (pieces ++ swap)) (inl (subst (SentBut mux journal earlier air all script) (sym first) (sent_but pieces swap x.0 m.swap_is)))
      (subst (λ (l : List Piece). Appends r0 r1 (pieces_text l)) (sym first) m.reported) later s finished
    where
      sent_but : (ps ws : List Piece) → AirOn mux journal (entries_in ps) earlier air → (ws ≡ []) ⊎ ((piece : Piece) × (ws ≡ piece ∷ []) × IsSwapEntry piece)
          → SentBut mux journal earlier air all script (ps ++ ws)
      sent_but ps ws x (inl none) = inl (subst (λ (l : List Piece). AirOn mux journal (entries_in l) earlier air) (sym (ap (λ (l : List Piece). ps ++ l) none ∙ append-nil ps)) x)
      sent_but ps ws x (inr (piece, one, swap)) = inr (ps, piece, ap (λ (l : List Piece). ps ++ l) one, swap, x)

  -- a read failed, and then memory was wanting
  front_memory : (end : Follower) (later : g0 ≤ g1) → RestDid short start end air (took r0 r1 g0 g1) script (Err (Read Failed)) → (s : Status) → OutOfMemory (took r1 r2 g1 g2) s
      → FollowedTo mux journal earlier air all script s
  front_memory end later (pieces, rest, is, at) s out =
      let first = first_are pieces rest is in
      let x = sent end pieces at.entering (read_front pieces rest is) at.carries in
      out_of_memory (length pieces) (inl (inl (subst (λ (l : List Piece). AirOn mux journal (entries_in l) earlier air) (sym first) x.0)))
      (subst (λ (l : List Piece). Appends r0 r1 (pieces_text l)) (sym first) at.reported) later s out

-- What is left behind a journal and its air, of a script that was followed at a desk which goes on as that journal does.
pub follows_behind : (keep : Bool) (mux : Mux) (shift : ℕ) (journal short : List Entry) (earlier : List Aired) → IsBase mux shift journal short → HasRun mux journal earlier
    → (start end : Follower) (a0 a1 r0 r1 r2 : Option (List ℕ)) (f0 f1 g0 g1 g2 : ℕ) → IsStartOf mux shift short earlier start a0 → (lines : Ahead)
    → (r : Result (Unit {0}) FollowStop) → RestDid short start end (took a0 a1 f0 f1) (took r0 r1 g0 g1) (followed keep start.shift start.desk.mux short lines) r
    → (r ≡ Err Air → Rose f0 f1) → (r ≡ Err (Read Failed) → StopsAt short start end (took a0 a1 f0 f1) (took r0 r1 g0 g1) (followed keep start.shift start.desk.mux short lines) Unread [])
    → g0 ≤ g1 → (s : Status) → FinishedBy end r (took r1 r2 g1 g2) s
    → FollowsBehind keep mux journal earlier (took a0 a1 f0 f1) (took r0 r2 g0 g2) lines s
follows_behind keep mux shift journal short earlier base run start end a0 a1 r0 r1 r2 f0 f1 g0 g1 g2 is lines r did cause failed later s finished =
    let same : followed keep start.shift start.desk.mux short lines ≡ followed keep 0 mux journal lines =
    ap (λ (n : ℕ). followed keep n start.desk.mux short lines) is.shift_is ∙ ap (λ (m : Mux). followed keep shift m short lines) is.mux_is
    ∙ followed_same keep mux shift base.sound journal short lines base.legal base.own base.alike in
    by_stop mux shift journal short earlier base run start a0 a1 r0 r1 r2 f0 f1 g0 g1 g2 is (followed keep 0 mux journal lines) (followed_read keep 0 mux journal lines) end later r
    (subst (λ (f : Followed). RestDid short start end (took a0 a1 f0 f1) (took r0 r1 g0 g1) f r) same did) cause s finished
    (λ e. subst (λ (f : Followed). StopsAt short start end (took a0 a1 f0 f1) (took r0 r1 g0 g1) f Unread []) same (failed e))

-- And where a read failed, and then memory was wanting: of all lines that there are.
pub memory_behind : (keep : Bool) (mux : Mux) (shift : ℕ) (journal short : List Entry) (earlier : List Aired) → IsBase mux shift journal short → HasRun mux journal earlier
    → (start end : Follower) (a0 a1 r0 r1 r2 : Option (List ℕ)) (f0 f1 g0 g1 g2 : ℕ) → IsStartOf mux shift short earlier start a0 → (lines : Ahead)
    → RestDid short start end (took a0 a1 f0 f1) (took r0 r1 g0 g1) (followed keep start.shift start.desk.mux short lines) (Err (Read Failed))
    → g0 ≤ g1 → (s : Status) → OutOfMemory (took r1 r2 g1 g2) s
    → FollowsBehind keep mux journal earlier (took a0 a1 f0 f1) (took r0 r2 g0 g2) lines s
memory_behind keep mux shift journal short earlier base run start end a0 a1 r0 r1 r2 f0 f1 g0 g1 g2 is lines did later s out =
    let same : followed keep start.shift start.desk.mux short lines ≡ followed keep 0 mux journal lines =
    ap (λ (n : ℕ). followed keep n start.desk.mux short lines) is.shift_is ∙ ap (λ (m : Mux). followed keep shift m short lines) is.mux_is
    ∙ followed_same keep mux shift base.sound journal short lines base.legal base.own base.alike in
    front_memory mux shift journal short earlier base run start a0 a1 r0 r1 r2 f0 f1 g0 g1 g2 is (followed keep 0 mux journal lines) (followed_read keep 0 mux journal lines) end later
    (subst (λ (f : Followed). RestDid short start end (took a0 a1 f0 f1) (took r0 r1 g0 g1) f (Err (Read Failed))) same did) s out
