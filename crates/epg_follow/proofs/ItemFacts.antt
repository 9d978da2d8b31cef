-- What a line did, from what was written of it and sent.
use Rattle.std.proofs.Common.{◌≡◌, ℕ, Bool, true, false, List, [], ◌∷◌, ◌++◌, refl, sym, ap, ◌∙◌, subst, inl, inr}
use Rattle.std.specs.Prelude.{Option, Some, None, Ok, Err, Result}
use Rattle.std.specs.Io.KnownBytes.{Appends}
use Rattle.si_causes.specs.Causes.{AppendsFront, Rose}
use Rattle.air_model.specs.Air.{Aired}
use Rattle.cycle_player.specs.Sending.{AtEnd, Sending}
use Rattle.journal_model.specs.declared.step.Step.{Step}
use Rattle.journal_model.specs.declared.step.Step.TheVariants.{Edit, Publish, Swap, Tick}
use Rattle.journal_model.specs.declared.step.Outcome.{Outcome}
use Rattle.journal_model.specs.declared.step.Entry.{Entry}
use Rattle.desk_core.specs.Journal.{Legal, entry_after}
use Rattle.desk_core.specs.Desks.{DeskState}
use Rattle.desk_core.specs.Lean.{StandsFor}
use Rattle.journal_air.specs.declared.send.SendStop.{SendStop}
use Rattle.journal_air.specs.declared.send.SendStop.TheVariants as send
use Rattle.journal_air.specs.OnAir.{AreAlike, HasAired, HasAiredFront, IsPlayerOf, SentCycle, airing_on, and_step, is_swap}
use Rattle.journal_air.specs.Tallied.{CountedCycle, HasTallied}
use Rattle.journal_air.proofs.SwapFacts.{other_aired, player_kept, swap_aired}
use Rattle.journal_air.proofs.Tallied.{other_tallied, swap_tallied}
use Rattle.epg_report.specs.Told.{ReportTaken}
use Rattle.script_lines.specs.declared.script.ScriptItem.TheVariants.{Step as step}
use Rattle.script_notes.specs.declared.noting.Noting.{Noting}
use Rattle.script_notes.specs.declared.noting.Noting.TheVariants.{Item}
use Rattle.script_notes.specs.declared.why.Why.TheVariants.{Disagrees as Differs}
use Rattle.epg_play.specs.Outcomes.{is_outcome}
use Rattle.epg_play.specs.Script.{NoCommand as NoLine}
use Rattle.script_notes.specs.declared.why.Why.{Why}
use Rattle.script_notes.specs.Pieces.{Piece, Entered, Noted, piece_text, pieces_text}
use Rattle.epg_follow.specs.declared.follower.Follower.{Follower}
use Rattle.epg_follow.specs.declared.stop.FollowStop.{FollowStop}
use Rattle.epg_follow.specs.declared.stop.FollowStop.TheVariants.{NoCommand, Disagrees, Read, Air, Report, Memory}
use Rattle.epg_follow.specs.Course.{Addition, Adds, addition, entered, entries_with, made_by, of_kept, unless_kept}
use Rattle.epg_follow.specs.Items.{Carries, GoesOn, HasEntered, LineDid, TookNothing, Writes, added, desk_of}
use Rattle.epg_follow.proofs.CourseFacts.{pieces_text-one}

-- nothing was sent
pub carries_idle : (journal after : List Entry) (old new : Follower) (air : ReportTaken) → after ≡ journal → new.desk.mux ≡ old.desk.mux → new.player ≡ old.player → TookNothing air
    → Carries journal after old new air
carries_idle journal after old new air same mux player silent =
    let desk : desk_of after new ≡ desk_of journal old =
    ap (λ (l : List Entry). desk_of l new) same ∙ ap (λ m. let d : DeskState = record { mux = m; entries = journal } in d) mux in
    record {
      aired = λ earlier before has.
          subst (λ (w : Option (List ℕ)). HasAired earlier (desk_of after new) new.player before w) (sym silent)
          (subst (λ (p : Sending). HasAired earlier (desk_of after new) p before air.old) (sym player)
          (subst (λ (d : DeskState). HasAired earlier d old.player before air.old) (sym desk) has));
      tallied = λ is has. (
        subst (λ m. IsPlayerOf m new.player) (sym mux) (subst (λ (p : Sending). IsPlayerOf old.desk.mux p) (sym player) is),
        subst (λ (p : Sending). HasTallied (desk_of after new) p) (sym player) (subst (λ (d : DeskState). HasTallied d old.player) (sym desk) has),
      );
    }

-- a comment was written
pub noted_did : (keep : Bool) (journal : List Entry) (old : Follower) (noting : Noting) (air report : ReportTaken) (piece : Piece) (r : Result (Unit {0}) FollowStop)
    → addition keep old.shift old.desk.mux journal old.made noting ≡ Adds piece → entries_with keep old.shift old.desk.mux journal noting ≡ journal
    → made_by keep old.shift old.desk.mux journal noting ≡ None → StandsFor journal old.desk → TookNothing air → Writes (piece_text piece) report r
    → LineDid keep journal old (record old { made = None }) noting air report r
noted_did keep journal old noting air report piece (Ok u) adds same made stands silent wrote = record {
  goes_on = subst GoesOn (sym adds) tt;
  stands = subst (λ (l : List Entry). StandsFor l old.desk) (sym same) stands;
  made = sym made;
  reported = subst (λ (a : Addition). Appends report.old report.new (pieces_text (added a))) (sym adds) (subst (Appends report.old report.new) (sym (pieces_text-one piece)) wrote);
  carries = carries_idle journal (entries_with keep old.shift old.desk.mux journal noting) old (record old { made = None }) air same refl refl silent;
}
noted_did keep journal old noting air report piece (Err Report) adds same made stands silent (rose, front) = record { piece = piece; adds_it = adds; front = front; cause = rose; silent = silent }
noted_did keep journal old noting air report piece (Err Memory) adds same made stands silent wrote = record { reported = inl wrote; silent = silent }
noted_did keep journal old noting air report piece (Err (NoCommand n why)) adds same made stands silent wrote = absurd wrote
noted_did keep journal old noting air report piece (Err (Disagrees n kept found)) adds same made stands silent wrote = absurd wrote
noted_did keep journal old noting air report piece (Err (Read stop)) adds same made stands silent wrote = absurd wrote
noted_did keep journal old noting air report piece (Err Air) adds same made stands silent wrote = absurd wrote

pub kept_adds : (keep : Bool) (n : ℕ) (kept found : Outcome) (made : Option Outcome) → made ≡ Some found → is_outcome kept found ≡ false → keep ≡ true
    → of_kept keep n kept made ≡ Adds (Noted n (Differs kept found))
kept_adds keep n kept found made is differs keeps = rw (is, differs, keeps) refl

-- ---- a command

swap_is : (s : Step) → is_swap s ≡ true → s ≡ Swap
swap_is Swap is = refl
swap_is Publish is = cc is
swap_is (Edit feed e) is = cc is
swap_is (Tick at) is = cc is

-- its entry was not reported
pub unwritten : (keep : Bool) (journal : List Entry) (old end : Follower) (who : ℕ) (s : Step) (air report : ReportTaken) (entry : Entry) (stop : FollowStop)
    → entry ≡ entered old.shift old.desk.mux journal (who, s) → Writes (piece_text (Entered entry)) report (Err stop) → TookNothing air
    → LineDid keep journal old end (Item (step who s)) air report (Err stop)
unwritten keep journal old end who s air report entry Report is (rose, front) silent = record {
  piece = Entered (entered old.shift old.desk.mux journal (who, s));
  adds_it = refl;
  front = subst (λ (e : Entry). AppendsFront report.old report.new (piece_text (Entered e))) is front;
  cause = rose;
  silent = silent;
}
unwritten keep journal old end who s air report entry Memory is wrote silent = record { reported = inl wrote; silent = silent }
unwritten keep journal old end who s air report entry (NoCommand n why) is wrote silent = absurd wrote
unwritten keep journal old end who s air report entry (Disagrees n kept found) is wrote silent = absurd wrote
unwritten keep journal old end who s air report entry (Read stop) is wrote silent = absurd wrote
unwritten keep journal old end who s air report entry Air is wrote silent = absurd wrote

module _ (keep : Bool) (journal : List Entry) (old mid : Follower) (who : ℕ) (s : Step) (air report : ReportTaken) (entry : Entry)
    (is : entry ≡ entered old.shift old.desk.mux journal (who, s)) (legal : Legal old.desk.mux journal)
    (stands : StandsFor (journal ++ entry_after old.desk.mux journal (who, s) ∷ []) mid.desk) (mux : mid.desk.mux ≡ old.desk.mux) (player : mid.player ≡ old.player)
    (made : mid.made ≡ Some entry.outcome) where
  abbrev command : Noting
  command = Item (step who s)

  abbrev own : Piece
  own = Entered (entered old.shift old.desk.mux journal (who, s))

  abbrev after : List Entry
  after = journal ++ entry_after old.desk.mux journal (who, s) ∷ []

  -- the desk did the step
  stepped : (f : Follower) → f.desk.mux ≡ old.desk.mux → desk_of after f ≡ and_step (desk_of journal old) who s
  stepped f same = ap (λ m. let d : DeskState = record { mux = m; entries = after } in d) same

  wrote_own : Appends report.old report.new (piece_text (Entered entry)) → Appends report.old report.new (piece_text own)
  wrote_own wrote = subst (λ (e : Entry). Appends report.old report.new (piece_text (Entered e))) is wrote

  made_own : (f : Follower) → f.made ≡ mid.made → f.made ≡ Some (entered old.shift old.desk.mux journal (who, s)).outcome
  made_own f same = same ∙ made ∙ ap (λ (e : Entry). let o : Option Outcome = Some e.outcome in o) is

  -- it puts nothing on air
  pub other_did : is_swap s ≡ false → TookNothing air → Appends report.old report.new (piece_text (Entered entry)) → LineDid keep journal old mid command air report (Ok tt)
  other_did other silent wrote = record {
    goes_on = tt;
    stands = stands;
    made = made_own mid refl;
    reported = subst (Appends report.old report.new) (sym (pieces_text-one own)) (wrote_own wrote);
    carries = record {
      aired = λ earlier before has.
          subst (λ (d : DeskState). HasAired earlier d mid.player before air.new) (sym (stepped mid mux))
          (subst (λ (p : Sending). HasAired earlier (and_step (desk_of journal old) who s) p before air.new) (sym player)
          (subst (λ (w : Option (List ℕ)). HasAired earlier (and_step (desk_of journal old) who s) old.player before w) (sym silent)
          (other_aired earlier (desk_of journal old) who s old.player before air.old legal other has)));
      tallied = λ of has. (
        subst (λ (p : Sending). IsPlayerOf mid.desk.mux p) (sym player) (subst (λ m. IsPlayerOf m old.player) (sym mux) of),
        subst (λ (p : Sending). HasTallied (desk_of after mid) p) (sym player)
            (other_tallied (desk_of journal old) (desk_of after mid) who s old.player (stepped mid mux) legal other has),
      );
    };
  }

  -- a swap, whose cycle was sent or not
  module _ (end : Follower) (swap : is_swap s ≡ true) (desk : end.desk ≡ mid.desk) (made_same : end.made ≡ mid.made) (alike : AreAlike mid.player end.player)
      (wrote : Appends report.old report.new (piece_text (Entered entry))) where
    mux_end : end.desk.mux ≡ old.desk.mux
    mux_end = ap (λ d. d.mux) desk ∙ mux

    keeps : AreAlike old.player end.player
    keeps = record { form = alike.form ∙ ap (λ (p : Sending). p.form) player; rate = alike.rate ∙ ap (λ (p : Sending). p.rate) player }

    abbrev Sends : Result (Unit {0}) SendStop → Type 0
    Sends r = (xs : List Aired) → AtEnd xs mid.player → SentCycle xs (airing_on (desk_of after mid) mid.player.form) end.player air.old air.new r

    abbrev Counts : Result (Unit {0}) SendStop → Type 0
    Counts r = CountedCycle (airing_on (desk_of after mid) mid.player.form) mid.player end.player r

    sends_own : (r : Result (Unit {0}) SendStop) → Sends r → (xs : List Aired) → AtEnd xs old.player
        → SentCycle xs (airing_on (and_step (desk_of journal old) who s) old.player.form) end.player air.old air.new r
    sends_own r sends =
        subst (λ (d : DeskState). (xs : List Aired) → AtEnd xs old.player → SentCycle xs (airing_on d old.player.form) end.player air.old air.new r) (stepped mid mux)
        (subst (λ (p : Sending). (xs : List Aired) → AtEnd xs p → SentCycle xs (airing_on (desk_of after mid) p.form) end.player air.old air.new r) player sends)

    counts_own : (r : Result (Unit {0}) SendStop) → Counts r → CountedCycle (airing_on (desk_of after end) old.player.form) old.player end.player r
    counts_own r counts =
        subst (λ (d : DeskState). CountedCycle (airing_on d old.player.form) old.player end.player r) (stepped mid mux ∙ sym (stepped end mux_end))
        (subst (λ (p : Sending). CountedCycle (airing_on (desk_of after mid) p.form) p end.player r) player counts)

    player_end : IsPlayerOf old.desk.mux old.player → IsPlayerOf end.desk.mux end.player
    player_end of = subst (λ m. IsPlayerOf m end.player) (sym mux_end) (player_kept old.desk.mux old.player end.player keeps of)

    pub swap_did : Sends (Ok tt) → Counts (Ok tt) → LineDid keep journal old end command air report (Ok tt)
    swap_did sends counts = record {
      goes_on = tt;
      stands = subst (λ d. StandsFor after d) (sym desk) stands;
      made = made_own end made_same;
      reported = subst (Appends report.old report.new) (sym (pieces_text-one own)) (wrote_own wrote);
      carries = record {
        aired = λ earlier before has.
            subst (λ (d : DeskState). HasAired earlier d end.player before air.new) (sym (stepped end mux_end))
            (swap_aired earlier (desk_of journal old) who s old.player end.player before air.old air.new (Ok tt) legal swap keeps has (sends_own (Ok tt) sends));
        tallied = λ of has. (
          player_end of,
          swap_tallied (desk_of journal old) (desk_of after end) who s old.player end.player (Ok tt) (stepped end mux_end) legal swap of has (counts_own (Ok tt) counts),
        );
      };
    }

    pub swap_cut : Rose air.faults_old air.faults_new → Sends (Err send.Air) → Counts (Err send.Air) → LineDid keep journal old end command air report (Err Air)
    swap_cut rose sends counts = record {
      piece = own;
      adds_it = refl;
      is_swap = swap_is s swap;
      reported = wrote_own wrote;
      cause = rose;
      carries = record {
        aired = λ earlier before has.
            subst (λ (d : DeskState). HasAiredFront earlier d before air.new) (sym (stepped end mux_end))
            (swap_aired earlier (desk_of journal old) who s old.player end.player before air.old air.new (Err send.Air) legal swap keeps has (sends_own (Err send.Air) sends));
        tallied = λ of has. (
          player_end of,
          swap_tallied (desk_of journal old) (desk_of after end) who s old.player end.player (Err send.Air) (stepped end mux_end) legal swap of has (counts_own (Err send.Air) counts),
        );
      };
    }

    pub swap_given_up : TookNothing air → LineDid keep journal old end command air report (Err Memory)
    swap_given_up silent = record { reported = inr (own, refl, swap_is s swap, wrote_own wrote); silent = silent }

pub bad_adds : (keep : Bool) (n : ℕ) (why : Why) → keep ≡ true → unless_kept keep (Noted n why) (NoLine n) (Noted n why ∷ []) ≡ Adds (Noted n why)
bad_adds keep n why keeps = rw keeps refl

-- the line of an entry is that of its command
pub as_command : (keep : Bool) (journal : List Entry) (old new : Follower) (who : ℕ) (s : Step) (air report : ReportTaken) (r : Result (Unit {0}) FollowStop) (entry : Entry)
    → entry ≡ entered old.shift old.desk.mux journal (who, s) → LineDid keep journal old new (Item (step entry.who entry.step)) air report r
    → LineDid keep journal old new (Item (step who s)) air report r
as_command keep journal old new who s air report r entry is did =
    subst (λ (e : Entry). LineDid keep journal old new (Item (step e.who e.step)) air report r) is did

pub entered_now : (journal : List Entry) (old new : Follower) (who : ℕ) (s : Step) (entry : Entry) → entry ≡ entered old.shift old.desk.mux journal (who, s) → StandsFor journal old.desk
    → StandsFor (journal ++ entry_after old.desk.mux journal (who, s) ∷ []) new.desk → new.desk.mux ≡ old.desk.mux → new.player ≡ old.player → HasEntered journal old new entry
entered_now journal old new who s entry is stood stands mux player =
    subst (λ (e : Entry). HasEntered journal old new e) (sym is) (record { stood = stood; is = refl; stands = stands; mux = mux; player = player })
