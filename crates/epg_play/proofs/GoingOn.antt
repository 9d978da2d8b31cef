-- A script that is played at a desk which goes on as a journal does is played as behind that journal.
use Rattle.std.proofs.Common.{◌≡◌, ◌+◌, ◌<◌, ◌^◌, ℕ, false, List, [], ◌∷◌, ◌++◌, length, sym, ap, ◌∙◌, subst, inl, inr, ◌⊎◌}
use Rattle.std.specs.Prelude.{Option, None}
use Rattle.std.specs.List.{AllByRecursion}
use Rattle.std.proofs.lemmas.List.{append_cancel_left, map-append}
use Rattle.std.proofs.Math.Seq.{drop-append_seam}
use Rattle.si_lists.proofs.Lists.{all_append, all_drop, all_to_map, two_fronts}
use Rattle.input_lines.specs.Ahead.{Ahead}
use Rattle.version_book.specs.Airings.{AiredTables}
use Rattle.version_book.specs.Book.{GivenVersions, given_entries}
use Rattle.ts_packets.specs.PidCounters.{kept_from}
use Rattle.air_model.specs.Air.{Aired, airings_of}
use Rattle.cycle_timing.specs.Clock.{Clock}
use Rattle.cycle_player.specs.Airs.{AreMadeAt, IsAirAt}
use Rattle.cycle_player.specs.Sending.{AtEnd, Sending}
use Rattle.cycle_player.proofs.Airs.{airings_are as cycle_airings}
use Rattle.cycle_player.proofs.Ends.{end_air}
use Rattle.mux_model.specs.declared.mux.Mux.{Mux}
use Rattle.mux_model.specs.Sound.{IsSound}
use Rattle.journal_model.specs.declared.step.Step.TheVariants.{Swap}
use Rattle.journal_model.specs.declared.step.Entry.{Entry}
use Rattle.journal_model.specs.Steps.{Command, IsStepInWindow, IsStepWithin, IsTypedStep}
use Rattle.desk_core.specs.Journal.{Legal, journal_after, publishes}
use Rattle.desk_core.specs.Desks.{DeskState}
use Rattle.desk_core.proofs.TypedFacts.{accepted_typed}
use Rattle.script_lines.specs.Script.{asked_by, items_ahead}
use Rattle.journal_air.specs.Air.{airings}
use Rattle.journal_air.specs.JournalScreenShown.{IsAsRead}
use Rattle.journal_air.proofs.Heard.{airs_heard}
use Rattle.desk_checkpoint.specs.Steps.{checkpoint_steps}
use Rattle.desk_checkpoint.specs.Going.{GoOnAlike}
use Rattle.journal_model.specs.Raising.{all_raised, raised_entry}
use Rattle.desk_checkpoint.proofs.GoFacts.{after_alike, all_legal, folds_again, journals_alike}
use Rattle.desk_checkpoint.specs.Text.{checkpoint_text, desk_steps, start_text}
use Rattle.desk_checkpoint.specs.HandedOver.{AreHandedOver, HandsOver}
use Rattle.epg_play.specs.NeverRefused.{HasShortMoment}
use Rattle.cycle_player.specs.Clock.{reads}
use Rattle.journal_air.specs.OnAir.{HasAired, HasAiredFront, HasSentAll}
use Rattle.epg_report.specs.Told.{ReportTaken}
use Rattle.epg_play.specs.Played.{course, desk_after}
use Rattle.epg_play.specs.Script.{commands_of, first_difference, stop_of, up_to}
use Rattle.epg_play.proofs.TypedFacts.{AreTypedCommands, after_typed, after_window}
use Rattle.epg_play.specs.Checkpointed.{HasRun, IsCheckpoint}
use Rattle.epg_play.specs.Behind.{AirOn, CutAirOn, played_behind}
use Rattle.epg_play.proofs.SentBehind.{cut_sent_behind, whole_sent_behind}

abbrev pub desk_with : Mux → List Entry → DeskState
desk_with mux entries = record { mux = mux; entries = entries }

-- A desk with the short journal goes on as the other one, and has put nothing on air.
pub record IsBase (mux : Mux) (shift : ℕ) (journal short : List Entry) : Type 0 where
  pub sound : IsSound mux
  pub legal : Legal mux journal
  pub own : Legal mux short
  pub alike : GoOnAlike mux shift journal short
  pub airs : (commands : List Command) → airings mux (journal ++ journal_after mux journal commands) ≡ airings mux journal ++ airings mux (short ++ journal_after mux short commands)
  pub no_swap : (front : List Entry) (last : Entry) → short ≡ front ++ last ∷ [] → last.step ≡ Swap → ⊥

module _ (mux : Mux) (shift : ℕ) (journal short : List Entry) (base : IsBase mux shift journal short) where
  abbrev more : List Command → List Entry
  more commands = journal_after mux journal commands

  abbrev new : List Command → List Entry
  new commands = journal_after mux short commands

  replies : (commands : List Command) → all_raised shift (new commands) ≡ more commands
  replies commands = sym (journals_alike mux shift journal short commands base.sound base.legal base.own base.alike)

  pub legal_on : (commands : List Command) → Legal mux (journal ++ more commands)
  legal_on commands = all_legal mux journal commands base.legal

  -- ---- the script

  pub course_same : (lines : Ahead) → course shift mux short None lines ≡ played_behind mux journal lines
  course_same lines =
      let asked = asked_by (items_ahead false lines).0 in
      ap (λ (l : List Entry). up_to (first_difference asked l) (commands_of asked) (stop_of (items_ahead false lines).1)) (replies (commands_of asked))

  -- the entries that were made
  pub made_same : (end : DeskState) (commands : List Command) (made : List Entry) → end ≡ desk_after (desk_with mux short) commands → end.entries ≡ short ++ made → all_raised shift made ≡ more commands
  made_same end commands made did entries =
      ap (all_raised shift) (append_cancel_left short made (new commands) (sym entries ∙ ap (λ (d : DeskState). d.entries) did))
      ∙ replies commands

  -- ---- the air

  airings_on : (earlier cycles : List Aired) (end : DeskState) (commands : List Command) → airings_of earlier ≡ airings mux journal → end ≡ desk_after (desk_with mux short) commands
      → airings_of cycles ≡ airings end.mux end.entries → airings_of (earlier ++ cycles) ≡ airings mux (journal ++ more commands)
  airings_on earlier cycles end commands before did own =
      map-append (λ (x : Aired). x.airing) earlier cycles
      ∙ ap (λ (l : List AiredTables). l ++ airings_of cycles) before
      ∙ ap (λ (l : List AiredTables). airings mux journal ++ l) (own ∙ ap (λ (d : DeskState). airings d.mux d.entries) did)
      ∙ sym (base.airs commands)

  pub is_air_on : (earlier cycles : List Aired) (end : DeskState) (player : Sending) (commands : List Command) → airings_of earlier ≡ airings mux journal
      → end ≡ desk_after (desk_with mux short) commands → HasSentAll earlier end player cycles → IsAirAt mux.rate (airings mux (journal ++ more commands)) (earlier ++ cycles)
  is_air_on earlier cycles end player commands before did sent =
      let rate : player.rate ≡ mux.rate = sent.player_of.rate ∙ ap (λ (d : DeskState). d.mux.rate) did in
      subst (λ (r : Option ℕ). IsAirAt r (airings mux (journal ++ more commands)) (earlier ++ cycles)) rate
      (subst (λ (l : List AiredTables). IsAirAt player.rate l (earlier ++ cycles)) (airings_on earlier cycles end commands before did sent.airings_are)
      (end_air (earlier ++ cycles) player sent.at_end))

  -- each of its cycles is made
  pub made_on : (earlier cycles : List Aired) (end : DeskState) (player : Sending) (commands : List Command)
      → end ≡ desk_after (desk_with mux short) commands → HasSentAll earlier end player cycles → AreMadeAt mux.rate earlier cycles
  made_on earlier cycles end player commands did sent =
      subst (λ (d : DeskState). AreMadeAt d.mux.rate earlier cycles) did sent.made

  pub air_on : (earlier : List Aired) (end : DeskState) (player : Sending) (took : ReportTaken) (commands : List Command) → airings_of earlier ≡ airings mux journal
      → end ≡ desk_after (desk_with mux short) commands → HasAired earlier end player took.old took.new → IsAsRead mux (journal ++ more commands)
      → (on : AirOn mux journal (more commands) earlier took) × (airings_of on.cycles ≡ airings end.mux end.entries)
  air_on earlier end player took commands before did (cycles, sent, bytes) read =
      let whole = journal ++ more commands in
      let is = is_air_on earlier cycles end player commands before did sent in
      let made = made_on earlier cycles end player commands did sent in (
        record {
          cycles = cycles;
          is_air = is;
          made = made;
          bytes = bytes;
          heard = airs_heard mux whole (earlier ++ cycles) read (legal_on commands) is;
          sent = whole_sent_behind mux whole earlier read (legal_on commands) cycles is made;
        },
        sent.airings_are,
      )

  -- the last entry of a journal that goes on is among the new ones, where it is a swap
  last_new : (front : List Entry) (last : Entry) (entries : List Entry) → short ++ entries ≡ front ++ last ∷ [] → last.step ≡ Swap → (own : List Entry) × (entries ≡ own ++ last ∷ [])
  last_new front last entries e swap = by (two_fronts short entries front (last ∷ []) e)
    where
      by : ((k : List Entry) × (short ≡ front ++ k) × (last ∷ [] ≡ k ++ entries)) ⊎ ((k : List Entry) × (front ≡ short ++ k) × (entries ≡ k ++ last ∷ [])) → (own : List Entry) × (entries ≡ own ++ last ∷ [])
      by (inr (k, f, s)) = (k, s)
      by (inl ([], f, s)) = ([], sym s)
      by (inl (x ∷ [], f, s)) = (let same : last ≡ x = cc in absurd (base.no_swap front last (f ∙ ap (λ (y : Entry). front ++ y ∷ []) (sym same)) swap))
      by (inl (x ∷ y ∷ k, f, s)) = (let none : [] ≡ y ∷ (k ++ entries) = cc in cc none)

  -- the airings of cycles after earlier ones
  airings_cut : (rate : Option ℕ) (earlier cycles : List Aired) (airings : List AiredTables)
      → IsAirAt rate (airings_of earlier ++ airings) (earlier ++ cycles)
      → airings_of cycles ≡ airings
  airings_cut rate earlier cycles airings is =
      append_cancel_left (airings_of earlier) (airings_of cycles) airings
      (sym (map-append (λ (x : Aired). x.airing) earlier cycles)
      ∙ cycle_airings rate (airings_of earlier ++ airings) (earlier ++ cycles) is)

  pub cut_on : (earlier : List Aired) (end : DeskState) (took : ReportTaken) (commands : List Command) → airings_of earlier ≡ airings mux journal
      → end ≡ desk_after (desk_with mux short) commands → HasAiredFront earlier end took.old took.new → IsAsRead mux (journal ++ more commands)
      → (on : CutAirOn mux journal (more commands) earlier took) × (airings_of (on.whole ++ on.cut ∷ []) ≡ airings end.mux end.entries)
  cut_on earlier end took commands before did f read =
      let own = last_new f.front f.last (new commands) (sym (ap (λ (d : DeskState). d.entries) did) ∙ f.entries) f.is_swap in
      let rate : end.mux.rate ≡ mux.rate = ap (λ (d : DeskState). d.mux.rate) did in
      let made = subst (λ (r : Option ℕ). AreMadeAt r earlier (f.whole ++ f.cut ∷ [])) rate f.made in
      let is = subst (λ (r : Option ℕ). IsAirAt r (airings mux (journal ++ more commands)) (earlier ++ (f.whole ++ f.cut ∷ []))) rate
      (subst (λ (l : List AiredTables). IsAirAt end.mux.rate l (earlier ++ (f.whole ++ f.cut ∷ [])))
      (ap (λ (l : List AiredTables). l ++ airings end.mux end.entries) before
      ∙ ap (λ (d : DeskState). airings mux journal ++ airings d.mux d.entries) did ∙ sym (base.airs commands)) f.is_air) in (
        record {
          front = all_raised shift own.0;
          last = raised_entry shift f.last;
          entries = sym (replies commands) ∙ ap (all_raised shift) own.1 ∙ map-append (raised_entry shift) own.0 (f.last ∷ []);
          is_swap = f.is_swap;
          whole = f.whole;
          cut = f.cut;
          is_air = is;
          made = made;
          taken = f.taken;
          proper = f.proper;
          bytes = f.bytes;
          sent = cut_sent_behind mux (journal ++ more commands) earlier read (legal_on commands) f.whole f.cut f.taken is made f.proper;
        },
        airings_cut end.mux.rate earlier (f.whole ++ f.cut ∷ []) (airings end.mux end.entries) f.is_air,
      )

  -- ---- folded again

  pub text_on : (end : DeskState) (player : Sending) (commands : List Command) (cycles : List Aired) → end ≡ desk_after (desk_with mux short) commands
      → player.rate ≡ end.mux.rate → AtEnd cycles player → HandsOver player → IsCheckpoint mux (journal ++ more commands) cycles (start_text shift end player)
  text_on end player commands cycles did same at_end handed =
      let whole = journal ++ more commands in
      let alike : GoOnAlike mux shift whole (short ++ new commands) = after_alike mux shift journal short commands base.sound base.legal base.own base.alike in
      let entries : end.entries ≡ short ++ new commands = ap (λ (d : DeskState). d.entries) did in
      let count : shift + publishes end.entries ≡ publishes whole = ap (λ (l : List Entry). shift + publishes l) entries ∙ sym alike.count in
      let steps : desk_steps shift end ≡ checkpoint_steps mux whole = ap (desk_steps shift) did ∙ sym (folds_again mux shift whole (short ++ new commands) alike) in
      let rate : end.mux.rate ≡ mux.rate = ap (λ (d : DeskState). d.mux.rate) did in
      let own = checkpoint_steps mux whole in
      record {
        keys = handed.keys;
        pids = handed.pids;
        clock = handed.clock;
        kept = subst (λ (r : Option ℕ). AreHandedOver r cycles handed.keys handed.pids handed.clock) (same ∙ rate) (handed.are cycles at_end);
        text_is =
            ap (λ (n : ℕ). checkpoint_text n end.mux.rate player.clock (desk_steps shift end) player.book (kept_from 0 player.counters)) count
            ∙ ap (λ (r : Option ℕ). checkpoint_text (publishes whole) r player.clock (desk_steps shift end) player.book (kept_from 0 player.counters)) rate
            ∙ ap (λ (c : Clock). checkpoint_text (publishes whole) mux.rate c (desk_steps shift end) player.book (kept_from 0 player.counters)) (sym handed.clock_is)
            ∙ ap (λ (l : List Command). checkpoint_text (publishes whole) mux.rate (reads handed.clock) l player.book (kept_from 0 player.counters)) steps
            ∙ ap (λ (l : GivenVersions). checkpoint_text (publishes whole) mux.rate (reads handed.clock) own l (kept_from 0 player.counters)) (sym handed.keys_are)
            ∙ ap (checkpoint_text (publishes whole) mux.rate (reads handed.clock) own (given_entries handed.keys)) (sym handed.pids_are);
      }

  -- ---- it can be gone on from again

  pub read_on : (earlier : List Aired) (commands : List Command) → HasRun mux journal earlier → AreTypedCommands commands → IsAsRead mux (journal ++ more commands)
  read_on earlier commands run typed = record {
    sound = run.read.sound;
    network = run.read.network;
    services = run.read.services;
    edits = accepted_typed (journal ++ more commands) (all_append (λ (entry : Entry). IsTypedStep entry.step) journal (more commands) run.folds.typed (after_typed mux journal commands typed));
    steps = all_append (λ (entry : Entry). IsStepInWindow entry.step) journal (more commands) run.read.steps (after_window mux journal commands typed);
  }

  pub run_on : (earlier cycles : List Aired) (commands : List Command) → HasRun mux journal earlier → AreTypedCommands commands
      → AllByRecursion (λ (entry : Entry). IsStepWithin entry.step) (more commands) → IsAirAt mux.rate (airings mux (journal ++ more commands)) (earlier ++ cycles)
      → publishes (journal ++ more commands) < 10 ^ 18 → HasShortMoment mux.rate (earlier ++ cycles) → HasRun mux (journal ++ more commands) (earlier ++ cycles)
  run_on earlier cycles commands run typed within is few clock = record {
    read = read_on earlier commands run typed;
    folds = record {
      sound = run.folds.sound;
      named = run.folds.named;
      legal = legal_on commands;
      within = all_append (λ (entry : Entry). IsStepWithin entry.step) journal (more commands) run.folds.within within;
      typed = all_append (λ (entry : Entry). IsTypedStep entry.step) journal (more commands) run.folds.typed (after_typed mux journal commands typed);
      few = few;
    };
    is_air = is;
    clock = clock;
  }

  -- a desk may be asked the new steps, where it may be asked all
  pub within_on : (end : DeskState) (commands : List Command) → end ≡ desk_after (desk_with mux short) commands → AllByRecursion (λ (entry : Entry). IsStepWithin entry.step) end.entries
      → AllByRecursion (λ (entry : Entry). IsStepWithin entry.step) (more commands)
  within_on end commands did within =
      let Within = AllByRecursion (λ (entry : Entry). IsStepWithin entry.step) in
      let all : Within (short ++ new commands) = subst Within (ap (λ (d : DeskState). d.entries) did) within in
      let made : Within (new commands) = subst Within (drop-append_seam short (new commands)) (all_drop (λ (entry : Entry). IsStepWithin entry.step) (length short) (short ++ new commands) all) in
      subst Within (replies commands) (all_to_map (λ (entry : Entry). IsStepWithin entry.step) (raised_entry shift) (new commands) made)
