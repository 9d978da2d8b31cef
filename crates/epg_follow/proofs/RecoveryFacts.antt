-- What stands is folded, and a run goes on from the checkpoint.
use Rattle.std.proofs.Common.{◌≡◌, ℕ, List, [], ◌∷◌, ◌++◌, ◌≤◌, ◌+◌, Option, Ok, Some, false, true, length, map, take, drop, refl, sym, ap, ◌∙◌, subst, inl, inr, append_assoc}
use Rattle.std.specs.Io.KnownBytes.{Appends}
use Rattle.std.specs.List.{AllByRecursion}
use Rattle.std.proofs.lemmas.List.{map-append, take-append-drop}
use Rattle.std.proofs.lemmas.List.Elements.{filter_map-append}
use Rattle.std.proofs.Math.Seq.{drop-append_seam}
use Rattle.si_lists.proofs.Lists.{all_drop, all_front}
use Rattle.air_model.specs.Air.{Aired, air, air_bytes, airings_of}
use Rattle.journal_air.specs.OnAir.{cycle_bytes}
use Rattle.journal_text.specs.CommandBack.{ahead_of}
use Rattle.cycle_player.proofs.Airs.{airings_are}
use Rattle.desk_core.specs.Journal.{Legal, LegalAfter, journal_after}
use Rattle.desk_core.proofs.JournalFacts.{journal_only}
use Rattle.epg_play.specs.Behind.{LeavesBehind, AirOn, CutAirOn, WentOn, played_behind}
use Rattle.epg_play.proofs.RunFacts.{whole}
use Rattle.epg_play.specs.Script.{Script, script_within, Ended, Stop}
use Rattle.epg_report.specs.Told.{ReportTaken}
use Rattle.epg_report.specs.declared.status.Origin.TheVariants.{Input, Recording}
use Rattle.epg_report.specs.declared.status.Outlet.TheVariants.{Air, Report}
use Rattle.epg_report.specs.declared.status.Status.{Status}
use Rattle.epg_report.specs.declared.status.Status.TheVariants.{BadScript, Disagrees, Done, Memory, OpenFault, ReadFault, TooLong, WriteFault}
use Rattle.input_lines.specs.Ahead.{Ahead, Came, Ends, Found}
use Rattle.journal_air.specs.Air.{airings}
use Rattle.journal_model.specs.Steps.{Command, command_of}
use Rattle.journal_model.specs.declared.step.Entry.{Entry}
use Rattle.mux_model.specs.declared.mux.Mux.{Mux}
use Rattle.version_book.specs.Airings.{AiredTables}
use Rattle.script_notes.specs.Pieces.{IsPieceOfLines, IsReadablePiece, Piece, entries_in, entry_in, is_entry, pieces_text, up_to_entry}
use Rattle.script_notes.specs.Whole.{whole_entries}
use Rattle.script_notes.proofs.ReportLineFacts.{all_up}
use Rattle.script_notes.proofs.PieceFacts.{entries_are_kept, readable_of_lines, same_entries}
use Rattle.epg_follow.specs.Recovery.{WholeEntriesFold, DidBegin, DidRead, RunsAreBridged, FoldRunsMakeWhatWasAired, FoldsMakeWhatWasAired, IsFolded, RecoveredRunsAreBridged, ResumedFoldsMakeWhatWasAired, ResumedRunsGoOn, StandingRunsGoOn, WentOnAir}
use Rattle.epg_follow.specs.Stands.{Stands, standing}
use Rattle.journal_text.specs.CommandBack.{shown_lines}
use Rattle.epg_play.specs.Again.{Describes}
use Rattle.epg_play.specs.CheckpointRuns.{NothingAsked, Resumes}
use Rattle.epg_play.specs.Over.{LeavesBy, LeavesOver, described_within}
use Rattle.mux_config.specs.Descriptions.{Description}
use Rattle.epg_follow.proofs.AgainFacts.{reports_are_scripts, descriptions_go_on, reports_play_again}
use Rattle.epg_follow.proofs.BridgeFacts.{kills_are_bridged}
use Rattle.epg_follow.proofs.MadeFacts.{made_is_one}

-- ---- entries

-- what holds of each holds of the first
all_take : {X : Type 0} (P : X → Type 0) (k : ℕ) (xs : List X) → AllByRecursion P xs → AllByRecursion P (take k xs)
all_take P k xs h = all_front P (take k xs) (drop k xs) (subst (AllByRecursion P) (sym (take-append-drop k xs)) h)

-- the first of legal entries are legal
pub legal_front : (mux : Mux) (before xs ys : List Entry) → LegalAfter mux before (xs ++ ys) → LegalAfter mux before xs
legal_front mux before [] ys legal = tt
legal_front mux before (x ∷ xs) ys legal = (legal.0, legal_front mux (before ++ x ∷ []) xs ys legal.1)

entries_split : (k : ℕ) (pieces : List Piece) → entries_in pieces ≡ entries_in (take k pieces) ++ entries_in (drop k pieces)
entries_split k pieces =
    ap entries_in (sym (take-append-drop k pieces)) ∙ filter_map-append entry_in (take k pieces) (drop k pieces)

-- the entries that stand are legal
pub standing_legal : (mux : Mux) (before : List Entry) (k : ℕ) (pieces : List Piece) → LegalAfter mux before (entries_in pieces) → LegalAfter mux before (entries_in (take k pieces))
standing_legal mux before k pieces legal =
    legal_front mux before (entries_in (take k pieces)) (entries_in (drop k pieces)) (subst (LegalAfter mux before) (entries_split k pieces) legal)

-- ---- the fold

-- what is added to the same airings is the same
same_behind : (earlier xs ys : List Aired) (all : List AiredTables) → airings_of (earlier ++ xs) ≡ all → airings_of (earlier ++ ys) ≡ all → airings_of xs ≡ airings_of ys
same_behind earlier xs ys all one other =
    let front = airings_of earlier in
    let both : front ++ airings_of xs ≡ front ++ airings_of ys =
    sym (map-append (λ (x : Aired). x.airing) earlier xs) ∙ one ∙ sym other ∙ map-append (λ (x : Aired). x.airing) earlier ys in
    sym (drop-append_seam front (airings_of xs)) ∙ ap (drop (length front)) both ∙ drop-append_seam front (airings_of ys)

module _ (mux : Mux) (before : List Entry) (earlier : List Aired) (pieces : List Piece) (taken report : List ℕ)
    (stands : Stands mux before earlier pieces taken report)
    (legal : LegalAfter mux before (entries_in pieces)) (readable : AllByRecursion IsReadablePiece pieces) where
  abbrev whole_pieces : List Piece
  whole_pieces = take stands.k pieces

  text_stands : whole_entries report ≡ pieces_text (up_to_entry whole_pieces)
  text_stands =
      let lines = readable_of_lines pieces readable in
      ap whole_entries stands.report_is
      ∙ entries_are_kept whole_pieces (drop stands.k pieces) stands.part (all_take IsPieceOfLines stands.k pieces lines) (all_drop IsPieceOfLines stands.k pieces lines) stands.part_is

  -- of the whole entries all commands are played
  played : (n m : ℕ) → played_behind mux before (ahead_of n (whole_entries report) (Ends m)) ≡ (map command_of (standing stands), Ended)
  played n m =
      let ready = all_up IsReadablePiece is_entry whole_pieces (all_take IsReadablePiece stands.k pieces readable) in
      let fine = subst (LegalAfter mux before) (sym (same_entries whole_pieces)) (standing_legal mux before stands.k pieces legal) in
      ap (λ (t : List ℕ). played_behind mux before (ahead_of n t (Ends m))) text_stands
      ∙ reports_play_again mux before (up_to_entry whole_pieces) n m fine ready
      ∙ ap (λ (l : List Entry). let r : List Command × Stop = (map command_of l, Ended) in r) (same_entries whole_pieces)

  -- and their journal is that which stands
  journal_stands : (n m : ℕ) → journal_after mux before (played_behind mux before (ahead_of n (whole_entries report) (Ends m))).0 ≡ standing stands
  journal_stands n m =
      ap (λ (r : List Command × Stop). journal_after mux before r.0) (played n m)
      ∙ sym (journal_only mux before (standing stands) (standing_legal mux before stands.k pieces legal))

  module _ (n m : ℕ) (air_took report_took : ReportTaken) (text : List ℕ)
      (went : WentOn true mux before earlier air_took report_took (played_behind mux before (ahead_of n (whole_entries report) (Ends m))) text) where
    abbrev made_journal : List Entry
    made_journal = journal_after mux before (played_behind mux before (ahead_of n (whole_entries report) (Ends m))).0

    cycles_stand : went.air_is.cycles ≡ stands.cycles
    cycles_stand =
        let all = airings mux (before ++ standing stands) in
        let one : airings_of (earlier ++ went.air_is.cycles) ≡ all =
        airings_are mux.rate (airings mux (before ++ made_journal)) (earlier ++ went.air_is.cycles) went.air_is.is_air
        ∙ ap (λ (l : List Entry). airings mux (before ++ l)) (journal_stands n m) in
        made_is_one mux.rate earlier went.air_is.cycles stands.cycles went.air_is.made stands.made
        (same_behind earlier went.air_is.cycles stands.cycles all one (airings_are mux.rate all (earlier ++ stands.cycles) stands.is_air))

    is_folded : Appends report_took.old report_took.new text → IsFolded mux (before ++ standing stands) earlier stands.cycles air_took report_took text
    is_folded appended =
        subst (λ (l : List Entry). IsFolded mux (before ++ l) earlier stands.cycles air_took report_took text) (journal_stands n m)
        (subst (λ (xs : List Aired). IsFolded mux (before ++ made_journal) earlier xs air_took report_took text) cycles_stand
        (record {
          air_is = went.air_is.bytes;
          report_is = appended;
          checkpoint = went.text_is;
          legal = went.legal;
          goes_on = went.goes_on;
        }))

pub folds_make_what_was_aired : FoldsMakeWhatWasAired
folds_make_what_was_aired mux before earlier pieces taken report stands legal readable n m air_took report_took (text, went, appended) =
    (text, is_folded mux before earlier pieces taken report stands legal readable n m air_took report_took text went appended)

pub whole_entries_fold : WholeEntriesFold
whole_entries_fold limit mux block pieces taken report stands d legal readable le input air_took report_took status gave run no_input no_air no_report =
    let text = up_to_entry (take stands.k pieces) in
    let fine = subst (LegalAfter mux []) (sym (same_entries (take stands.k pieces))) (standing_legal mux [] stands.k pieces legal) in
    let ready = all_up IsReadablePiece is_entry (take stands.k pieces) (all_take IsReadablePiece stands.k pieces readable) in
    let is = text_stands mux [] [] pieces taken report stands legal readable in
    let short = subst (λ (t : List ℕ). length (block ++ t) ≤ limit) is le in
    let plays = reports_are_scripts mux block text limit d fine ready short in
    let ended : (script_within limit (block ++ whole_entries report)).stop ≡ Ended =
    ap (λ (t : List ℕ). (script_within limit (block ++ t)).stop) is ∙ ap (λ (s : Script). s.stop) plays.script_is in
    whole (script_within limit (block ++ whole_entries report)).stop status ended (run.completes (block ++ whole_entries report) gave no_input no_air no_report)

-- what a run left over a description and a text it left behind the description
left_behind : (limit : ℕ) (Idle : Status → Type 0) (Behind : Mux → Ahead → Status → Type 0) (mux : Mux) (block text : List ℕ) → Describes block mux → length (block ++ text) ≤ limit
    → (left : Option (List ℕ)) → LeavesOver limit Idle Behind (block ++ text) left Done
    → Behind mux (ahead_of (1 + length (shown_lines block)) text (Ends (1 + length (shown_lines (block ++ text))))) Done
left_behind limit Idle Behind mux block text d le left leaves =
    subst (λ (f : Found Description). LeavesBy Idle Behind f Done) (descriptions_go_on mux block text limit d le) leaves

pub fold_runs_make_what_was_aired : FoldRunsMakeWhatWasAired
fold_runs_make_what_was_aired limit mux block pieces taken report stands d legal readable le input air_took report_took gave run =
    folds_make_what_was_aired mux [] [] pieces taken report stands legal readable _ _ air_took report_took
    (left_behind limit _ (λ (m : Mux). LeavesBehind true m [] [] air_took report_took) mux block (whole_entries report) d le input.new (run.leaves (block ++ whole_entries report) gave))

pub resumed_folds_make_what_was_aired : ResumedFoldsMakeWhatWasAired
resumed_folds_make_what_was_aired limit mux block before earlier pieces taken report stands d legal readable le path bytes files file few run_before checkpoint opener input air_took report_took opened gave run =
    let left = left_behind limit (NothingAsked opener air_took report_took) (Resumes path files true opener air_took report_took) mux block (whole_entries report) d le input.new
    (run.leaves (block ++ whole_entries report) gave files opened) in
    folds_make_what_was_aired mux before earlier pieces taken report stands legal readable _ _ air_took report_took
    (left.goes_on before earlier bytes file few run_before checkpoint)

-- ---- going on

module _ (mux : Mux) (journal : List Entry) (earlier : List Aired) (air_took : ReportTaken) where
  whole_on : (more : List Entry) → Legal mux (journal ++ more) → AirOn mux journal more earlier air_took → WentOnAir mux journal earlier air_took
  whole_on more legal on = record {
    more = more;
    cycles = on.cycles;
    taken = air_bytes on.cycles;
    goes = record { legal = legal; is_air = on.is_air; made = on.made; air_is = inl refl };
    air_is = on.bytes;
  }

  cut_on : (more : List Entry) → Legal mux (journal ++ more) → CutAirOn mux journal more earlier air_took → WentOnAir mux journal earlier air_took
  cut_on more legal on = record {
    more = more;
    cycles = on.whole ++ on.cut ∷ [];
    taken = air_bytes on.whole ++ take on.taken (cycle_bytes on.cut);
    goes = record {
      legal = legal;
      is_air = on.is_air;
      made = on.made;
      air_is = inr (record {
        ends = record { front = on.front; last = on.last; entries_are = on.entries; is_swap = on.is_swap };
        whole = on.whole;
        cut = on.cut;
        cycles_are = refl;
        count = on.taken;
        bytes = refl;
      });
    };
    air_is = on.bytes;
  }

pub resumed_runs_go_on : ResumedRunsGoOn
resumed_runs_go_on mux journal earlier air report lines Done begun (text, went, appended) = whole_on mux journal earlier air _ went.legal went.air_is
resumed_runs_go_on mux journal earlier air report lines (BadScript n) begun stopped = whole_on mux journal earlier air _ stopped.legal stopped.air_is
resumed_runs_go_on mux journal earlier air report lines (Disagrees n kept found) begun stopped = whole_on mux journal earlier air _ stopped.legal stopped.air_is
resumed_runs_go_on mux journal earlier air report lines (TooLong Input) begun stopped = whole_on mux journal earlier air _ stopped.legal stopped.air_is
resumed_runs_go_on mux journal earlier air report lines (ReadFault Input) begun stopped = whole_on mux journal earlier air _ stopped.legal stopped.air_is
resumed_runs_go_on mux journal earlier air report lines (WriteFault Report) begun (text, went, appended) = whole_on mux journal earlier air _ went.legal went.air_is
resumed_runs_go_on mux journal earlier air report lines (WriteFault Air) begun cut = cut_on mux journal earlier air _ cut.legal cut.air_is
resumed_runs_go_on mux journal earlier air report lines (OpenFault n) begun left = absurd begun
resumed_runs_go_on mux journal earlier air report lines (ReadFault Recording) begun left = absurd begun
resumed_runs_go_on mux journal earlier air report lines Memory begun left = absurd begun
resumed_runs_go_on mux journal earlier air report lines other begun left = absurd left

pub standing_runs_go_on : StandingRunsGoOn
standing_runs_go_on mux journal earlier pieces taken report stands legal =
    let parts : journal ++ entries_in pieces ≡ (journal ++ standing stands) ++ entries_in (drop stands.k pieces) =
    ap (λ (l : List Entry). journal ++ l) (entries_split stands.k pieces)
    ∙ sym (append_assoc journal (standing stands) (entries_in (drop stands.k pieces))) in
    record {
      legal = legal_front mux [] (journal ++ standing stands) (entries_in (drop stands.k pieces)) (subst (LegalAfter mux []) parts legal);
      is_air = stands.is_air;
      made = stands.made;
      air_is = stands.air_is;
    }

-- ---- both

pub recovered_runs_are_bridged : RecoveredRunsAreBridged
recovered_runs_are_bridged mux before earlier pieces taken report stands folded_air folded_report text folded few moment path files file le opener air report_took lines status resumes begun =
    let journal = before ++ standing stands in
    let cycles = earlier ++ stands.cycles in
    let left = resumes.goes_on journal cycles text file le (folded.goes_on few moment) folded.checkpoint in
    let went = resumed_runs_go_on mux journal cycles air report_took lines status begun left in
    (went, kills_are_bridged mux before earlier pieces taken report stands went.more went.cycles went.taken went.goes)

-- ---- whole runs

-- what a run left that read its description
left_by : (limit : ℕ) (Idle : Status → Type 0) (Behind : Mux → Ahead → Status → Type 0) (mux : Mux) (lines : Ahead) (script : List ℕ) (left : Option (List ℕ)) → described_within limit script ≡ Came (Ok mux) lines
    → (status : Status) → DidRead status → LeavesOver limit Idle Behind script left status → Behind mux lines status
left_by limit Idle Behind mux lines script left d (ReadFault Input) did leaves = absurd did
left_by limit Idle Behind mux lines script left d Memory did leaves = absurd did
left_by limit Idle Behind mux lines script left d status did leaves = subst (λ (f : Found Description). LeavesBy Idle Behind f status) d leaves

did_begin : (status : Status) → DidRead status → DidBegin status
did_begin (ReadFault Input) did = absurd did
did_begin status did = did

-- what a sink took that had nothing
took : (before after : Option (List ℕ)) (text other : List ℕ) → before ≡ Some [] → after ≡ Some text → Appends before after other → other ≡ text
took before after text other was now appends =
    sym (subst (λ (a : Option (List ℕ)). Appends (Some []) a other) now (subst (λ (b : Option (List ℕ)). Appends b after other) was appends))

pub runs_are_bridged : RunsAreBridged
runs_are_bridged limit again mux block pieces taken report stands d legal readable le few moment fold_input fold_air fold_report gave folding text was now short path files file opener input air report_took status resuming opened script lines given read did =
    let (other, folded) = fold_runs_make_what_was_aired limit mux block pieces taken report stands d legal readable le fold_input fold_air fold_report gave folding in
    let same : other ≡ text = took fold_report.old fold_report.new text other was now folded.report_is in
    let resumes = left_by again (NothingAsked opener air report_took) (Resumes path files false opener air report_took) mux lines script input.new read status did (resuming.leaves script given files opened) in
    recovered_runs_are_bridged mux [] [] pieces taken report stands fold_air fold_report text
    (subst (λ (t : List ℕ). IsFolded mux (standing stands) [] stands.cycles fold_air fold_report t) same folded)
    few moment path files file short opener air report_took lines status resumes (did_begin status did)
