-- The text of a report, read as a script.
use Rattle.std.proofs.Common.{◌≡◌, ℕ, ◌+◌, ◌-◌, List, [], ◌∷◌, ◌++◌, Bool, true, false, Some, None, length, map, take, suc, refl, sym, ap, ◌∙◌, subst, arith, append_assoc}
use Rattle.std.specs.Prelude.{◌≤◌, Ok, codes, decimal, slice_index, ◌==◌, if◌then◌else◌}
use Rattle.std.specs.List.{AllByRecursion}
use Rattle.journal_model.specs.Raising.{raised}
use Rattle.journal_text.specs.CommandBack.{ahead_of, command_lines, shown_lines}
use Rattle.desk_core.specs.Desks.{DeskState}
use Rattle.desk_core.specs.Journal.{LegalAfter, journal_after, outcome_of}
use Rattle.journal_air.specs.OnAir.{and_step}
use Rattle.epg_play.specs.Behind.{played_behind}
use Rattle.epg_play.specs.Items.{course_at}
use Rattle.epg_play.specs.Script.{Ended, commands_of, first_difference, stop_of, up_to}
use Rattle.epg_play.proofs.AgainFacts.{kept_agrees, lines_joined, more_behind, records_joined}
use Rattle.epg_play.proofs.CourseFacts.{agreed_ahead, and_command, step_ahead, stop_ahead}
use Rattle.epg_play.proofs.RunFacts.{none_raised, raised_none}
use Rattle.input_lines.specs.Ahead.{Ahead, Ends, Row, Tail}
use Rattle.input_lines.specs.Ahead as reading
use Rattle.input_lines.specs.Lines.{is_passed, record_lines}
use Rattle.journal_model.specs.Steps.{command_of}
use Rattle.journal_model.specs.declared.step.Entry.{Entry}
use Rattle.journal_model.specs.declared.step.Outcome.{Outcome}
use Rattle.journal_text.specs.Back.{EntryReadsBack}
use Rattle.journal_text.specs.Entries.{entry_text}
use Rattle.journal_text.proofs.EntryBack.{entries_read_back}
use Rattle.mux_model.specs.declared.mux.Mux.{Mux}
use Rattle.script_lines.specs.Script.{asked_by, items_ahead}
use Rattle.script_notes.specs.Whys.{CanBeSaid, why_text}
use Rattle.script_notes.specs.declared.why.Why.{Why}
use Rattle.si_causes.specs.Lines.{raw_lines, shown}
use Rattle.script_notes.specs.Pieces.{Entered, IsReadablePiece, Noted, Piece, comment_line, entries_in, pieces_text}
use Rattle.script_notes.specs.Whole.{with_end}
use Rattle.journal_text.proofs.CleanRows.{line_first}
use Rattle.script_notes.proofs.PieceFacts.{comment_inner}
use Rattle.std.proofs.lemmas.Bool.{le-leb}
use Rattle.std.proofs.lemmas.List.{map-append}
use Rattle.si_causes.specs.Text.{AtEnd, TextEnd, lines_left}
use Rattle.desk_core.proofs.JournalFacts.{journal_only}
use Rattle.epg_play.specs.Leaves.{whole_journal}
use Rattle.epg_play.specs.Script.{script_with, script_within, with_commands}
use Rattle.input_lines.specs.Ahead.{ahead_in}
use Rattle.mux_config.specs.Descriptions.{described_from, description_ahead}
use Rattle.epg_follow.specs.Again.{DescriptionsGoOn, ReportsAreScripts, ReportsPlayAgain}

-- ---- a comment is passed over

-- a line that begins with `#` is passed over as it is shown
shown_comment : (b : ℕ) (bs : List ℕ) → is_passed (shown (35 ∷ (b ∷ bs))) ≡ true
shown_comment b bs = by_cr (slice_index (35 ∷ (b ∷ bs)) (length (35 ∷ (b ∷ bs)) - 1) == 13)
  where
    by_cr : (cr : Bool) → is_passed (take 16385 (if cr then take (length (35 ∷ (b ∷ bs)) - 1) (35 ∷ (b ∷ bs)) else 35 ∷ (b ∷ bs))) ≡ true
    by_cr true = (let some : length (35 ∷ (b ∷ bs)) - 1 ≡ suc (length bs) = omega arith in rw some refl)
    by_cr false = refl

comment_passed : (m : ℕ) (why : Why) (n : ℕ) (rest : List ℕ) (tail : Tail) → CanBeSaid why
    → ahead_of n (with_end (comment_line m why) ++ rest) tail ≡ ahead_of (n + 1) rest tail
comment_passed m why n rest tail h =
    let line = comment_line m why in
    let lines : shown_lines (with_end line ++ rest) ≡ shown line ∷ shown_lines rest = ap (map shown) (ap raw_lines (append_assoc line (10 ∷ []) rest) ∙ line_first line rest (comment_inner m why h)) in
    let passed : is_passed (shown line) ≡ true = shown_comment 32 (codes "line " ++ (decimal m ++ (codes ": " ++ why_text why))) in
    ap (λ (l : List (List ℕ)). let a : Ahead = record { rows = record_lines n l; tail = tail } in a) lines
    ∙ ap (λ (b : Bool). let a : Ahead = record { rows = if b then record_lines (n + 1) (shown_lines rest) else (n, shown line) ∷ record_lines (n + 1) (shown_lines rest); tail = tail } in a) passed

-- ---- pieces

again : (desk : DeskState) (pieces : List Piece) (n k : ℕ) → LegalAfter desk.mux desk.entries (entries_in pieces) → AllByRecursion IsReadablePiece pieces
    → course_at 0 desk None (ahead_of n (pieces_text pieces) (Ends k)) ≡ (map command_of (entries_in pieces), Ended)
again desk [] n k legal readable = stop_ahead 0 desk None (ahead_of n [] (Ends k)) reading.End refl
again desk (Noted m why ∷ pieces) n k legal readable =
    ap (course_at 0 desk None) (comment_passed m why n (pieces_text pieces) (Ends k) readable.0)
    ∙ again desk pieces (n + 1) k legal readable.1
again desk (Entered e ∷ pieces) n k legal readable =
    let rest = pieces_text pieces in
    let back : EntryReadsBack e n rest (Ends k) = entries_read_back e readable.0 n rest (Ends k) in
    let next = and_step desk e.who e.step in
    let outcome = outcome_of desk.mux desk.entries e.step in
    let found = raised 0 outcome in
    let at = n + command_lines e.step in
    let entry : (let d : Entry = record { who = e.who; step = e.step; outcome = outcome } in d) ≡ e =
    ap (λ (o : Outcome). let d : Entry = record { who = e.who; step = e.step; outcome = o } in d) (sym legal.0) in
    let others = again next pieces (at + 1) k
    (subst (λ (d : Entry). LegalAfter desk.mux (desk.entries ++ d ∷ []) (entries_in pieces)) (sym entry) legal.1) readable.1 in
    step_ahead 0 desk None (ahead_of n (entry_text e ++ rest) (Ends k)) back.behind e.who e.step back.command
    ∙ ap (and_command (e.who, e.step))
    (agreed_ahead 0 next (Some found) back.behind (ahead_of (at + 1) rest (Ends k)) at e.outcome back.kept (kept_agrees at e.outcome found (legal.0 ∙ sym (raised_none outcome))))
    ∙ ap (and_command (e.who, e.step)) others

-- the course of lines with the numbers of the journal before them
own_course : (mux : Mux) (before : List Entry) (lines : Ahead) → course_at 0 (record { mux = mux; entries = before }) None lines ≡ played_behind mux before lines
own_course mux before lines =
    let asked = asked_by (items_ahead false lines).0 in
    ap (λ (l : List Entry). up_to (first_difference asked l) (commands_of asked) (stop_of (items_ahead false lines).1)) (none_raised (journal_after mux before (commands_of asked)))

-- ---- behind a journal

pub reports_play_again : ReportsPlayAgain
reports_play_again mux before pieces n m legal readable =
    sym (own_course mux before (ahead_of n (pieces_text pieces) (Ends m)))
    ∙ again (record { mux = mux; entries = before }) pieces n m legal readable

-- ---- behind a description

-- the lines of a text within a limit
lines_within : (limit : ℕ) (text : List ℕ) → length text ≤ limit → lines_left limit text ≡ (shown_lines text, AtEnd)
lines_within limit text le = rw (le-leb (length text) limit le) refl

pub descriptions_go_on : DescriptionsGoOn
descriptions_go_on mux block text limit d le =
    let lines = shown_lines (block ++ text) in
    let behind = shown_lines text in
    let n = 1 + length (shown_lines block) in
    let parts : lines ≡ shown_lines block ++ behind =
    ap (λ (b : List ℕ). shown_lines (b ++ text)) d.closed
    ∙ ap (map shown) (lines_joined d.front text)
    ∙ map-append shown (raw_lines (d.front ++ 10 ∷ [])) (raw_lines text)
    ∙ ap (λ (b : List ℕ). shown_lines b ++ behind) (sym d.closed) in
    let rows : record_lines 1 lines ≡ record_lines 1 (shown_lines block) ++ record_lines n behind =
    ap (record_lines 1) parts ∙ records_joined 1 (shown_lines block) behind in
    let end = Ends (1 + length lines) in
    ap (λ (l : List (List ℕ) × TextEnd). description_ahead (ahead_in 1 l)) (lines_within limit (block ++ text) le)
    ∙ ap (λ (r : List Row). described_from [] r end) rows
    ∙ more_behind [] (record_lines 1 (shown_lines block)) [] (record_lines n behind) (Ends n) end (Ok mux) d.whole

pub reports_are_scripts : ReportsAreScripts
reports_are_scripts mux block pieces limit d legal readable le =
    let text = pieces_text pieces in
    let n = 1 + length (shown_lines block) in
    let m = 1 + length (shown_lines (block ++ text)) in
    let script : script_within limit (block ++ text) ≡ record { mux = Some mux; commands = map command_of (entries_in pieces); stop = Ended } =
    ap script_with (descriptions_go_on mux block text limit d le)
    ∙ ap (with_commands mux) (reports_play_again mux [] pieces n m legal readable) in
    record { script_is = script; journal_is = ap whole_journal script ∙ sym (journal_only mux [] (entries_in pieces) legal) }
