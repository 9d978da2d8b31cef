-- Entries read back from their text.
use Rattle.std.proofs.Common.{◌≡◌, ◌∙◌, ◌+◌, ◌++◌, ◌∷◌, ℕ, List, ap, true, false, arith, length, append_assoc}
use Rattle.std.specs.Prelude.{flat_map}
use Rattle.input_lines.specs.Ahead.{Ahead, Row, Came, on_line}
use Rattle.journal_model.specs.declared.step.Outcome.{Outcome}
use Rattle.journal_model.specs.declared.step.Entry.{Entry}
use Rattle.script_lines.specs.declared.script.ScriptItem.TheVariants.{Kept}
use Rattle.journal_text.specs.Lines.{line_text, item_text}
use Rattle.journal_text.specs.Commands.{step_items}
use Rattle.journal_text.specs.Entries.{entry_text}
use Rattle.script_lines.specs.Script.{kept_item, read_item, first_script_item}
use Rattle.journal_text.specs.CommandBack.{IsRow, IsShort, command_row, row_line, ahead_of, command_lines}
use Rattle.journal_text.specs.Back.{outcome_row, IsReadableOutcome, IsWritableOutcome, EntriesReadBack}
use Rattle.journal_text.proofs.CommandBack.{behind_rows, command_back, command_is_row, first_reads, items_first, lines_from, numbered, row_fields, row_first, step_reads, step_rows}
use Rattle.journal_text.proofs.EntryRows.{outcome_reads, outcome_front, outcome_row_kept, outcome_line, readable_written}

-- ---- an entry

kept_reads : (n : ℕ) (o : Outcome) (a : Ahead) → IsReadableOutcome o → read_item true n (outcome_row o) a ≡ Came (Kept n o) a
kept_reads n o a h = ap (λ k. kept_item n (on_line n k a)) (outcome_reads o h)

outcome_is_row : (o : Outcome) → IsReadableOutcome o → IsShort (outcome_row o) → IsRow (outcome_row o)
outcome_is_row o h short = record { front = outcome_front o; kept = outcome_row_kept o (readable_written o h); short = short }

-- the text of an entry, part by part
pub entry_parts : (entry : Entry) (rest : List ℕ) → IsWritableOutcome entry.outcome
    → entry_text entry ++ rest ≡ line_text (command_row entry.who entry.step) ++ (flat_map item_text (step_items entry.step) ++ (line_text (outcome_row entry.outcome) ++ rest))
entry_parts entry rest h =
    let first = line_text (command_row entry.who entry.step) in
    let items = flat_map item_text (step_items entry.step) in
    ap (λ (l : List ℕ). ((first ++ items) ++ l) ++ rest) (outcome_line entry.outcome h)
    ∙ append_assoc (first ++ items) (line_text (outcome_row entry.outcome)) rest
    ∙ append_assoc first items (line_text (outcome_row entry.outcome) ++ rest)

pub entries_read_back : EntriesReadBack
entries_read_back entry h n rest tail =
    let last = line_text (outcome_row entry.outcome) ++ rest in
    let items = step_items entry.step in
    let command = command_row entry.who entry.step in
    let is_row = command_is_row entry.who entry.step h.who h.shaped h.within h.typed h.command_short in
    let rows = step_rows entry.step h.shaped h.typed h.items_short in
    let outcome = outcome_is_row entry.outcome h.outcome h.outcome_short in
    let at = n + command_lines entry.step in
    let count : n + 1 + length items ≡ at = omega arith in
    let lines : lines_from n (entry_text entry ++ rest) ≡ (n, row_line command) ∷ (numbered (n + 1) items ++ lines_from at last) =
    ap (lines_from n) (entry_parts entry rest (readable_written entry.outcome h.outcome))
    ∙ row_first command n (flat_map item_text items ++ last) is_row
    ∙ ap (λ (l : List Row). (n, row_line command) ∷ l) (items_first items (n + 1) last rows ∙ ap (λ k. numbered (n + 1) items ++ lines_from k last) count) in
    record {
      behind = ahead_of at last tail;
      command =
          ap (λ (l : List Row). first_script_item false (record { rows = l; tail = tail })) lines
          ∙ first_reads false n command (numbered (n + 1) items ++ lines_from at last) tail (row_fields command is_row)
          ∙ step_reads false entry.who n entry.step (behind_rows (numbered (n + 1) items) (lines_from at last) tail) (ahead_of at last tail) h.who
          (command_back entry.who n entry.step (lines_from at last) tail h.who h.shaped h.within h.typed rows (n + 1));
      kept =
          ap (λ (l : List Row). first_script_item true (record { rows = l; tail = tail })) (row_first (outcome_row entry.outcome) at rest outcome)
          ∙ first_reads true at (outcome_row entry.outcome) (lines_from (at + 1) rest) tail (row_fields (outcome_row entry.outcome) outcome)
          ∙ kept_reads at entry.outcome (ahead_of (at + 1) rest tail) h.outcome;
    }
