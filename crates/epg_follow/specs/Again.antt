-- The report of a run plays again: comments among the entries are passed over.
use Rattle.std.specs.Prelude.{◌≡◌, ◌≤◌, ◌+◌, ℕ, List, ◌++◌, length, map, Ok}
use Rattle.std.specs.List.{AllByRecursion}
use Rattle.si_causes.specs.Text.{lines_left}
use Rattle.journal_text.specs.CommandBack.{ahead_of, shown_lines}
use Rattle.desk_core.specs.Journal.{Legal, LegalAfter}
use Rattle.epg_play.specs.Again.{Describes, PlaysAgain}
use Rattle.epg_play.specs.Behind.{played_behind}
use Rattle.epg_play.specs.Script.{Ended, script_within}
use Rattle.input_lines.specs.Ahead.{Came, Ends, ahead_in}
use Rattle.journal_model.specs.Steps.{command_of}
use Rattle.journal_model.specs.declared.step.Entry.{Entry}
use Rattle.mux_config.specs.Descriptions.{description_ahead}
use Rattle.mux_model.specs.declared.mux.Mux.{Mux}
use Rattle.script_notes.specs.Pieces.{IsReadablePiece, Piece, entries_in, pieces_text}

-- After a journal the text of a report is played to its end: the commands of its entries. Each
-- outcome is the one that is kept.
abbrev pub ReportsPlayAgain : Type 0
ReportsPlayAgain =
    (mux : Mux) (before : List Entry) (pieces : List Piece) (n m : ℕ)
    → LegalAfter mux before (entries_in pieces) → AllByRecursion IsReadablePiece pieces
    → played_behind mux before (ahead_of n (pieces_text pieces) (Ends m))
    ≡ (map command_of (entries_in pieces), Ended)

-- ---- after a description

-- After the description of a multiplex any text is ahead, whatever limit both are within.
abbrev pub DescriptionsGoOn : Type 0
DescriptionsGoOn =
    (mux : Mux) (block text : List ℕ) (limit : ℕ)
    → Describes block mux → length (block ++ text) ≤ limit
    → description_ahead (ahead_in 1 (lines_left limit (block ++ text)))
    ≡ Came (Ok mux) (ahead_of (1 + length (shown_lines block)) text
    (Ends (1 + length (shown_lines (block ++ text)))))

-- Within any limit the text of a report is there the script of its entries, ended.
abbrev pub ReportsAreScripts : Type 0
ReportsAreScripts =
    (mux : Mux) (block : List ℕ) (pieces : List Piece) (limit : ℕ)
    → Describes block mux → Legal mux (entries_in pieces) → AllByRecursion IsReadablePiece pieces
    → length (block ++ pieces_text pieces) ≤ limit
    → PlaysAgain mux (entries_in pieces) (script_within limit (block ++ pieces_text pieces))
