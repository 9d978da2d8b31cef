-- What a run prints at its end: comments, the line on its bit rate, and the line of its fault.
use Rattle.std.specs.Prelude.{◌≡◌, ℕ, List, [], ◌++◌, Option, take}
use Rattle.epg_report.specs.Rates.{rate_line}
use Rattle.epg_report.specs.Texts.{fault_lines}
use Rattle.epg_report.specs.declared.status.Status.{Status}
use Rattle.cycle_player.specs.Tally.{Tallied}
use Rattle.script_notes.specs.ReportLaws.{HasNoOutcome}
use Rattle.script_notes.specs.Pieces.{Piece, entries_in, pieces_text}
use Rattle.epg_follow.specs.Runs.{IsBehindMux}

-- None of its lines begins with `=`, wherever it is cut.
abbrev pub EndingsHaveNoOutcome : Type 0
EndingsHaveNoOutcome =
    (comments : List Piece) (rate : Option ℕ) (tally : Tallied) (status : Status) (cut : ℕ)
    → entries_in comments ≡ [] → IsBehindMux status
    → HasNoOutcome (take cut (pieces_text comments ++ (rate_line rate tally ++ fault_lines status)))
