-- What holds of every line, by the definitions alone.
use Rattle.std.specs.Prelude.{ℕ, List}
use Rattle.mux_lines.specs.Fine.{IsFineFound}
use Rattle.mux_lines.specs.Fields.{found_line}

-- The record of a line has each field in its range, and texts that may be kept.
abbrev pub FoundRecordsAreFine : Type 0
FoundRecordsAreFine = (line : List ℕ) → IsFineFound (found_line line)
