-- What is found with numbers and in ranges.
use Rattle.std.specs.Prelude.{ℕ, Bool, List, Option, Some, None, if◌then◌else◌}
use Rattle.input_lines.specs.Numbers.{numeral_of}
use Rattle.mux_lines.specs.declared.record.Record.{Record}
use Rattle.mux_lines.specs.declared.record.RecordFound.{RecordFound}
use Rattle.mux_lines.specs.declared.record.RecordFound.TheVariants.{NoRecord, OutOfRange, Is}

-- a field that is spelled as a number, and what is found with it
abbrev pub found_with : Option ℕ → (ℕ → RecordFound) → RecordFound
found_with None next = NoRecord
found_with (Some n) next = next n

abbrev pub spelled : List ℕ → (ℕ → RecordFound) → RecordFound
spelled field next = found_with (numeral_of field) next

-- a record whose fields are in their ranges, or are not
abbrev pub within : Bool → Record → RecordFound
within fits says = if fits then Is says else OutOfRange
