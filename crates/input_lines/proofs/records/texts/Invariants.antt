use Rattle.std.proofs.Common.{◌≡◌, take}
use Rattle.csv.specs.Records.{fields_of}
use Rattle.input_lines.proofs.records.texts.Given as goal

abbrev pub invariant-fields : goal.invariant-fields
invariant-fields l = l.texts ≡ take l.i (fields_of l.fn.row)
