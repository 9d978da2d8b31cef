use Rattle.std.proofs.Common.{◌≡◌, ◌++◌, ◌∷◌, take}
use Rattle.csv.specs.Writing.{default_writer, escaped}
use Rattle.journal_text.proofs.line.put_quoted.Given as goal

abbrev pub invariant-loop-b : goal.invariant-loop-b
invariant-loop-b l = l.out.items ≡ l.fn.out.items ++ 34 ∷ escaped default_writer (take l.b-index l.bytes)
