use Rattle.std.proofs.Common.{◌≡◌, ◌≤◌, List, ℕ}
use Rattle.std.specs.Prelude.{Some, None}
use Rattle.si_causes.specs.Reading.{room, text_left}
use Rattle.input_lines.specs.Ahead.{ahead}
use Rattle.desk_checkpoint.specs.Reads.{read_on}
use Rattle.desk_checkpoint.proofs.read.read_on.Given as goal

-- what is read on from here is what was read on from the start
abbrev pub invariant-parts : goal.invariant-parts
invariant-parts g l =
    record {
      going : l.lines.stop ≡ None;
      same : g.S.Source.same l.fn.lines.source l.lines.source;
      later : g.S.Source.faults l.fn.lines.source ≤ g.S.Source.faults l.lines.source;
      mux : l.reading.desk.mux ≡ l.fn.reading.desk.mux;
      told : (text : List ℕ) → text_left g.S.Source.left l.fn.lines ≡ Some text
          → (rest : List ℕ) × (text_left g.S.Source.left l.lines ≡ Some rest) × (read_on l.fn.reading (ahead l.fn.lines text) ≡ read_on l.reading (ahead l.lines rest));
    }

abbrev pub decreases-parts : goal.decreases-parts
decreases-parts g l = room l.lines
