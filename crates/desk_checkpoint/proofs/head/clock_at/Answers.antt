use Rattle.std.proofs.Common.{ℕ, ap}
use Rattle.std.specs.Prelude.{Option}
use Rattle.input_lines.proofs.LineReads.{read_as, read_value}
use Rattle.desk_checkpoint.specs.Reads.{clock_ahead, clock_line, no_clock}
use Rattle.desk_checkpoint.proofs.head.clock_at.Goals as goal

pub returns-in-None : goal.returns-in-None
returns-in-None g c =
    read_value g.S.Source.left g.S.Source.faults g.S.Source.same g.met.S.Source.same_at_once g.met.S.Source.same_later (clock_ahead c.args.rate) no_clock c.args.lines.now
    (λ a. ap (λ (r : Option ℕ). clock_ahead r a) c.in-None.is)

pub returns-in-Some : goal.returns-in-Some
returns-in-Some g c =
    read_as g.S.Source.left g.S.Source.faults g.S.Source.same g.met.S.Source.same_at_once g.met.S.Source.same_later (clock_ahead c.args.rate) clock_line c.args.lines.now c.next_clock.new.lines c.next_clock.result
    (λ a. ap (λ (r : Option ℕ). clock_ahead r a) c.in-Some.is) c.next_clock.ensures
