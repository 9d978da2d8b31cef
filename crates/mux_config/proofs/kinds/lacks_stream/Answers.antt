use Rattle.std.proofs.Common.{◌∙◌, Bool, sym, ap}
use Rattle.std.specs.Prelude.{◌||◌, length, nat_le, not}
use Rattle.mux_config.specs.Descriptions.{all_of, remote_in}
use Rattle.mux_config.proofs.RecordFacts.{counted}
use Rattle.mux_config.proofs.kinds.lacks_stream.Goals as goal

pub returns-then-has_other : goal.returns-then-has_other
returns-then-has_other c =
    ap (nat_le 64) (c.count_of.ensures ∙ counted remote_in c.args.records.now)
    ∙ ap (λ (b : Bool). not b || nat_le 64 (length (all_of remote_in c.args.records.now))) (sym c.if-has_other.true ∙ c.has_other.ensures)

pub returns-else-has_other : goal.returns-else-has_other
returns-else-has_other c =
    ap (λ (b : Bool). not b || nat_le 64 (length (all_of remote_in c.args.records.now))) (sym c.if-has_other.false ∙ c.has_other.ensures)
