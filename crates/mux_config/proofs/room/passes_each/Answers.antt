use Rattle.std.proofs.Common.{Bool, ◌∙◌, sym, ap}
use Rattle.std.specs.Prelude.{◌||◌}
use Rattle.std.specs.List.{list_any}
use Rattle.mux_lines.specs.declared.record.Numbered.{Numbered}
use Rattle.mux_config.specs.Taken.{passes_of}
use Rattle.mux_config.proofs.room.passes_each.Goals as goal

pub returns-else-passes_own : goal.returns-else-passes_own
returns-else-passes_own c =
    c.passes_any.ensures
    ∙ ap (λ (b : Bool). b || list_any (λ (r : Numbered). passes_of c.args.records.now c.args.says.now r.says) c.args.records.now) (sym c.if-passes_own.false ∙ c.passes_own.ensures)
