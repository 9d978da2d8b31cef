use Rattle.std.proofs.Common.{◌∙◌, sym, ap}
use Rattle.mux_config.specs.Taken.{passes_of}
use Rattle.mux_config.proofs.room.passes_of.Goals as goal

pub returns-in-Elsewhere : goal.returns-in-Elsewhere
returns-in-Elsewhere c = c.passes_other.ensures ∙ ap (passes_of c.args.records.now c.args.says.now) (sym c.in-Elsewhere.is)
