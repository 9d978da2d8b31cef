use Rattle.std.proofs.Common.{◌∙◌, sym, ap}
use Rattle.mux_config.specs.Descriptions.{repeated_at}
use Rattle.mux_config.proofs.kinds.repeated_at.Goals as goal

pub returns-in-Stream : goal.returns-in-Stream
returns-in-Stream c = c.stream_at.ensures ∙ ap (repeated_at c.args.records.now) (sym c.in-Stream.is)

pub returns-in-Elsewhere : goal.returns-in-Elsewhere
returns-in-Elsewhere c = c.first_line-in-Elsewhere.ensures ∙ ap (repeated_at c.args.records.now) (sym c.in-Elsewhere.is)

pub returns-in-Remote : goal.returns-in-Remote
returns-in-Remote c = c.first_line-in-Remote.ensures ∙ ap (repeated_at c.args.records.now) (sym c.in-Remote.is)
