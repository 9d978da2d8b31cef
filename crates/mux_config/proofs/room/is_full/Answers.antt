use Rattle.std.proofs.Common.{◌∙◌, sym, ap}
use Rattle.mux_config.specs.Taken.{is_full, is_full_at, passes_other, passes_program}
use Rattle.mux_config.proofs.room.is_full.Goals as goal

pub returns-in-Part : goal.returns-in-Part
returns-in-Part c = c.passes_program.ensures ∙ ap (passes_program c.in-Part.id c.args.records.now) c.in-Part.is ∙ ap (is_full c.args.records.now) (sym c.in-Part.is)

pub returns-in-Further : goal.returns-in-Further
returns-in-Further c = c.is_full_at.ensures ∙ ap (is_full_at c.args.records.now c.in-Further.place) c.in-Further.is ∙ ap (is_full c.args.records.now) (sym c.in-Further.is)

pub returns-in-Elsewhere : goal.returns-in-Elsewhere
returns-in-Elsewhere c =
    c.passes_other.ensures ∙ ap (passes_other c.in-Elsewhere.stream c.in-Elsewhere.original c.args.records.now) c.in-Elsewhere.is ∙ ap (is_full c.args.records.now) (sym c.in-Elsewhere.is)

pub returns-in-Remote : goal.returns-in-Remote
returns-in-Remote c =
    c.passes_other-in-Remote.ensures ∙ ap (passes_other c.in-Remote.stream c.in-Remote.original c.args.records.now) c.in-Remote.is ∙ ap (is_full c.args.records.now) (sym c.in-Remote.is)
