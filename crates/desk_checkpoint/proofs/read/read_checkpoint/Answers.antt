use Rattle.std.proofs.Common.{List, subst, sym, ap, ◌∙◌}
use Rattle.guide_model.specs.declared.offset.Offset.{Offset}
use Rattle.mux_model.specs.declared.mux.Mux.{Mux}
use Rattle.version_book.specs.Airings.{CycleForm}
use Rattle.desk_checkpoint.specs.Starts.{IsStart}
use Rattle.air_model.specs.Air.{CanBeTold}
use Rattle.journal_air.specs.Air.{mux_form}
use Rattle.journal_air.proofs.CarryFacts.{offsets_told}
use Rattle.desk_checkpoint.proofs.read.read_checkpoint.Goals as goal

pub returns-in_ok-start-in-Ok-clause-start : goal.returns-in_ok-start-in-Ok-clause-start
returns-in_ok-start-in-Ok-clause-start g c =
    subst (λ (m : Mux). IsStart m c.in_ok-start-in-Ok.field-0) c.in-Ok.ensures.mux
    (c.in_ok-start-in-Ok.ensures.start
    (ap mux_form c.in-Ok.ensures.mux
    ∙ ap (λ (o : List Offset). let f : CycleForm = record { quota = c.args.mux.quota; offsets = o } in f) (sym c.in_ok-offsets.ensures)))

pub start-requires-clause-offsets : goal.start-requires-clause-offsets
start-requires-clause-offsets g c = subst CanBeTold (sym c.in_ok-offsets.ensures) (offsets_told c.args.mux.offsets c.requires.sound.offsets)
