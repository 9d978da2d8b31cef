use Rattle.std.proofs.Common.{sym, subst}
use Rattle.air_model.specs.Air.{CanBeTold}
use Rattle.journal_air.proofs.CarryFacts.{offsets_told}
use Rattle.publication_rows.proofs.guides.offsets_of_mux.Goals as goal

pub returns : goal.returns
returns c = subst CanBeTold (sym c.in_ok-offsets.ensures) (offsets_told c.args.mux.now.offsets c.requires.offsets)
