use Rattle.std.proofs.Common.{subst, sym}
use Rattle.air_model.specs.Air.{CanBeTold}
use Rattle.journal_air.proofs.CarryFacts.{offsets_told}
use Rattle.journal_air.proofs.send.open_player.Goals as goal

pub open-requires-clause-offsets : goal.open-requires-clause-offsets
open-requires-clause-offsets c = subst CanBeTold (sym c.in_ok-offsets.ensures) (offsets_told c.args.mux.now.offsets c.requires.offsets)
