use Rattle.std.proofs.Common.{◌≡◌, ◌+◌, drop}
use Rattle.air_model.specs.Laying.{room_for, places_for}
use Rattle.air_model.proofs.laying.room_for.Given as goal

abbrev pub invariant-loop-table : goal.invariant-loop-table
invariant-loop-table l = (l.bytes + room_for (drop l.table-index l.tables) ≡ room_for l.tables) × (l.places + places_for (drop l.table-index l.tables) ≡ places_for l.tables)
