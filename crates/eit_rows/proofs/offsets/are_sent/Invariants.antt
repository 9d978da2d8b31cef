use Rattle.std.proofs.Common.{ℕ, ◌<◌, get_or}
use Rattle.guide_model.specs.declared.offset.Offset.{Offset}
use Rattle.time_tables.specs.LocalOffsets.{FitsOffset}
use Rattle.eit_rows.proofs.offsets.are_sent.Given as goal

abbrev pub invariant-loop-i : goal.invariant-loop-i
invariant-loop-i l = (k : ℕ) (d : Offset) → k < l.i → FitsOffset (get_or l.offsets k d)
