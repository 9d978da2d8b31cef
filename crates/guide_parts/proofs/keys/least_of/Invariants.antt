use Rattle.std.proofs.Common.{◌≡◌, drop}
use Rattle.guide_parts.specs.Parts.{least_of}
use Rattle.guide_parts.proofs.keys.least_of.Given as goal

abbrev pub invariant-loop-key : goal.invariant-loop-key
invariant-loop-key l = least_of l.table l.keys ≡ least_of l.table (drop l.key-index l.keys)
