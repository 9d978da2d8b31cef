use Rattle.std.proofs.Common.{◌≡◌, ◌++◌, map, take}
use Rattle.guide_parts.specs.PartScreen.{bare}
use Rattle.guide_parts.proofs.listed.put_bare.Given as goal

abbrev pub invariant-loop-id : goal.invariant-loop-id
invariant-loop-id l = l.listed.items ≡ l.fn.listed.items ++ map bare (take l.id-index l.ids)
