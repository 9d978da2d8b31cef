use Rattle.std.proofs.Common.{◌≡◌, ◌++◌, take, flat_map}
use Rattle.guide_text.specs.Guides.{local_line}
use Rattle.guide_text.proofs.local.put_offsets.Given as goal

abbrev pub invariant-loop-offset : goal.invariant-loop-offset
invariant-loop-offset l = l.out.items ≡ l.fn.out.items ++ flat_map (local_line l.at.0) (take l.offset-index l.offsets)
