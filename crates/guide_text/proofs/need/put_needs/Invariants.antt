use Rattle.std.proofs.Common.{◌≡◌, ◌++◌, take, flat_map}
use Rattle.guide_text.specs.Guides.{need_line}
use Rattle.guide_text.proofs.need.put_needs.Given as goal

abbrev pub invariant-loop-need : goal.invariant-loop-need
invariant-loop-need l = l.out.items ≡ l.fn.out.items ++ flat_map need_line (take l.need-index l.needs)
