use Rattle.std.proofs.Common.{◌≡◌, map, Some}
use Rattle.input_lines.specs.Groups.{each_in}
use Rattle.input_lines.proofs.groups.descriptors_in.Given as goal

abbrev pub invariant-loop-group : goal.invariant-loop-group
invariant-loop-group l = each_in (map (λ x. x.now) l.yielded) ≡ Some l.descriptors
