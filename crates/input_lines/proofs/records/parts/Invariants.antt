use Rattle.std.proofs.Common.{◌≡◌, map}
use Rattle.input_lines.proofs.records.parts.Given as goal

abbrev pub invariant-loop-part : goal.invariant-loop-part
invariant-loop-part l = l.parts.items ≡ map (λ x. x.now) l.yielded
