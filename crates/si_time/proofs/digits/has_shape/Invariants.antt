use Rattle.std.proofs.Common.{◌≡◌, length, drop}
use Rattle.si_time.specs.Readings.{has_shape}
use Rattle.si_time.proofs.digits.has_shape.Given as goal

-- what is left has its shape exactly where the whole has it
abbrev pub invariant-loop-s : goal.invariant-loop-s
invariant-loop-s l = has_shape l.shape l.text ≡ has_shape (drop (length l.yielded) l.shape) (drop (length l.yielded) l.text)
