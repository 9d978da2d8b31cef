use Rattle.std.proofs.Common.{◌≤◌, ℕ, take}
use Rattle.std.specs.List.{AllByRecursion}
use Rattle.headend_live.proofs.typed.are_bytes.Given as goal

abbrev pub invariant-loop-number : goal.invariant-loop-number
invariant-loop-number l = record {
  all : AllByRecursion (λ (b : ℕ). b ≤ 255) (take l.number-index l.numbers);
}
