use Rattle.std.proofs.Common.{◌≡◌, ◌+◌, ◌-◌, ◌≤◌, ◌++◌}
use Rattle.section_codec.specs.Contents.{numbers_from}
use Rattle.sub_collect.proofs.needed.put_numbers.Given as goal

abbrev pub invariant-loop-n : goal.invariant-loop-n
invariant-loop-n l = record {
  above : l.first ≤ l.n;
  within : l.n - l.first ≤ 1 + l.last - l.first;
  so_far : l.numbers.items ≡ l.fn.numbers.items ++ numbers_from l.first (l.n - l.first);
}
