use Rattle.std.proofs.Common.{◌≡◌, ◌≤◌, ◌+◌, ◌*◌, ℕ, map}
use Rattle.std.specs.Prelude.{flat_map}
use Rattle.std.specs.List.{range_with_len}
use Rattle.si_workload.specs.Texts.{service_text}
use Rattle.si_workload.proofs.feed.made_feed.Given as goal

abbrev pub invariant-loop-i : goal.invariant-loop-i
invariant-loop-i l = record {
  within : l.i ≤ 4;
  text : l.out.items ≡ flat_map (service_text l.number) (map (λ (i : ℕ). 100 + l.feed + 2 * i) (range_with_len 0 l.i));
}
