use Rattle.std.proofs.Common.{◌≡◌, ◌≤◌, ◌++◌}
use Rattle.std.specs.Prelude.{codes, flat_map}
use Rattle.std.specs.List.{range_with_len}
use Rattle.si_workload.specs.Texts.{service_line}
use Rattle.si_workload.proofs.mux.made_mux.Given as goal

abbrev pub invariant-loop-i : goal.invariant-loop-i
invariant-loop-i l = record {
  within : l.i ≤ 8;
  text : l.out.items ≡ codes "network,40,Soak\nstream,1,1\n" ++ flat_map service_line (range_with_len 0 l.i);
}
