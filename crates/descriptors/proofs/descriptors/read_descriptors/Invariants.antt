use Rattle.std.proofs.Common.{◌≡◌, ◌<◌, ◌++◌, length}
use Rattle.std.specs.List.{flat_map, AllByRecursion}
use Rattle.descriptors.specs.Descriptors.{descriptor_bytes}
use Rattle.descriptors.proofs.descriptors.read_descriptors.Given as goal

abbrev pub invariant-loop-rest : goal.invariant-loop-rest
invariant-loop-rest l = record {
  so_far : l.bytes ≡ flat_map descriptor_bytes l.descs.items ++ l.rest;
  lengths : AllByRecursion (λ d. length d.body < 256) l.descs.items;
}

abbrev pub decreases-loop-rest : goal.decreases-loop-rest
decreases-loop-rest l = length l.rest
