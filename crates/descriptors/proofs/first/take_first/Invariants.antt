use Rattle.std.proofs.Common.{◌≡◌, ◌++◌, length, take, drop}
use Rattle.descriptors.specs.First.{first_in, without_first}
use Rattle.descriptors.proofs.first.take_first.Given as goal

-- those so far are of another kind, or do not fit
abbrev pub invariant-loop-place : goal.invariant-loop-place
invariant-loop-place g l =
    let kind = g.K.DescriptorKind in
    record {
      same : l.descs.items ≡ l.fn.descs.items;
      end : l.place-end ≡ length l.descs.items;
      value : first_in kind.TAG kind.value_of l.descs.items ≡ first_in kind.TAG kind.value_of (drop l.place l.descs.items);
      rest : without_first kind.TAG kind.value_of kind.shows l.descs.items
          ≡ take l.place l.descs.items ++ without_first kind.TAG kind.value_of kind.shows (drop l.place l.descs.items);
    }
