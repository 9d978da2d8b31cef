use Rattle.std.proofs.Common.{◌≡◌, take, map}
use Rattle.std.specs.BTreeMap.{get, IsOrdered}
use Rattle.section_codec.specs.declared.table.Key.{Key}
use Rattle.section_codec.specs.KeyOrder.{key_cmp}
use Rattle.cycle_timing.specs.Listing.{paced_as}
use Rattle.cycle_timing.proofs.Found.{found}
use Rattle.cycle_timing.proofs.Naming.{is_named}
use Rattle.cycle_timing.proofs.numbers.paced_of.Given as goal

abbrev pub invariant-loop-section : goal.invariant-loop-section
invariant-loop-section l = record {
  place : l.place ≡ l.section-index;
  paced : l.paced.items ≡ map (paced_as l.listed) (take l.section-index l.listed);
  firsts : (q : Key) → get key_cmp l.firsts q ≡ found is_named (take l.section-index l.listed) q;
  ordered : IsOrdered key_cmp l.firsts;
}
