use Rattle.std.proofs.Common.{◌≡◌, ◌++◌, take, map}
use Rattle.cycle_timing.specs.Listing.{listed_section}
use Rattle.cycle_timing.proofs.listed.put_table.Given as goal

abbrev pub invariant-loop-section : goal.invariant-loop-section
invariant-loop-section l = l.listed.items ≡ l.fn.listed.items ++ map (listed_section l.table) (take l.section-index l.section-items)
