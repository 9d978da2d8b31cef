use Rattle.std.proofs.Common.{◌≡◌, ◌++◌, flat_map, take}
use Rattle.section_codec.specs.declared.table.Key.{Key}
use Rattle.section_codec.specs.Contents.{Content}
use Rattle.guide_parts.specs.Holding.{KeepsParts}
use Rattle.guide_parts.specs.PartScreen.{events_held}
use Rattle.guide_parts.proofs.tables.put_tables.Given as goal

-- the events of the tables so far
abbrev pub invariant-loop-table : goal.invariant-loop-table
invariant-loop-table l =
    (part : Key → Content) → KeepsParts l.contents part
    → l.events.items ≡ l.fn.events.items ++ flat_map (events_held part l.home l.service) (take l.table-index l.tables)
