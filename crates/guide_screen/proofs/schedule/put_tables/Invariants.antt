use Rattle.std.proofs.Common.{◌≡◌, ◌++◌, Option, flat_map, take}
use Rattle.section_codec.specs.declared.table.Key.{Key}
use Rattle.section_codec.specs.Contents.{Content}
use Rattle.guide_screen.specs.Holding.{KeepsContents}
use Rattle.guide_screen.specs.Screen.{events_at}
use Rattle.guide_screen.proofs.schedule.put_tables.Given as goal

-- the events of the tables so far
abbrev pub invariant-loop-table : goal.invariant-loop-table
invariant-loop-table l =
    (content : Key → Option Content) → KeepsContents l.contents content
    → l.events.items ≡ l.fn.events.items ++ flat_map (events_at content l.sdt l.service) (take l.table-index l.tables)
