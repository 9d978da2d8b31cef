use Rattle.std.proofs.Common.{◌≡◌, ◌++◌, Option, map, take}
use Rattle.section_codec.specs.declared.table.Key.{Key}
use Rattle.section_codec.specs.Contents.{Content}
use Rattle.guide_screen.specs.Holding.{KeepsContents}
use Rattle.guide_screen.specs.Needs.{unmet_of, want_table}
use Rattle.guide_screen.proofs.needs.put_tables.Given as goal

-- the needs of the tables so far
abbrev pub invariant-loop-table : goal.invariant-loop-table
invariant-loop-table l =
    (content : Key → Option Content) → KeepsContents l.contents content
    → l.needs.items ≡ l.fn.needs.items ++ unmet_of content (map (want_table l.sdt l.service) (take l.table-index l.tables))
