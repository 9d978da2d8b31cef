use Rattle.std.proofs.Common.{◌≡◌, ◌++◌, Option, flat_map, take}
use Rattle.section_codec.specs.declared.table.Key.{Key}
use Rattle.section_codec.specs.Contents.{Content}
use Rattle.guide_screen.specs.Holding.{KeepsContents}
use Rattle.guide_screen.specs.Needs.{unmet_of, want_pmt}
use Rattle.guide_screen.proofs.needs.put_pmts.Given as goal

-- the needs of the programs so far
abbrev pub invariant-loop-entry : goal.invariant-loop-entry
invariant-loop-entry l =
    (content : Key → Option Content) → KeepsContents l.contents content
    → l.needs.items ≡ l.fn.needs.items ++ unmet_of content (flat_map want_pmt (take l.entry-index l.programs))
