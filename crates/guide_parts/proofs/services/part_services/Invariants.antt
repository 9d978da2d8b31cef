use Rattle.std.proofs.Common.{◌≡◌, ◌++◌, map}
use Rattle.std.specs.Vec.Iter.{into_iter_items}
use Rattle.section_codec.specs.declared.table.Key.{Key}
use Rattle.section_codec.specs.Contents.{Content}
use Rattle.guide_parts.specs.Holding.{KeepsParts}
use Rattle.guide_parts.specs.PartScreen.{part_service}
use Rattle.guide_parts.proofs.services.part_services.Given as goal

-- those that are shown so far and those that follow are all
abbrev pub invariant-loop-one : goal.invariant-loop-one
invariant-loop-one l =
    (part : Key → Content) → KeepsParts l.contents part
    → l.shown.items ++ map (part_service part l.programs l.home) (into_iter_items l.one-iterator)
    ≡ map (part_service part l.programs l.home) l.fn.services.items
