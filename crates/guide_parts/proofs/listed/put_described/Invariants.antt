use Rattle.std.proofs.Common.{◌≡◌, ◌++◌, map}
use Rattle.std.specs.Vec.Iter.{into_iter_items}
use Rattle.guide_screen.specs.Reading.{services_in}
use Rattle.guide_parts.specs.PartScreen.{described}
use Rattle.guide_parts.proofs.listed.put_described.Given as goal

-- those that are put so far and those that follow are all
abbrev pub invariant-loop-service : goal.invariant-loop-service
invariant-loop-service l =
    l.listed.items ++ map described (into_iter_items l.service-iterator) ≡ l.fn.listed.items ++ map described (services_in l.sections)
