use Rattle.std.proofs.Common.{◌≡◌, ◌++◌, Option, map}
use Rattle.std.specs.Vec.Iter.{into_iter_items}
use Rattle.section_codec.specs.declared.table.Key.{Key}
use Rattle.section_codec.specs.Contents.{Content}
use Rattle.guide_screen.specs.Holding.{KeepsContents}
use Rattle.guide_screen.specs.Screen.{remote_service, remote_services}
use Rattle.guide_screen.proofs.others.remote_services.Given as goal

-- those that are shown so far and those that follow are all
abbrev pub invariant-loop-service : goal.invariant-loop-service
invariant-loop-service l =
    (content : Key → Option Content) → KeepsContents l.contents content
    → l.shown.items ++ map (remote_service content l.sdt) (into_iter_items l.service-iterator)
    ≡ remote_services content l.sdt
