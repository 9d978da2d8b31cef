use Rattle.std.proofs.Common.{◌≡◌, ◌++◌, Option, flat_map, take}
use Rattle.section_codec.specs.declared.table.Key.{Key}
use Rattle.section_codec.specs.Contents.{Content}
use Rattle.guide_screen.specs.Holding.{KeepsContents}
use Rattle.guide_screen.specs.Needs.{unmet_of, want_service}
use Rattle.guide_screen.proofs.needs.put_services.Given as goal

-- the needs of the services so far
abbrev pub invariant-loop-service : goal.invariant-loop-service
invariant-loop-service l =
    (content : Key → Option Content) → KeepsContents l.contents content
    → l.needs.items ≡ l.fn.needs.items ++ unmet_of content (flat_map (want_service content l.sdt) (take l.service-index l.services))
