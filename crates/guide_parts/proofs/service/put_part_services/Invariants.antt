use Rattle.std.proofs.Common.{◌≡◌, ◌++◌, flat_map, take}
use Rattle.guide_parts.specs.PartTexts.{part_service_text}
use Rattle.guide_parts.proofs.service.put_part_services.Given as goal

-- the lines of the services so far
abbrev pub invariant-loop-service : goal.invariant-loop-service
invariant-loop-service l = l.out.items ≡ l.fn.out.items ++ flat_map (part_service_text l.details) (take l.service-index l.services)
