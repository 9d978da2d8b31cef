use Rattle.std.proofs.Common.{◌≡◌, map, take}
use Rattle.publication.specs.Sdt.{entry_of}
use Rattle.publication.proofs.sdt.own_entries.Given as goal

abbrev pub invariant-loop-service : goal.invariant-loop-service
invariant-loop-service l = l.entries ≡ map entry_of (take l.service-index l.services)
