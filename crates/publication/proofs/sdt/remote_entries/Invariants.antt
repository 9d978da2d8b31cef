use Rattle.std.proofs.Common.{◌≡◌, map, take}
use Rattle.publication.specs.Sdt.{remote_entry}
use Rattle.publication.proofs.sdt.remote_entries.Given as goal

abbrev pub invariant-loop-service : goal.invariant-loop-service
invariant-loop-service l = l.entries ≡ map remote_entry (take l.service-index l.other.services)
