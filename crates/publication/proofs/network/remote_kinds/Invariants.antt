use Rattle.std.proofs.Common.{◌≡◌, map, take}
use Rattle.publication.specs.Network.{remote_kind}
use Rattle.publication.proofs.network.remote_kinds.Given as goal

abbrev pub invariant-loop-service : goal.invariant-loop-service
invariant-loop-service l = l.kinds ≡ map remote_kind (take l.service-index l.other.services)
