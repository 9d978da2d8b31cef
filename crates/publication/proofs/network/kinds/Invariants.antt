use Rattle.std.proofs.Common.{◌≡◌, map, take}
use Rattle.publication.specs.Network.{kind_of}
use Rattle.publication.proofs.network.kinds.Given as goal

abbrev pub invariant-loop-service : goal.invariant-loop-service
invariant-loop-service l = l.kinds ≡ map kind_of (take l.service-index l.services)
