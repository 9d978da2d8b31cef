use Rattle.std.proofs.Common.{◌≡◌, length}
use Rattle.si_lists.proofs.Lists.{behind}
use Rattle.descriptors.specs.ServiceList.{service_list_in}
use Rattle.descriptors.proofs.service_list.read_service_list.Given as goal

abbrev pub invariant-loop-rest : goal.invariant-loop-rest
invariant-loop-rest l = service_list_in l.body ≡ behind l.services.items (service_list_in l.rest)

abbrev pub decreases-loop-rest : goal.decreases-loop-rest
decreases-loop-rest l = length l.rest
