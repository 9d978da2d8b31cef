use Rattle.std.proofs.Common.{◌≡◌, ◌++◌, take, flat_map}
use Rattle.table_bodies.specs.Sdt.{service_bytes}
use Rattle.table_bodies.proofs.sdt.put_services.Given as goal

-- the entries of the services so far stand behind what was there
abbrev pub invariant-loop-service : goal.invariant-loop-service
invariant-loop-service l = l.out.items ≡ l.fn.out.items ++ flat_map service_bytes (take l.service-index l.services)
