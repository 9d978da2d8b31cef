use Rattle.std.proofs.Common.{◌≡◌, ◌++◌, map, take}
use Rattle.publication.specs.Programs.{pmt_table}
use Rattle.publication.proofs.programs.put_pmts.Given as goal

-- the tables of the services so far stand behind what was there
abbrev pub invariant-loop-service : goal.invariant-loop-service
invariant-loop-service l = l.list ≡ l.fn.list ++ map pmt_table (take l.service-index l.services)
