use Rattle.std.proofs.Common.{◌≡◌, ◌∷◌, map, take}
use Rattle.publication.specs.Programs.{network_entry, program_entry}
use Rattle.publication.proofs.programs.programs.Given as goal

-- program 0 and the services so far
abbrev pub invariant-loop-service : goal.invariant-loop-service
invariant-loop-service l = l.programs ≡ network_entry ∷ map program_entry (take l.service-index l.mux.services)
