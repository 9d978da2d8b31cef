use Rattle.std.proofs.Common.{◌≡◌, drop}
use Rattle.publication.specs.Parts.{part_in}
use Rattle.publication.proofs.parts.part_in.Given as goal

-- none of the parts so far is the one that is sought
abbrev pub invariant-parts : goal.invariant-parts
invariant-parts l = part_in l.id l.guide.guide.services ≡ part_in l.id (drop l.i l.guide.guide.services)
