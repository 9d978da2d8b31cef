use Rattle.std.proofs.Common.{◌≡◌, drop}
use Rattle.std.specs.Prelude.{find}
use Rattle.guide_parts.specs.Parts.{is_home_eit}
use Rattle.guide_parts.proofs.keys.first_eit.Given as goal

abbrev pub invariant-loop-key : goal.invariant-loop-key
invariant-loop-key l = find (is_home_eit l.pat) l.keys ≡ find (is_home_eit l.pat) (drop l.key-index l.keys)
