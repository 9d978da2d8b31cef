use Rattle.std.proofs.Common.{◌≡◌, ◌++◌, take}
use Rattle.descriptors.specs.Descriptors.{descriptors_bytes}
use Rattle.descriptors.proofs.descriptors.write_descriptors.Given as goal

-- the descriptors so far stand behind what was there
abbrev pub invariant-loop-desc : goal.invariant-loop-desc
invariant-loop-desc l = l.out.items ≡ l.fn.out.items ++ descriptors_bytes (take l.desc-index l.descs)
