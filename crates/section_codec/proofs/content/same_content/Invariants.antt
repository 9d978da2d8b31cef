use Rattle.std.proofs.Common.{◌≡◌, drop, length}
use Rattle.section_codec.specs.Contents.{is_content}
use Rattle.section_codec.proofs.content.same_content.Given as goal

-- the parts that were not looked at decide
abbrev pub invariant-loop-i : goal.invariant-loop-i
invariant-loop-i l = (length l.a ≡ length l.b) × (is_content (drop l.i l.a) (drop l.i l.b) ≡ is_content l.a l.b)
