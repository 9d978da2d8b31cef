-- What receivers have of the sub-tables that they heard, whole or not.
use Rattle.std.specs.Prelude.{ℕ, List}
use Rattle.sub_collect.specs.Marks.{all_took}
use Rattle.guide_receiver.specs.Dones.{counted_heard}
use Rattle.guide_receiver.specs.Guides.{view_of}
use Rattle.strict_receiver.specs.Earlier.{taken_after, strict_view_after}
use Rattle.guide_parts.specs.Parts.{Parts, parts_over}

-- what any receiver has of packets
abbrev pub parts_of : List (List ℕ) → Parts
parts_of packets = parts_over (view_of packets) (all_took (counted_heard packets))

-- what a strict receiver has of earlier recordings, after each of which it started afresh, and of the packets since
abbrev pub strict_parts_after : List (List (List ℕ)) → List (List ℕ) → Parts
strict_parts_after earlier packets = parts_over (strict_view_after earlier packets) (taken_after earlier packets)
