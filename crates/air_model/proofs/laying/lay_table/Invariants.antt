use Rattle.std.proofs.Common.{◌+◌, ◌≤◌, ◌++◌, List, vec_len, vec_capacity, take, drop, map}
use Rattle.air_model.specs.Air.{Sent, sent_section}
use Rattle.air_model.specs.Laying.{AreLaid, room_of}
use Rattle.air_model.proofs.laying.lay_table.Given as goal

-- the sections up to the index are laid, and there is room for the others
abbrev pub invariant-loop-section : goal.invariant-loop-section
invariant-loop-section l = record {
  laid : (ss : List Sent) → AreLaid ss l.fn.bytes.items l.fn.placed.items → AreLaid (ss ++ map (sent_section l.version l.table) (take l.section-index l.table.sections)) l.bytes.items l.placed.items;
  bytes_len : vec_len l.bytes + room_of (drop l.section-index l.table.sections) ≤ vec_len l.fn.bytes + room_of l.table.sections;
  bytes_capacity : vec_capacity l.fn.bytes ≤ vec_capacity l.bytes;
  placed_len : vec_len l.placed ≤ vec_len l.fn.placed + l.section-index;
  placed_capacity : vec_capacity l.fn.placed ≤ vec_capacity l.placed;
}
