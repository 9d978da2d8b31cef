use Rattle.std.proofs.Common.{◌+◌, ◌≤◌, ◌++◌, List, length, vec_len, vec_capacity, take, drop}
use Rattle.air_model.specs.Air.{Sent}
use Rattle.air_model.specs.Laying.{AreLaid, sections_under, room_for, places_for}
use Rattle.air_model.proofs.laying.lay_tables.Given as goal

-- the sub-tables so far are laid, and there is room for the others
abbrev pub invariant-loop-table : goal.invariant-loop-table
invariant-loop-table l = record {
  laid : (ss : List Sent) → AreLaid ss l.fn.bytes.items l.fn.placed.items → AreLaid (ss ++ sections_under (take (length l.yielded) l.versions) (take (length l.yielded) l.tables)) l.bytes.items l.placed.items;
  bytes_len : vec_len l.bytes + room_for (drop (length l.yielded) l.tables) ≤ vec_len l.fn.bytes + room_for l.tables;
  bytes_capacity : vec_capacity l.fn.bytes ≤ vec_capacity l.bytes;
  placed_len : vec_len l.placed + places_for (drop (length l.yielded) l.tables) ≤ vec_len l.fn.placed + places_for l.tables;
  placed_capacity : vec_capacity l.fn.placed ≤ vec_capacity l.placed;
}
