-- What is sent by the cycles of an air, and heard of a part of its packets.
use Rattle.std.specs.Prelude.{◌≡◌, ℕ, ◌+◌, ◌<◌, ◌≤◌, List, [], ◌∷◌, ◌++◌, length, take, map, slice_range}
use Rattle.version_book.specs.Airings.{AiredTables}
use Rattle.ts_packets.specs.Bytes.{Packet, bytes_of_packet}
use Rattle.ts_packets.specs.Counting.{of_pid}
use Rattle.ts_demux.specs.Sections.{sections_on}
use Rattle.ts_demux.specs.Laws.{within}
use Rattle.air_model.specs.Air.{Sent, Aired, air, airings_of}
use Rattle.air_model.specs.Repeating.{IsSentOf, RepeatingCycles}

-- how many of the packets before a place are of a PID
abbrev pub count_before : ℕ → List Packet → ℕ → ℕ
count_before pid packets place = length (of_pid pid (take place packets))

-- the sections heard on a PID of the packets from the place join on and before the place end
abbrev pub heard_between : ℕ → ℕ → ℕ → List Packet → List (List ℕ)
heard_between join end pid packets = sections_on pid (map bytes_of_packet (slice_range packets join end))

-- A group for each packet of the PID: the sections that begin in it. Of these packets whoever joins at packet join, and loses none
-- before packet end, hears just those sections with their first byte in packet join or later and their last byte before packet end,
-- in their order.
abbrev pub PartsAreHeard : ℕ → List Packet → List (List (List ℕ)) → Type 0
PartsAreHeard pid packets groups =
    (join end : ℕ) → heard_between join end pid packets ≡ within (count_before pid packets join) (count_before pid packets end) groups

-- A cycle before which this many packets are sent has a packet from the place join on and before the place end.
abbrev pub HasPacketIn : ℕ → ℕ → ℕ → Aired → Type 0
HasPacketIn join end sent x = (place : ℕ) × (sent ≤ place) × (place < sent + length x.packets) × (join ≤ place) × (place < end)

-- These bytes are a section on this PID of an airing whose cycle has a packet there.
pub record IsOfCycleIn (join end pid : ℕ) (xs : List Aired) (bytes : List ℕ) : Type 0 where
  pub before : List Aired
  pub cycle : Aired
  pub after : List Aired
  pub section : Sent
  pub cut : xs ≡ before ++ cycle ∷ after
  pub there : HasPacketIn join end (length (air before)) cycle
  pub sent : IsSentOf (airings_of before) cycle.airing section
  pub on_pid : section.pid ≡ pid
  pub has_bytes : section.bytes ≡ bytes
