-- The completions that a packet list shows, each with the packet that ended its last section.
use Rattle.std.specs.Prelude.{ℕ, List, [], ◌∷◌, ◌++◌, length, map}
use Rattle.ts_demux.specs.Sections.{ended_by, heard_all}
use Rattle.sub_collect.specs.Runs.{Counted}
use Rattle.sub_collect.specs.Completions.{dones}
use Rattle.sub_collect.specs.declared.completed.Completed.{Completed}
use Rattle.guide_receiver.specs.declared.done.DoneKey.{DoneKey}
use Rattle.guide_receiver.specs.Counting.{counted_among}

-- the sections of a packet list that count, in the order in which they end
abbrev pub counted_heard : List (List ℕ) → List Counted
counted_heard packets = counted_among (heard_all [] packets)

-- the completions that one packet shows, behind those of the past
abbrev pub shown_by : List (List ℕ) → List ℕ → List Completed
shown_by past packet = dones (counted_heard past) (counted_among (ended_by past packet))

-- key and version of a completion
abbrev pub done_key : Completed → DoneKey
done_key d = record { key = d.key; version = d.version }

abbrev pub dones_by : List (List ℕ) → List ℕ → List DoneKey
dones_by past packet = map done_key (shown_by past packet)

-- a completion and the number of the packet, from 0, in which it was shown
pub record DoneAt : Type 0 where
  pub packet : ℕ
  pub done : DoneKey

abbrev pub at_packet : ℕ → DoneKey → DoneAt
at_packet n done = record { packet = n; done = done }

-- the completions that these packets show, behind those of the past
abbrev pub dones_behind : List (List ℕ) → List (List ℕ) → List DoneAt
dones_behind past [] = []
dones_behind past (packet ∷ packets) = map (at_packet (length past)) (dones_by past packet) ++ dones_behind (past ++ packet ∷ []) packets

-- the completions that a packet list shows
abbrev pub dones_of : List (List ℕ) → List DoneAt
dones_of packets = dones_behind [] packets
