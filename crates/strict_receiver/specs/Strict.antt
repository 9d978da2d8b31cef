-- What a receiver hears of a packet list, if it forgets a PID at each break (ISO/IEC 13818-1, 2.4.3.3) before it
-- hears the packet: sections and marks, the completions that they show, and the guide.
use Rattle.std.specs.Prelude.{ℕ, List, [], ◌∷◌, ◌++◌, if◌then◌else◌, map, Option, Some, None}
use Rattle.ts_packets.specs.Bytes.{pid_in}
use Rattle.ts_demux.specs.Breaks.{is_lost}
use Rattle.sub_collect.specs.Marks.{Taken, Taken.Forgot, dones_over}
use Rattle.guide_receiver.specs.declared.done.DoneKey.{DoneKey}
use Rattle.guide_receiver.specs.Dones.{done_key}
use Rattle.guide_receiver.specs.Heard.{took_by}
use Rattle.guide_receiver.specs.Guides.{view_over, guide_over}
use Rattle.guide_screen.specs.View.{View}
use Rattle.guide_screen.specs.declared.need.Heard.{Heard}

-- the PID on which a packet shows that others were lost
abbrev pub lost_by : List (List ℕ) → List ℕ → Option ℕ
lost_by past packet = if is_lost past packet then Some (pid_in packet) else None

-- the mark that a packet makes
abbrev pub marks_by : List (List ℕ) → List ℕ → List Taken
marks_by past packet = if is_lost past packet then Forgot (pid_in packet) ∷ [] else []

-- what a packet adds after others: first its mark, where it is a break, then the sections that it ends and that count
abbrev pub taken_by : List (List ℕ) → List ℕ → List Taken
taken_by past packet = marks_by past packet ++ took_by past packet

-- what these packets add after the past
abbrev pub taken_from : List (List ℕ) → List (List ℕ) → List Taken
taken_from past [] = []
taken_from past (packet ∷ packets) = taken_by past packet ++ taken_from (past ++ packet ∷ []) packets

abbrev pub taken_of : List (List ℕ) → List Taken
taken_of packets = taken_from [] packets

-- the completions that a packet shows after others
abbrev pub strict_dones_by : List (List ℕ) → List ℕ → List DoneKey
strict_dones_by past packet = map done_key (dones_over (taken_of past) (taken_by past packet))

-- what is heard of packets, and what is shown of it
abbrev pub strict_view : List (List ℕ) → View
strict_view packets = view_over packets (taken_of packets)

abbrev pub strict_guide_of : List (List ℕ) → Heard
strict_guide_of packets = guide_over packets (taken_of packets)
