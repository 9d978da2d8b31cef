-- Breaks: where a receiver knows that packets of a PID were lost (ISO/IEC 13818-1, 2.4.3.3).
use Rattle.std.specs.Prelude.{ℕ, List, [], ◌∷◌, Bool, true, false, not, ◌&&◌, ◌||◌, if◌then◌else◌, Option, Some, None}
use Rattle.ts_packets.specs.Bytes.{pid_in}
use Rattle.ts_packets.specs.Counting.{Load}
use Rattle.ts_demux.specs.Arrivals.{Arrival, Arrival.Gap, Arrival.Came, arrival_on, arrivals_on}
use Rattle.ts_demux.specs.Keeping.{Seen, seen, last_load}
use Rattle.ts_demux.specs.Steps.{is_again, is_next}

-- what came last on a PID: nothing yet, a gap, or a load
pub data Before : Type 0 where
  Never : Before
  AtGap : Before
  Had : (last : Seen) → Before

abbrev pub seen_before : Arrival → Before
seen_before Gap = AtGap
seen_before (Came l) = Had (seen l)

-- what came last of these arrivals, or before them where there are none
abbrev pub before_all : Before → List Arrival → Before
before_all before [] = before
before_all before (x ∷ xs) = before_all (seen_before x) xs

-- A break is a gap, the first load after a gap, or a load that has not the next counter after the last load
-- and does not repeat it.
abbrev pub is_break : Before → Arrival → Bool
is_break before Gap = true
is_break Never (Came l) = false
is_break AtGap (Came l) = true
is_break (Had last) (Came l) = not (is_next (Some last) l) && not (is_again (Some last) l)

abbrev pub onto_first : Arrival → List (List Arrival) → List (List Arrival)
onto_first x [] = (x ∷ []) ∷ []
onto_first x (part ∷ parts) = (x ∷ part) ∷ parts

-- the arrivals of a PID, cut before each break; the first part is what goes on with what came before
abbrev pub parts : Before → List Arrival → List (List Arrival)
parts before [] = [] ∷ []
parts before (x ∷ xs) =
    if is_break before x then [] ∷ onto_first x (parts (seen_before x) xs) else onto_first x (parts (seen_before x) xs)

-- ---- what a receiver has to keep for it

-- the last arrival is a gap
abbrev pub ends_in_gap : List Arrival → Bool
ends_in_gap [] = false
ends_in_gap (Gap ∷ []) = true
ends_in_gap (Came l ∷ []) = false
ends_in_gap (x ∷ y ∷ xs) = ends_in_gap (y ∷ xs)

-- what came last, by the last load that a demux keeps and a flag for a gap
abbrev pub before_by : Option Seen → Bool → Before
before_by (Some last) gap = Had last
before_by None true = AtGap
before_by None false = Never

-- a load goes on with the last load: it has the next counter, or repeats it; None where there is no last load
abbrev pub goes_on_with : Option Seen → Load → Option Bool
goes_on_with None l = None
goes_on_with (Some last) l = Some (is_next (Some last) l || is_again (Some last) l)

-- only a load goes on with a load
abbrev pub follows_by : Option Seen → Option Arrival → Option Bool
follows_by last None = None
follows_by last (Some Gap) = None
follows_by last (Some (Came l)) = goes_on_with last l

-- whether a packet goes on with the last load of its PID among these packets
abbrev pub follows_in : List (List ℕ) → List ℕ → Option Bool
follows_in packets packet = follows_by (last_load (arrivals_on (pid_in packet) packets)) (arrival_on (pid_in packet) packet)

-- ---- packets

-- what came last on a PID of these packets, each by its bytes
abbrev pub came_before : ℕ → List (List ℕ) → Before
came_before pid past = before_all Never (arrivals_on pid past)

-- what is neither a load nor a gap on a PID is no break there
abbrev pub breaks : Before → Option Arrival → Bool
breaks before None = false
breaks before (Some x) = is_break before x

-- a packet is a break on its PID, after these packets
abbrev pub is_lost : List (List ℕ) → List ℕ → Bool
is_lost past packet = breaks (came_before (pid_in packet) past) (arrival_on (pid_in packet) packet)
