-- What a receiver counts of the packets of one PID: repeats, gaps and stretches (ISO/IEC 13818-1, 2.4.3.3).
use Rattle.std.specs.Prelude.{ℕ, ◌+◌, ◌%◌, List, [], ◌∷◌, Bool, ◌&&◌, ◌==◌, if◌then◌else◌, Option, Some, None, Result, Ok, Err, bytes_eq, drop, flat_map, filter_map}
use Rattle.ts_packets.specs.declared.shape.Shape.{Shape}
use Rattle.ts_packets.specs.declared.shape.Shape.TheVariants as shape
use Rattle.ts_packets.specs.declared.shape.BadPacket.{BadPacket}
use Rattle.ts_packets.specs.Packets.{Piece}
use Rattle.ts_packets.specs.Counting.{Load}
use Rattle.ts_packets.specs.Bytes.{shape_in}
use Rattle.ts_demux.specs.Hearing.{heard}

-- what of a packet matters on its PID: that it can't be used, or its counter, start indicator and payload
pub data Arrival : Type 0 where
  Gap : Arrival
  Came : (load : Load) → Arrival

-- the load of a packet whose payload begins at a place
abbrev pub load_in : Bool → ℕ → ℕ → List ℕ → Load
load_in start counter at bytes = record { counter = counter; piece = record { start = start; payload = drop at bytes } }

-- what a packet is on a PID; a packet without payload, and one of another PID, is nothing
abbrev pub arrival_by : ℕ → List ℕ → Result Shape BadPacket → Option Arrival
arrival_by pid bytes (Err e) = None
arrival_by pid bytes (Ok shape.Pass) = None
arrival_by pid bytes (Ok (shape.Gap on)) = if on == pid then Some Gap else None
arrival_by pid bytes (Ok (shape.Load on start counter at)) = if on == pid then Some (Came (load_in start counter at bytes)) else None

abbrev pub arrival_on : ℕ → List ℕ → Option Arrival
arrival_on pid bytes = arrival_by pid bytes (shape_in bytes)

-- what of these packets, each by its bytes, matters on a PID
abbrev pub arrivals_on : ℕ → List (List ℕ) → List Arrival
arrivals_on pid packets = filter_map (arrival_on pid) packets

-- counter and payload are those of the last load; other fields are not compared
abbrev pub is_repeat : Load → Load → Bool
is_repeat last l = (last.counter == l.counter) && bytes_eq last.piece.payload l.piece.payload

-- the arrivals without the repeats of the last load, which a gap makes forgotten
abbrev pub without_repeats : Option Load → List Arrival → List Arrival
without_repeats last [] = []
without_repeats last (Gap ∷ xs) = Gap ∷ without_repeats None xs
without_repeats None (Came l ∷ xs) = Came l ∷ without_repeats (Some l) xs
without_repeats (Some last) (Came l ∷ xs) = if is_repeat last l then without_repeats (Some last) xs else Came l ∷ without_repeats (Some l) xs

-- a load before arrivals that make these stretches: it goes into the first of them where the first arrival follows it
abbrev pub before_stretches : Load → List Arrival → List (List Piece) → List (List Piece)
before_stretches l [] stretches = (l.piece ∷ []) ∷ stretches
before_stretches l (Gap ∷ xs) stretches = (l.piece ∷ []) ∷ stretches
before_stretches l (Came m ∷ xs) [] = (l.piece ∷ []) ∷ []
before_stretches l (Came m ∷ xs) (s ∷ stretches) = if m.counter == ((l.counter + 1) % 16) then (l.piece ∷ s) ∷ stretches else (l.piece ∷ []) ∷ s ∷ stretches

-- the longest lists of loads in which each has the counter behind that of the one before, with no gap between
abbrev pub stretches : List Arrival → List (List Piece)
stretches [] = []
stretches (Gap ∷ xs) = stretches xs
stretches (Came l ∷ xs) = before_stretches l xs (stretches xs)

-- the sections heard of a PID's arrivals: those of each stretch of what is no repeat
abbrev pub heard_of : List Arrival → List (List ℕ)
heard_of xs = flat_map heard (stretches (without_repeats None xs))
