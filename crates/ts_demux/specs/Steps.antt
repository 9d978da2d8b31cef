-- One packet more: what it ends, and what is to be kept behind it.
use Rattle.std.specs.Prelude.{◌≡◌, ℕ, zero, suc, ◌+◌, ◌%◌, List, [], ◌∷◌, ◌++◌, Bool, false, ◌&&◌, ◌==◌, if◌then◌else◌, nat_le, Option, Some, None, length, take, drop, bytes_eq}
use Rattle.ts_packets.specs.Packets.{Piece}
use Rattle.ts_packets.specs.Counting.{Load}
use Rattle.ts_demux.specs.Hearing.{size_in, is_whole, begun}
use Rattle.ts_demux.specs.Arrivals.{Arrival, Arrival.Gap, Arrival.Came}
use Rattle.ts_demux.specs.Keeping.{Seen, seen, PidState, nothing, is_long}

-- this counter and payload are those of the last load
abbrev pub is_again_at : Option Seen → ℕ → List ℕ → Bool
is_again_at None counter payload = false
is_again_at (Some last) counter payload = (last.counter == counter) && bytes_eq last.payload payload

-- this counter follows that of the last load
abbrev pub is_next_at : Option Seen → ℕ → Bool
is_next_at None counter = false
is_next_at (Some last) counter = counter == ((last.counter + 1) % 16)

abbrev pub is_again : Option Seen → Load → Bool
is_again last l = is_again_at last l.counter l.piece.payload

abbrev pub is_next : Option Seen → Load → Bool
is_next last l = is_next_at last l.counter

-- what stays open of bytes that are no whole section
abbrev pub kept_open : List ℕ → Option (List ℕ)
kept_open bytes = if is_long bytes then None else Some bytes

-- the section that begins in these bytes of a packet and is open behind it; n bounds the number of sections
abbrev pub left_open : ℕ → List ℕ → Option (List ℕ)
left_open zero here = None
left_open (suc n) [] = None
left_open (suc n) (b ∷ here) = if b == 255 then None else if is_whole (b ∷ here) then left_open n (drop (size_in (b ∷ here)) (b ∷ here)) else kept_open (b ∷ here)

abbrev pub open_from_start : List ℕ → Option (List ℕ)
open_from_start [] = None
open_from_start (p ∷ bytes) = if nat_le p (length bytes) then left_open (length bytes) (drop p bytes) else None

abbrev pub open_further : Option (List ℕ) → List ℕ → Option (List ℕ)
open_further None payload = None
open_further (Some bytes) payload = if is_whole (bytes ++ payload) then None else kept_open (bytes ++ payload)

-- the section that is open behind a packet, where this one is open before it
abbrev pub open_behind : Option (List ℕ) → Piece → Option (List ℕ)
open_behind o p = if p.start then open_from_start p.payload else open_further o p.payload

-- the section that these bytes begin with, where it is whole
abbrev pub finished : List ℕ → List (List ℕ)
finished bytes = if is_whole bytes then take (size_in bytes) bytes ∷ [] else []

abbrev pub finished_with : Option (List ℕ) → List ℕ → List (List ℕ)
finished_with None later = []
finished_with (Some bytes) later = finished (bytes ++ later)

abbrev pub given_from_start : Option (List ℕ) → List ℕ → List (List ℕ)
given_from_start o [] = []
given_from_start o (p ∷ bytes) = if nat_le p (length bytes) then finished_with o (take p bytes) ++ begun (length bytes) (drop p bytes) [] else []

-- the sections that a packet ends, where this one is open before it
abbrev pub given_by : Option (List ℕ) → Piece → List (List ℕ)
given_by o p = if p.start then given_from_start o p.payload else finished_with o p.payload

-- what is open is neither whole nor too long
abbrev pub IsOpen : Option (List ℕ) → Type 0
IsOpen None = Unit {0}
IsOpen (Some bytes) = (is_whole bytes ≡ false) × (is_long bytes ≡ false)

-- what stays open before a load: nothing where it does not follow
abbrev pub still_open : Bool → Option (List ℕ) → Option (List ℕ)
still_open follows o = if follows then o else None

abbrev pub kept_after : PidState → Arrival → PidState
kept_after kept Gap = nothing
kept_after kept (Came l) =
    if is_again kept.last l then kept else record { last = Some (seen l); section = open_behind (still_open (is_next kept.last l) kept.section) l.piece }

-- the sections that an arrival ends
abbrev pub given_after : PidState → Arrival → List (List ℕ)
given_after kept Gap = []
given_after kept (Came l) = if is_again kept.last l then [] else given_by (still_open (is_next kept.last l) kept.section) l.piece

-- what is kept of a PID behind these arrivals
abbrev pub kept_behind : PidState → List Arrival → PidState
kept_behind kept [] = kept
kept_behind kept (x ∷ xs) = kept_behind (kept_after kept x) xs
