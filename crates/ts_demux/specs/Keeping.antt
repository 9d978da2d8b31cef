-- What a demux keeps of each PID, and the packets that it stands for.
use Rattle.std.specs.Prelude.{◌≡◌, ℕ, zero, suc, ◌+◌, ◌%◌, ◌<◌, List, [], ◌∷◌, ◌++◌, Bool, true, false, not, ◌&&◌, ◌||◌, ◌==◌, if◌then◌else◌, nat_le, Option, Some, None, length, drop, slice_get}
use Rattle.ts_packets.specs.Packets.{Piece}
use Rattle.ts_packets.specs.Counting.{Load}
use Rattle.ts_demux.specs.Hearing.{size_in, is_whole, goes_on}
use Rattle.ts_demux.specs.Arrivals.{Arrival, Arrival.Gap, Arrival.Came, arrivals_on, without_repeats}

-- ---- what is kept of a PID

-- counter and payload of a load
pub record Seen : Type 0 where
  pub counter : ℕ
  pub payload : List ℕ

abbrev pub seen : Load → Seen
seen l = record { counter = l.counter; payload = l.piece.payload }

-- the last load, and the first bytes of the section that is open
pub record PidState : Type 0 where
  pub last : Option Seen
  pub section : Option (List ℕ)

abbrev pub nothing : PidState
nothing = record { last = None; section = None }

-- ---- the last load

abbrev pub seen_in : Arrival → Option Seen
seen_in Gap = None
seen_in (Came l) = Some (seen l)

-- counter and payload of the last load, which a gap makes forgotten
abbrev pub last_load : List Arrival → Option Seen
last_load [] = None
last_load (x ∷ []) = seen_in x
last_load (x ∷ y ∷ xs) = last_load (y ∷ xs)

-- ---- the section that is open

-- each of these is a load, and has the counter behind that of the one before
abbrev pub is_one_stretch : List Arrival → Bool
is_one_stretch [] = true
is_one_stretch (Gap ∷ xs) = false
is_one_stretch (Came l ∷ []) = true
is_one_stretch (Came l ∷ Gap ∷ xs) = false
is_one_stretch (Came l ∷ Came m ∷ xs) = (m.counter == ((l.counter + 1) % 16)) && is_one_stretch (Came m ∷ xs)

abbrev pub pieces_of : List Arrival → List Piece
pieces_of [] = []
pieces_of (Gap ∷ xs) = pieces_of xs
pieces_of (Came l ∷ xs) = l.piece ∷ pieces_of xs

-- the stretch with which these arrivals end: the longest one; none behind a gap
abbrev pub last_stretch : List Arrival → List Piece
last_stretch [] = []
last_stretch (x ∷ xs) = if is_one_stretch (x ∷ xs) then pieces_of (x ∷ xs) else last_stretch xs

-- the header is there and tells a section_length above 4,093
abbrev pub is_long : List ℕ → Bool
is_long bytes = nat_le 3 (length bytes) && not (nat_le (size_in bytes) 4096)

-- Sections begin in these bytes of a packet, one behind the other, and later bytes follow the packet: what has come of the
-- last one, where bytes of it are still to come. n bounds their number.
abbrev pub unended : ℕ → List ℕ → List ℕ → Option (List ℕ)
unended zero here later = None
unended (suc n) [] later = None
unended (suc n) (b ∷ here) later =
    if b == 255 then None
    else if is_whole (b ∷ here ++ later) then unended n (drop (size_in (b ∷ here ++ later)) (b ∷ here)) later
    else if is_long (b ∷ here ++ later) then None
    else Some (b ∷ here ++ later)

abbrev pub unended_behind : List ℕ → List ℕ → Option (List ℕ)
unended_behind [] later = None
unended_behind (p ∷ bytes) later = if nat_le p (length bytes) then unended (length bytes) (drop p bytes) later else None

abbrev pub unended_in : Piece → List ℕ → Option (List ℕ)
unended_in p later = if p.start then unended_behind p.payload later else None

abbrev pub has_start : List Piece → Bool
has_start [] = false
has_start (p ∷ ps) = p.start || has_start ps

-- the section that is open behind a stretch: it begins in the last start packet, and the packets behind go on with it
abbrev pub open_section : List Piece → Option (List ℕ)
open_section [] = None
open_section (p ∷ ps) = if has_start ps then open_section ps else unended_in p (goes_on ps)

-- This is kept of a PID behind these arrivals.
pub record PidStateStandsFor (xs : List Arrival) (kept : PidState) : Type 0 where
  pub last : kept.last ≡ last_load xs
  pub section : kept.section ≡ open_section (last_stretch (without_repeats None xs))

-- ---- the demux

abbrev pub kept_in : Option (Option PidState) → PidState
kept_in (Some (Some kept)) = kept
kept_in (Some None) = nothing
kept_in None = nothing

-- what a demux keeps of a PID: what stands at the place of the PID, or nothing
abbrev pub kept_on : ℕ → List (Option PidState) → PidState
kept_on pid slots = kept_in (slice_get slots pid)

-- A demux stands for these packets, each by its bytes: of each PID it keeps what is kept behind them.
abbrev pub DemuxStandsFor : List (List ℕ) → List (Option PidState) → Type 0
DemuxStandsFor past slots = (pid : ℕ) → pid < 8192 → PidStateStandsFor (arrivals_on pid past) (kept_on pid slots)
