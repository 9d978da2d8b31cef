-- Continuity counters: on each PID 0, 1, .. modulo 16, from its first packet on (ISO/IEC 13818-1, 2.4.3.3).
use Rattle.std.specs.Prelude.{◌≡◌, ℕ, zero, suc, ◌+◌, ◌%◌, ◌<◌, List, [], ◌∷◌, Option, Some, None, ◌==◌, if◌then◌else◌, slice_index_or, length, count_by, filter_map, All, IfSome}
use Rattle.ts_packets.specs.Packets.{Piece}
use Rattle.ts_packets.specs.Bytes.{Packet, pid_in}

-- how many of these packets, each by its bytes, are of a PID
abbrev pub count_on : ℕ → List (List ℕ) → ℕ
count_on pid past = count_by (λ (bytes : List ℕ). pid_in bytes == pid) past

-- the next counter of a PID that had so many packets, if it had any
abbrev pub next_after : ℕ → Option ℕ
next_after zero = None
next_after (suc n) = Some (suc n % 16)

-- These counters stand for these packets, all that were stamped: each PID that had a packet has its next counter, and no other PID has one.
pub record StandFor (past : List (List ℕ)) (counters : List (Option ℕ)) : Type 0 where
  pub next : (pid : ℕ) → pid < 8192 → slice_index_or counters pid None ≡ next_after (count_on pid past)

-- the counters of all PIDs: each has four bits
pub record AreNext (counters : List (Option ℕ)) : Type 0 where
  pub size : length counters ≡ 8192
  pub small : All (λ (next : Option ℕ). IfSome next (λ n. n < 16)) counters

-- the counter and the piece of a packet of a PID
pub record Load : Type 0 where
  pub counter : ℕ
  pub piece : Piece

abbrev pub load_on : ℕ → Packet → Option Load
load_on pid p = if p.pid == pid then Some (record { counter = p.counter; piece = p.piece }) else None

abbrev pub loads_on : ℕ → List Packet → List Load
loads_on pid ps = filter_map (load_on pid) ps

abbrev pub piece_on : ℕ → Packet → Option Piece
piece_on pid p = if p.pid == pid then Some p.piece else None

-- the packets of one PID, in their order
abbrev pub of_pid : ℕ → List Packet → List Piece
of_pid pid ps = filter_map (piece_on pid) ps

-- the counters of one PID's packets are n, n + 1, .. modulo 16
abbrev pub Count : ℕ → List Load → Type 0
Count n [] = Unit {0}
Count n (l ∷ ls) = (l.counter ≡ n % 16) × Count (1 + n) ls
