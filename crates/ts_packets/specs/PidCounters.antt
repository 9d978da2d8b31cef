-- Continuity counters that are kept, from which others can go on.
use Rattle.std.specs.Prelude.{◌≡◌, ℕ, ◌+◌, ◌<◌, List, [], ◌∷◌, Option, Some, None, ◌==◌, if◌then◌else◌, map}
use Rattle.std.specs.List.{All, range_with_len}
use Rattle.std.specs.List.Sorted.{IsStrictlyIncreasing}
use Rattle.ts_packets.specs.declared.pid_counter.PidCounter.{PidCounter}
use Rattle.ts_packets.specs.Counting.{count_on, next_after}

-- a PID and its counter that can be handed in
abbrev pub IsPidCounter : PidCounter → Type 0
IsPidCounter c = (c.pid < 8192) × (c.next < 16)

-- the counter that is kept for a PID
abbrev pub counter_in : ℕ → List PidCounter → Option ℕ
counter_in pid [] = None
counter_in pid (c ∷ cs) = if c.pid == pid then Some c.next else counter_in pid cs

-- These are the counters of these packets: of each PID that had one the number of its packets, modulo 16, and of no
-- other PID.
abbrev pub AreCountersOf : List (List ℕ) → List PidCounter → Type 0
AreCountersOf past kept = (pid : ℕ) → pid < 8192 → counter_in pid kept ≡ next_after (count_on pid past)

-- a PID with its counter, if it has one, in front of others
abbrev pub with_counter_of : ℕ → Option ℕ → List PidCounter → List PidCounter
with_counter_of pid None rest = rest
with_counter_of pid (Some next) rest = record { pid = pid; next = next } ∷ rest

-- the PIDs that have a counter, in ascending order, where the first of these counters is that of the given PID
abbrev pub kept_from : ℕ → List (Option ℕ) → List PidCounter
kept_from pid [] = []
kept_from pid (c ∷ cs) = with_counter_of pid c (kept_from (1 + pid) cs)

-- the counters of these packets, in ascending order of PIDs
abbrev pub counters_of : List (List ℕ) → List PidCounter
counters_of past = kept_from 0 (map (λ (pid : ℕ). next_after (count_on pid past)) (range_with_len 0 8192))

-- What is kept of these counters: each PID that has one, in ascending order, as it can be handed in.
pub record ArePidCountersOf (counters : List (Option ℕ)) (kept : List PidCounter) : Type 0 where
  pub all : kept ≡ kept_from 0 counters
  pub ascend : IsStrictlyIncreasing (map (λ (c : PidCounter). c.pid) kept)
  pub fit : All IsPidCounter kept
