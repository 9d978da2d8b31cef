-- Which section of a Fast sub-table stands in which lead. A sub-table with more than four sections
-- has the next one in each lead; one with four or fewer has the next one in each `often`-th lead,
-- so that it is sent as often as half a second asks.
use Rattle.std.specs.Prelude.{◌≡◌, ℕ, ◌+◌, ◌-◌, ◌*◌, ◌/◌, ◌%◌, ◌<◌, ◌≤◌, ◌==◌, if◌then◌else◌, max, nat_lt, Option, None, Some}

-- of sub-tables of which the largest has n sections: in each so many leads those with four or fewer
-- have a turn,
abbrev pub often_of : ℕ → ℕ
often_of n = max 1 (n / 4)

-- and so many leads are a round: n, rounded up to a multiple
abbrev pub round_of : ℕ → ℕ
round_of n = (n + often_of n - 1) / often_of n * often_of n

-- the section of a sub-table with m sections in lead i of a round, where it is the q-th Fast
-- sub-table
abbrev pub turn_of : ℕ → ℕ → ℕ → ℕ → Option ℕ
turn_of often q i m =
    if nat_lt 4 m then Some (i % m)
    else if i % often == q % often then Some (i / often % m)
    else None

-- ---- laws

-- Each section has a turn in a round.
pub record HasTurn (n q m k : ℕ) : Type 0 where
  pub lead : ℕ
  pub in_round : lead < round_of n
  pub turn : turn_of (often_of n) q lead m ≡ Some k

abbrev pub EachHasTurn : Type 0
EachHasTurn = (n q m k : ℕ) → m ≤ n → k < m → HasTurn n q m k
