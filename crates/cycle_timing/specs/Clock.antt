-- The clock of an air at a bit rate. A packet of 188 bytes has 1,504 bits.
use Rattle.std.specs.Prelude.{ℕ, ◌+◌, ◌-◌, ◌*◌, ◌/◌, ◌%◌, if◌then◌else◌, nat_le, min}

-- a moment in seconds, and the bits that have been sent since, less than those of a second
pub record Clock : Type 0 where
  pub moment : ℕ
  pub bits : ℕ

-- the clock n packets later
abbrev pub later : ℕ → ℕ → Clock → Clock
later rate n c = record {
  moment = c.moment + (c.bits + n * 1504) / rate;
  bits = (c.bits + n * 1504) % rate;
}

-- at a swap: the later of the swap's moment and what the clock reads
abbrev pub at_swap : ℕ → Clock → Clock
at_swap moment c = if nat_le moment c.moment then c else record { moment = moment; bits = 0 }

-- the last moment that is told: its day has 16 bits (EN 300 468, annex C)
abbrev pub last_moment : ℕ
last_moment = 65536 * 86400 - 1

-- what is told in packet n of a cycle that begins with this clock
abbrev pub told_at : ℕ → Clock → ℕ → ℕ
told_at rate c n = min last_moment (later rate n c).moment
