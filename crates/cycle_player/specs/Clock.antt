-- The clock that a player keeps, which has 64 bits for its seconds.
use Rattle.std.specs.Prelude.{min}
use Rattle.cycle_timing.specs.Clock.{Clock}
use Rattle.cycle_player.specs.declared.clock.Clock.{Clock as Kept}

-- as the clock of an air
abbrev pub reads : Kept → Clock
reads c = record { moment = c.moment; bits = c.bits }

-- No clock goes past the largest number of 64 bits. A moment that is told is far less.
abbrev pub capped : Clock → Clock
capped c = record { moment = min 18446744073709551615 c.moment; bits = c.bits }
