-- The moment that a clock at a bit rate tells.
use Rattle.std.specs.Prelude.{ℕ, ◌*◌, ◌-◌, ◌==◌, Option, Some, None, min, if◌then◌else◌}
use Rattle.si_time.specs.declared.moment.Moment.{Moment}
use Rattle.cycle_timing.specs.Clock.{Clock}

-- none while it stands at 0; no day has more than 16 bits
abbrev pub told_by : Clock → Option Moment
told_by c = if c.moment == 0 then None else Some (record { 0 = min c.moment (65536 * 86400 - 1) })

-- none without a bit rate
abbrev pub tick_at : Option ℕ → Clock → Option Moment
tick_at None c = None
tick_at (Some rate) c = told_by c
