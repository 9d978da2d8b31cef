-- The ticks of a run at a bit rate: its clock goes with the air.
use Rattle.std.specs.Prelude.{◌≡◌, ℕ, Bool, true, false, List, [], ◌∷◌, ◌++◌, map, Option, Some, None}
use Rattle.si_time.specs.declared.moment.Moment.{Moment}
use Rattle.section_codec.specs.Contents.{numbers_from}
use Rattle.mux_model.specs.declared.mux.Mux.{Mux}
use Rattle.version_book.specs.Airings.{AiredTables}
use Rattle.cycle_player.specs.Making.{tick_before, tick_then}
use Rattle.cycle_player.specs.Sending.{Sending}
use Rattle.cycle_player.specs.Ticks.{tick_at}
use Rattle.journal_model.specs.declared.step.Step.TheVariants.{Swap, Tick}
use Rattle.journal_model.specs.declared.step.Outcome.{Outcome}
use Rattle.journal_model.specs.declared.step.Entry.{Entry}
use Rattle.journal_model.specs.Steps.{Command}
use Rattle.journal_air.specs.Air.{airings}
use Rattle.desk_hall.specs.Turn.{View, Made}

-- ---- commands

-- the turn of a tick, where there is one
abbrev pub tick_by : ℕ → Option Moment → List Command
tick_by who None = []
tick_by who (Some at) = (who, Tick at) ∷ []

-- swaps, each after its tick
abbrev pub turns_by : ℕ → List (Option Moment) → List Command
turns_by who [] = []
turns_by who (tick ∷ ticks) = tick_by who tick ++ (who, Swap) ∷ turns_by who ticks

-- ---- ticks of a journal

-- The tick of swap n, counted from 0: what the clock tells after the cycles of the swaps before it.
-- There is none without a bit rate, and none while the clock stands at 0.
abbrev pub tick_of : Mux → List Entry → ℕ → Option Moment
tick_of mux journal n = tick_before mux.rate (airings mux journal) n

-- those of its first n swaps
abbrev pub ticks_of : Mux → List Entry → ℕ → List (Option Moment)
ticks_of mux journal n = map (tick_of mux journal) (numbers_from 0 n)

-- of the swaps that put these airings on air, after others
abbrev pub ticks_for : Option ℕ → List AiredTables → List AiredTables → List (Option Moment)
ticks_for rate past [] = []
ticks_for rate past (a ∷ airings) = tick_then rate past ∷ ticks_for rate (past ++ a ∷ []) airings

-- ---- ticks of a player

abbrev pub tick_if : Bool → Option Moment → Option Moment
tick_if false tick = None
tick_if true tick = tick

-- what the player's clock tells, where its swaps have ticks
abbrev pub tick_now : Bool → Sending → Option Moment
tick_now ticking player = tick_if ticking (tick_at player.rate player.clock)

-- the turn of a tick was made, where there is one
abbrev pub Ticked : Option Moment → View → View → Type 0
Ticked None v w = w ≡ v
Ticked (Some at) v w = (outcome : Outcome) × Made (Tick at) outcome v w
