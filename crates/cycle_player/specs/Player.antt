-- What a player is.
use Rattle.std.specs.Prelude.{ℕ, ◌≤◌, Option, Some, None}
use Rattle.cycle_timing.specs.Clock.{Clock}
use Rattle.cycle_player.specs.Tally.{Tallied}
use Rattle.cycle_player.specs.Sending.{Sending}
use Rattle.cycle_player.specs.declared.player.Kind.{Kind}
use Rattle.cycle_player.specs.declared.player.Kind.TheVariants.{Dense, Timed}
use Rattle.cycle_player.specs.declared.player.CyclePlayer.TheInside.{Inside}

-- no bit rate, or one of 100,000 to 100,000,000 bits per second
abbrev pub CanBeRate : Option ℕ → Type 0
CanBeRate None = Unit {0}
CanBeRate (Some rate) = (100000 ≤ rate) × (rate ≤ 100000000)

abbrev no_clock : Clock
no_clock = record { moment = 0; bits = 0 }

abbrev pub sending_by : Tallied → Kind → Sending
sending_by tally (Dense p) = record {
  book = p.book;
  counters = p.counters;
  left = p.left;
  form = p.form;
  rate = None;
  clock = no_clock;
  tally = tally;
}
sending_by tally (Timed quota p) = record {
  book = p.book;
  counters = p.counters;
  left = p.left;
  form = record { quota = quota; offsets = p.offsets };
  rate = Some p.rate;
  clock = p.clock;
  tally = tally;
}

abbrev pub sending_of : Inside → Sending
sending_of i = sending_by i.tally i.kind
