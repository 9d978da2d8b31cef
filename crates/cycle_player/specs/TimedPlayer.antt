-- What a player keeps.
use Rattle.std.specs.Prelude.{◌<◌}
use Rattle.air_model.specs.Air.{CanBeTold}
use Rattle.cycle_player.specs.Clock.{reads}
use Rattle.cycle_player.specs.Playing.{TimedPlaying}
use Rattle.cycle_player.specs.declared.timed_player.TimedPlayer.TheInside.{Inside}

abbrev pub playing_of : Inside → TimedPlaying
playing_of p = record {
  book = p.book;
  counters = p.counters;
  left = p.cycle;
  offsets = p.offsets;
  rate = p.rate;
  clock = reads p.clock;
}

pub record IsPlayer (p : Inside) : Type 0 where
  pub offsets : CanBeTold p.offsets
  pub rate : 0 < p.rate
