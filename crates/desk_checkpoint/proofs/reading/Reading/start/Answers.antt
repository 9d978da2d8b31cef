use Rattle.std.proofs.Common.{ℕ}
use Rattle.std.specs.Prelude.{Option, Some, None}
use Rattle.mux_model.specs.Sound.{HasSoundRate}
use Rattle.cycle_player.specs.Player.{CanBeRate}
use Rattle.desk_checkpoint.proofs.reading.Reading.start.Goals as goal

can_be : (rate : Option ℕ) → HasSoundRate rate → CanBeRate rate
can_be None sound = tt
can_be (Some rate) sound = sound

pub resume-requires-clause-rate : goal.resume-requires-clause-rate
resume-requires-clause-rate c = can_be c.mux.result.now.rate c.mux.ensures.sound.rate
