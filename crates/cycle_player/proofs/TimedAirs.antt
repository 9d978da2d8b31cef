-- What a player at a bit rate sends is an air that keeps time.
use Rattle.std.proofs.Common.{ℕ, ◌<◌, List, [], ◌∷◌, ◌++◌, subst}
use Rattle.si_lists.proofs.Lists.{all_at}
use Rattle.air_model.specs.Air.{Aired}
use Rattle.cycle_timing.specs.Airs.{CanBeTimed, CanAllBeTimed}
use Rattle.cycle_timing.specs.Cycle.{AreTimed}
use Rattle.cycle_timing.proofs.Airs.{timed_airs_are_airs, timed_sections_are_on_air}
use Rattle.cycle_timing.proofs.Apart.{timed_airs_are_apart}
use Rattle.cycle_timing.proofs.Times.{timed_airs_tell_the_time}
use Rattle.cycle_timing.proofs.Repeats.{timed_cycles_repeat, timed_neighbours_repeat}
use Rattle.cycle_player.specs.Playing.{IsTimedAir, TimedPlayersSendAirs, CyclesBegunAreAirs}

-- cycles at a bit rate, whoever made them
pub is_timed_air : (rate : ℕ) (xs : List Aired) → 0 < rate → AreTimed rate [] xs → CanAllBeTimed xs → IsTimedAir rate xs
is_timed_air rate xs some timed can = record {
  is_air = timed_airs_are_airs rate xs timed can;
  stand = timed_sections_are_on_air rate xs timed;
  apart = timed_airs_are_apart rate xs timed;
  time = timed_airs_tell_the_time rate xs some timed can;
  again = λ before x after are right. timed_cycles_repeat rate before x after (subst (AreTimed rate []) are timed)
      (all_at (λ (y : Aired). CanBeTimed y.airing) before x after (subst CanAllBeTimed are can)) right;
  next = λ before x y after are tables form right. timed_neighbours_repeat rate before x y after (subst (AreTimed rate []) are timed) tables form
      (all_at (λ (z : Aired). CanBeTimed z.airing) before x (y ∷ after) (subst CanAllBeTimed are can)) right;
}

pub timed_players_send_airs : TimedPlayersSendAirs
timed_players_send_airs xs player some end = is_timed_air player.rate xs some end.timed end.can

pub cycles_begun_are_airs : CyclesBegunAreAirs
cycles_begun_are_airs xs x rest player some within = is_timed_air player.rate (xs ++ x ∷ []) some within.timed within.can
