-- The clock that is kept of an air can be written, where its moment can.
use Rattle.std.proofs.Common.{ℕ, ◌<◌, ◌+◌, ◌*◌, ◌^◌, List, [], ◌∷◌, length, ap, subst, sym, arith}
use Rattle.std.specs.Prelude.{Option, Some, None}
use Rattle.std.proofs.lemmas.Nat.{mod_below}
use Rattle.version_book.specs.declared.key_version.KeyVersion.{KeyVersion}
use Rattle.ts_packets.specs.declared.pid_counter.PidCounter.{PidCounter}
use Rattle.mux_model.specs.Sound.{HasSoundRate}
use Rattle.air_model.specs.Air.{Aired}
use Rattle.cycle_timing.specs.Clock.{Clock, at_swap, later}
use Rattle.cycle_timing.specs.Cycle.{clock_after}
use Rattle.cycle_player.specs.declared.clock.Clock.{Clock as KeptClock}
use Rattle.cycle_player.specs.Sending.{AreKeptAt}
use Rattle.desk_checkpoint.specs.Laws.{IsClockWritten}
use Rattle.epg_play.specs.NeverRefused.{HasShortMoment}

-- the bits are less than those of a second
bits_below : (rate : ℕ) (c : Clock) (xs : List Aired) → 0 < rate → c.bits < rate
    → (clock_after rate c xs).bits < rate
bits_below rate c [] some less = less
bits_below rate c (x ∷ xs) some less =
    let at = at_swap x.airing.moment c in
    bits_below rate (later rate (length x.packets) at) xs some
    (mod_below (at.bits + length x.packets * 1504) rate some)

pub clock_written : (rate : Option ℕ) (xs : List Aired) (keys : List KeyVersion)
    (pids : List PidCounter) (clock : KeptClock) → HasSoundRate rate
    → AreKeptAt rate xs keys pids clock → HasShortMoment rate xs → IsClockWritten rate clock
clock_written None xs keys pids clock sound kept short = tt
clock_written (Some rate) xs keys pids clock sound kept short =
    let some : 0 < rate = omega (arith, sound.0) in
    let start : Clock = record { moment = 0; bits = 0 } in
    let bits : (clock_after rate start xs).bits < rate = bits_below rate start xs some some in
    record {
      moment = subst (λ (m : ℕ). m < 10 ^ 18) (sym (ap (λ (c : Clock). c.moment) kept.clock_is)) short;
      bits = omega (arith, ap (λ (c : Clock). c.bits) kept.clock_is, bits, sound.1);
    }
