-- Cycles that are made are those of their airings, and the clock after them tells what theirs tells.
use Rattle.std.proofs.Common.{◌≡◌, ℕ, ◌*◌, ◌-◌, ◌==◌, min, Bool, true, false, List, [], ◌∷◌, ◌++◌, Option, Some, None, if◌then◌else◌, refl, sym, ap, ◌∙◌, arith, eq-eqb, ne_eqb}
use native.Mathlib.Decide.{ℕ_discrete}
use mathlib.Core.Logic.{dite}
use Rattle.si_time.specs.declared.moment.Moment.{Moment}
use Rattle.ts_packets.specs.Bytes.{Packet}
use Rattle.version_book.specs.Airings.{AiredTables}
use Rattle.air_model.specs.Air.{Aired, airings_of}
use Rattle.air_model.specs.Making.{AreMade}
use Rattle.cycle_timing.specs.Clock.{Clock}
use Rattle.cycle_timing.specs.Cycle.{AreTimed, clock_after}
use Rattle.cycle_player.specs.Clock.{capped}
use Rattle.cycle_player.specs.Airs.{AreMadeAt}
use Rattle.cycle_player.specs.Sending.{Sending, AtEndAt, AtEnd}
use Rattle.cycle_player.specs.Ticks.{told_by, tick_at}
use Rattle.cycle_player.specs.Making.{AirIsMadeAgain, IsToldTick, cycle_of, cycles_from, tick_after, tick_then}

-- ---- cycles

-- a cycle with these packets, and the others after it
one_made : (rate : Option ℕ) (before : List Aired) (x : Aired) (xs : List Aired) → x.packets ≡ (cycle_of rate before x.airing).packets
    → xs ≡ cycles_from rate (before ++ x ∷ []) (airings_of xs) → x ∷ xs ≡ cycles_from rate before (airings_of (x ∷ xs))
one_made rate before x xs is rest =
    let same : x ≡ cycle_of rate before x.airing = ap (λ (ps : List Packet). let y : Aired = record { airing = x.airing; packets = ps } in y) is in
    ap (λ (l : List Aired). x ∷ l) rest ∙ ap (λ (y : Aired). y ∷ cycles_from rate (before ++ y ∷ []) (airings_of xs)) same

dense_made : (before xs : List Aired) → AreMade before xs → xs ≡ cycles_from None before (airings_of xs)
dense_made before [] made = refl
dense_made before (x ∷ xs) made = one_made None before x xs made.0 (dense_made (before ++ x ∷ []) xs made.1)

timed_made : (rate : ℕ) (before xs : List Aired) → AreTimed rate before xs → xs ≡ cycles_from (Some rate) before (airings_of xs)
timed_made rate before [] made = refl
timed_made rate before (x ∷ xs) made = one_made (Some rate) before x xs made.0 (timed_made rate (before ++ x ∷ []) xs made.1)

-- cycles that are made after others are those of their airings
pub made_are : (rate : Option ℕ) (before xs : List Aired) → AreMadeAt rate before xs → xs ≡ cycles_from rate before (airings_of xs)
made_are None before xs made = dense_made before xs made
made_are (Some rate) before xs made = timed_made rate before xs made

pub made_again : AirIsMadeAgain
made_again = λ rate xs made. made_are rate [] xs made

-- ---- the clock

abbrev last : ℕ
last = 65536 * 86400 - 1

told : ℕ → Bool → Option Moment
told m b = if b then None else Some (record { 0 = min m last })

-- a clock tells what one of 64 bits tells
told_same : (c : Clock) → told_by (capped c) ≡ told_by c
unfolding told
told_same c = dite (ℕ_discrete c.moment 0)
    (λ is. ap (told (capped c).moment) (eq-eqb (capped c).moment 0 (omega (arith, is))) ∙ sym (ap (told c.moment) (eq-eqb c.moment 0 is)))
    (λ ne. ap (told (capped c).moment) (ne_eqb (capped c).moment 0 (λ e. ne (omega (arith, e))))
    ∙ ap (λ (m : ℕ). let at : Option Moment = Some (record { 0 = m }) in at) (let same : min (min 18446744073709551615 c.moment) last ≡ min c.moment last = omega arith in same)
    ∙ sym (ap (told c.moment) (ne_eqb c.moment 0 ne)))

told_at_end : (rate : Option ℕ) (xs : List Aired) (s : Sending) → AtEndAt rate xs s → tick_at rate s.clock ≡ tick_after rate xs
told_at_end None xs s end = refl
told_at_end (Some rate) xs s end = ap told_by end.clock ∙ told_same (clock_after rate (record { moment = 0; bits = 0 }) xs)

-- a player at the end of cycles that are made tells what the clock of their airings tells
pub end_tells : (rate : Option ℕ) (xs : List Aired) (s : Sending) → s.rate ≡ rate → AtEnd xs s → AreMadeAt rate [] xs → tick_at s.rate s.clock ≡ tick_then rate (airings_of xs)
end_tells rate xs s is end made =
    told_at_end s.rate xs s end ∙ ap (λ (r : Option ℕ). tick_after r xs) is ∙ ap (tick_after rate) (made_are rate [] xs made)

-- ---- a tick is told by 16 bits of days

told_within : (c : Clock) → IsToldTick (told_by c)
told_within c = go (c.moment == 0)
  where
    go : (b : Bool) → IsToldTick (if b then None else Some (record { 0 = min c.moment last }))
    go true = tt
    go false = omega arith

pub tick_within : (rate : Option ℕ) (c : Clock) → IsToldTick (tick_at rate c)
tick_within None c = tt
tick_within (Some rate) c = told_within c

pub then_within : (rate : Option ℕ) (airings : List AiredTables) → IsToldTick (tick_then rate airings)
then_within None airings = tt
then_within (Some rate) airings = told_within (clock_after rate (record { moment = 0; bits = 0 }) (cycles_from (Some rate) [] airings))
