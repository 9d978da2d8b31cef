-- Airs at a bit rate or without one: how they grow, and that they are airs to receivers.
use Rattle.std.proofs.Common.{◌≡◌, ℕ, List, [], ◌∷◌, ◌++◌, Option, Some, None, sym, subst, append_assoc, append-nil}
use Rattle.version_book.specs.Airings.{AiredTables}
use Rattle.air_model.specs.Air.{Aired, airings_of}
use Rattle.air_model.specs.Making.{AreMade}
use Rattle.air_model.specs.Repeating.{IsRepeatingAirOf}
use Rattle.air_model.proofs.Airs.{AreMade-push}
use Rattle.air_model.proofs.Repeating.{airs_repeat}
use Rattle.cycle_timing.specs.Cycle.{AreTimed}
use Rattle.cycle_timing.proofs.Growing.{timed_push}
use Rattle.cycle_player.specs.Airs.{cycle_at, AreMadeAt, IsAirAt}

-- cycles, and one more
pub made_push : (rate : Option ℕ) (before xs : List Aired) (x : Aired) → AreMadeAt rate before xs
    → x.packets ≡ cycle_at rate (before ++ xs) x.airing → AreMadeAt rate before (xs ++ x ∷ [])
made_push None before xs x made next = AreMade-push before xs x made next
made_push (Some rate) before xs x made next = timed_push rate before xs x made next

dense_join : (before earlier cycles : List Aired) → AreMade before earlier → AreMade (before ++ earlier) cycles → AreMade before (earlier ++ cycles)
dense_join before [] cycles first more = subst (λ (l : List Aired). AreMade l cycles) (append-nil before) more
dense_join before (x ∷ earlier) cycles first more =
    (first.0, dense_join (before ++ x ∷ []) earlier cycles first.1 (subst (λ (l : List Aired). AreMade l cycles) (sym (append_assoc before (x ∷ []) earlier)) more))

timed_join : (rate : ℕ) (before earlier cycles : List Aired) → AreTimed rate before earlier → AreTimed rate (before ++ earlier) cycles → AreTimed rate before (earlier ++ cycles)
timed_join rate before [] cycles first more = subst (λ (l : List Aired). AreTimed rate l cycles) (append-nil before) more
timed_join rate before (x ∷ earlier) cycles first more =
    (first.0, timed_join rate (before ++ x ∷ []) earlier cycles first.1 (subst (λ (l : List Aired). AreTimed rate l cycles) (sym (append_assoc before (x ∷ []) earlier)) more))

-- cycles, and others after them
pub made_join : (rate : Option ℕ) (before earlier cycles : List Aired) → AreMadeAt rate before earlier
    → AreMadeAt rate (before ++ earlier) cycles → AreMadeAt rate before (earlier ++ cycles)
made_join None before earlier cycles first more = dense_join before earlier cycles first more
made_join (Some rate) before earlier cycles first more = timed_join rate before earlier cycles first more

-- an air is one that repeats sections as it likes
pub air_repeats : (rate : Option ℕ) (airings : List AiredTables) (xs : List Aired) → IsAirAt rate airings xs → IsRepeatingAirOf airings xs
air_repeats None airings xs is = airs_repeat airings xs is
air_repeats (Some rate) airings xs is = is

pub airings_are : (rate : Option ℕ) (airings : List AiredTables) (xs : List Aired) → IsAirAt rate airings xs → airings_of xs ≡ airings
airings_are rate airings xs is = (air_repeats rate airings xs is).airings_are

-- it is an air of its own airings
pub own_airings : (rate : Option ℕ) (airings : List AiredTables) (xs : List Aired) → IsAirAt rate airings xs → IsAirAt rate (airings_of xs) xs
own_airings rate airings xs is = subst (λ (l : List AiredTables). IsAirAt rate l xs) (sym (airings_are rate airings xs is)) is
