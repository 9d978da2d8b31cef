-- What a player puts on air while other callers go on.
use Rattle.std.specs.Prelude.{◌≡◌, ◌⊎◌, ℕ, suc, ◌+◌, ◌<◌, ◌≤◌, Bool, true, false, None, List, [], ◌∷◌, ◌++◌, length, take, replicate, Option, Ok, Err, Result}
use Rattle.std.specs.List.{AllByRecursion}
use Rattle.std.specs.Io.KnownBytes.{Appends}
use mathlib.Core.List.{IsPrefix}
use Rattle.si_time.specs.declared.moment.Moment.{Moment}
use Rattle.mux_model.specs.declared.mux.Mux.{Mux}
use Rattle.version_book.specs.Airings.{AiredTables}
use Rattle.air_model.specs.Air.{Aired, airings_of, air_bytes}
use Rattle.cycle_player.specs.Airs.{AreMadeAt, IsAirAt}
use Rattle.cycle_player.specs.Making.{tick_then}
use Rattle.cycle_player.specs.Sending.{Sending, AtEnd}
use Rattle.cycle_player.specs.Tallies.{tally_of}
use Rattle.journal_model.specs.declared.step.Step.TheVariants.{Swap}
use Rattle.journal_model.specs.declared.step.Outcome.TheVariants.{Swapped}
use Rattle.desk_core.specs.declared.airing.Airing.{Airing}
use Rattle.journal_model.specs.declared.step.Entry.{Entry}
use Rattle.journal_model.specs.Steps.{Command}
use Rattle.desk_core.specs.Desks.{on_air_of}
use Rattle.journal_air.specs.declared.send.SendStop.{SendStop}
use Rattle.journal_air.specs.declared.send.SendStop.TheVariants.{Air, Memory}
use Rattle.journal_air.specs.Air.{airings_by, mux_form}
use Rattle.journal_air.specs.OnAir.{cycle_bytes, SentCycle, IsPlayerOf, airing_by}
use Rattle.journal_air.specs.Tallied.{CountedCycle}
use Rattle.desk_hall.specs.Turn.{View, desk_with, Made, Idle, Did}
use Rattle.headend_jobs.specs.Ticking.{Ticked, tick_by, ticks_for, turns_by}

-- a publication that is on air, in a cycle of the multiplex's form
abbrev pub airing_with_tables : Mux → Airing → AiredTables
airing_with_tables mux airing = airing_by mux (mux_form mux) airing

-- These airings are those that the entries put on air, in each journal that begins with what was seen.
abbrev pub ArePutOnAir : Mux → List Entry → List Entry → List AiredTables → Type 0
ArePutOnAir mux seen entries airings = (journal : List Entry) → IsPrefix seen journal → airings ≡ airings_by mux journal entries

-- The player of the multiplex has sent a whole cycle for each airing of these entries, and no
-- others, and has counted them. The air took them, from `before` to `now`.
pub record HasPlayedTo (mux : Mux) (seen entries : List Entry) (player : Sending)
    (before now : Option (List ℕ)) : Type 0 where
  pub cycles : List Aired
  pub at_end : AtEnd cycles player
  pub airings_are : ArePutOnAir mux seen entries (airings_of cycles)
  pub made : AreMadeAt mux.rate [] cycles
  pub player_of : IsPlayerOf mux player
  pub tally : player.tally ≡ tally_of mux.rate (airings_of cycles)
  pub bytes : Appends before now (air_bytes cycles)

-- The air took whole cycles for all airings of these entries but the last, and a proper front of
-- the cycle of the last. The player has counted them, the last too.
pub record HasPlayedFront (mux : Mux) (seen entries : List Entry) (player : Sending)
    (before now : Option (List ℕ)) : Type 0 where
  pub whole : List Aired
  pub cut : Aired
  pub is_air : IsAirAt mux.rate (airings_of (whole ++ cut ∷ [])) (whole ++ cut ∷ [])
  pub airings_are : ArePutOnAir mux seen entries (airings_of (whole ++ cut ∷ []))
  pub made : AreMadeAt mux.rate [] (whole ++ cut ∷ [])
  pub tally : player.tally ≡ tally_of mux.rate (airings_of (whole ++ cut ∷ []))
  pub taken : ℕ
  pub proper : taken < length (cycle_bytes cut)
  pub bytes : Appends before now (air_bytes whole ++ take taken (cycle_bytes cut))

-- The air took whole cycles for a front of these entries, and nothing more.
pub record HasPlayedSome (mux : Mux) (seen entries : List Entry) (before now : Option (List ℕ)) : Type 0 where
  pub done : List Entry
  pub left : List Entry
  pub entries_are : entries ≡ done ++ left
  pub whole : List Aired
  pub is_air : IsAirAt mux.rate (airings_of whole) whole
  pub airings_are : ArePutOnAir mux seen done (airings_of whole)
  pub made : AreMadeAt mux.rate [] whole
  pub bytes : Appends before now (air_bytes whole)

-- ---- one swap

-- After its tick, where there is one, a turn of the pass made a swap, and the cycle of what it puts
-- on air was sent, or stopped so.
pub record SwapSent (tick : Option Moment) (mux : Mux) (v w : View) (old new : Sending)
    (mid now : Option (List ℕ)) (result : Result (Unit {0}) SendStop) : Type 0 where
  pub between : View
  pub ticked : Ticked tick v between
  pub airing : Airing
  pub made : Made Swap (Swapped airing.number airing.moment) between w
  pub airing_is : airing ≡ on_air_of (desk_with mux w.seen)
  pub sent : (xs : List Aired) → AtEnd xs old → SentCycle xs (airing_by mux old.form airing) new mid now result
  pub form : new.form ≡ old.form
  pub rate : new.rate ≡ old.rate
  pub counted : CountedCycle (airing_by mux old.form airing) old new result
  pub wanting : result ≡ Err Memory → now ≡ mid

-- or memory was wanting for the turn of the swap, or for that of the tick
pub record NoSwap (tick : Option Moment) (v w : View) (mid now : Option (List ℕ))
    (result : Result (Unit {0}) SendStop) : Type 0 where
  pub memory : result ≡ Err Memory
  pub between : View
  pub ticked : (between ≡ v) ⊎ Ticked tick v between
  pub idle : Idle between w
  pub same : now ≡ mid

abbrev pub SwapPlayed : Option Moment → Mux → View → View → Sending → Sending → Option (List ℕ)
    → Option (List ℕ) → Result (Unit {0}) SendStop → Type 0
SwapPlayed tick mux v w old new mid now result =
    SwapSent tick mux v w old new mid now result ⊎ NoSwap tick v w mid now result

-- ---- several swaps

abbrev pub swaps_by : ℕ → ℕ → List Command
swaps_by who n = replicate n (who, Swap)

-- what the air has once these entries more were made, where it had all before
abbrev pub GoesOn : (List Entry → Option (List ℕ) → Type 0) → Mux → View → List Entry → Sending → Option (List ℕ) → Type 0
GoesOn has mux v added old mid = (front : List Entry) (before : Option (List ℕ)) → HasPlayedTo mux v.seen front old before mid → has (front ++ added) before

-- This holds of the airings before these entries and of theirs, in each journal that begins with
-- what was seen.
abbrev pub OfAirings : Mux → View → List Entry → List Entry → Sending → Option (List ℕ)
    → (List AiredTables → List AiredTables → Type 0) → Type 0
OfAirings mux v seen added old mid P =
    (front : List Entry) (before : Option (List ℕ)) → HasPlayedTo mux v.seen front old before mid
    → (journal : List Entry) → IsPrefix seen journal
    → P (airings_by mux journal front) (airings_by mux journal added)

-- The ticks are those of the swaps among these entries. Where swaps have none, there is none.
abbrev pub AreTicks : Bool → Mux → View → List Entry → List Entry → Sending → Option (List ℕ)
    → List (Option Moment) → Type 0
AreTicks false mux v seen added old mid ticks =
    AllByRecursion (λ (tick : Option Moment). tick ≡ None) ticks
AreTicks true mux v seen added old mid ticks =
    OfAirings mux v seen added old mid (λ past more. ticks ≡ ticks_for mux.rate past more)

-- the tick of the swap after them
abbrev pub IsNextTick : Bool → Mux → View → List Entry → List Entry → Sending → Option (List ℕ)
    → Option Moment → Type 0
IsNextTick false mux v seen added old mid tick = tick ≡ None
IsNextTick true mux v seen added old mid tick =
    OfAirings mux v seen added old mid (λ past more. tick ≡ tick_then mux.rate (past ++ more))

-- The pass made so many swaps, each after its tick.
pub record TurnsMade (ticking : Bool) (mux : Mux) (n : ℕ) (v w : View) (old : Sending)
    (mid : Option (List ℕ)) : Type 0 where
  pub ticks : List (Option Moment)
  pub count : length ticks ≡ n
  pub did : Did (turns_by v.own.low ticks) v w
  pub ticks_are : AreTicks ticking mux v w.seen did.added old mid ticks

-- It made no more than so many, and perhaps the tick of the one after them.
pub record TurnsBegun (ticking : Bool) (mux : Mux) (n : ℕ) (v w : View) (old : Sending)
    (mid : Option (List ℕ)) : Type 0 where
  pub ticks : List (Option Moment)
  pub tick : Option Moment
  pub more : ℕ
  pub count : length ticks + more ≤ n
  pub did : Did (turns_by v.own.low ticks ++ take more (tick_by v.own.low tick)) v w
  pub ticks_are : AreTicks ticking mux v w.seen did.added old mid ticks
  pub tick_is : 0 < more → IsNextTick ticking mux v w.seen did.added old mid tick

-- The pass made so many swaps, and a cycle was sent for each; or the air failed in the last of fewer
-- or as many; or memory was wanting.
abbrev pub SwapsPlayed : Bool → Mux → ℕ → View → View → Sending → Sending → Option (List ℕ)
    → Option (List ℕ) → Result (Unit {0}) SendStop → Type 0
SwapsPlayed ticking mux n v w old new mid now (Ok u) =
    (t : TurnsMade ticking mux n v w old mid)
    × GoesOn (λ entries before. HasPlayedTo mux w.seen entries new before now)
    mux v t.did.added old mid
SwapsPlayed ticking mux n v w old new mid now (Err Air) =
    (k : ℕ) × (k < n) × ((t : TurnsMade ticking mux (suc k) v w old mid)
    × GoesOn (λ entries before. HasPlayedFront mux w.seen entries new before now)
    mux v t.did.added old mid)
SwapsPlayed ticking mux n v w old new mid now (Err Memory) =
    (t : TurnsBegun ticking mux n v w old mid)
    × GoesOn (λ entries before. HasPlayedSome mux w.seen entries before now)
    mux v t.did.added old mid
