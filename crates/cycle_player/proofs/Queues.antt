-- What holds where a queue of runs begins.
use Rattle.std.proofs.Common.{◌≡◌, ℕ, ◌<◌, Bool, true, false, List, [], ◌∷◌, Option, Some, None, refl, arith}
use Rattle.std.specs.Prelude.{is_some, not}
use Rattle.std.specs.List.{AllByRecursion}
use Rattle.std.proofs.lemmas.Bool.{le-ltb}
use Rattle.air_timing.specs.declared.timing.Timing.{Timing}
use Rattle.cycle_player.specs.Running.{shares_with, IsLaid}

-- ---- the start

pub alone_at_start : (ts : List Timing) → shares_with 0 ts ≡ false
alone_at_start [] = refl
alone_at_start (t ∷ ts) = le-ltb t.first 0 (omega arith)

pub both_laid : (count : ℕ) (ts : List Timing) → AllByRecursion (λ (t : Timing). t.section < count) ts → AllByRecursion (λ (t : Timing). t.last < 4611686018427387904) ts → AllByRecursion (IsLaid count) ts
both_laid count [] h k = tt
both_laid count (t ∷ ts) h k = ((h.0, k.0), both_laid count ts h.1 k.1)

-- ---- an option that is told to be none

pub some_of : {X : Type 0} (o : Option X) (none : Bool) → is_some o ≡ not none → none ≡ false → (x : X) × (o ≡ Some x)
some_of None true e f = cc
some_of None false e f = cc
some_of (Some x) none e f = (x, refl)

pub none_of : {X : Type 0} (o : Option X) (none : Bool) → is_some o ≡ not none → none ≡ true → o ≡ None
none_of None none e f = refl
none_of (Some x) true e f = cc
none_of (Some x) false e f = cc
