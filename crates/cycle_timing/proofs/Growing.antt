-- An air at a bit rate that grows by a cycle, and a front of one.
use Rattle.std.proofs.Common.{◌≡◌, ℕ, List, [], ◌∷◌, ◌++◌, length, refl, sym, subst, append_assoc, append-nil}
use Rattle.air_model.specs.Air.{Aired, air, airings_of}
use Rattle.cycle_timing.specs.Clock.{Clock, later, at_swap}
use Rattle.cycle_timing.specs.Cycle.{cycle_timed, clock_after, clock_of, AreTimed}

-- the packets of a next cycle, after these
abbrev pub IsNextTimed : ℕ → List Aired → Aired → Type 0
IsNextTimed rate before x = x.packets ≡ cycle_timed rate (airings_of before) (air before) (clock_of rate before x.airing) x.airing

pub timed_push : (rate : ℕ) (before xs : List Aired) (x : Aired) → AreTimed rate before xs → IsNextTimed rate (before ++ xs) x → AreTimed rate before (xs ++ x ∷ [])
timed_push rate before [] x h next = (subst (λ (l : List Aired). IsNextTimed rate l x) (append-nil before) next, tt)
timed_push rate before (y ∷ xs) x h next = (h.0, timed_push rate (before ++ y ∷ []) xs x h.1 (subst (λ (l : List Aired). IsNextTimed rate l x) (sym (append_assoc before (y ∷ []) xs)) next))

pub timed_front : (rate : ℕ) (before xs ys : List Aired) → AreTimed rate before (xs ++ ys) → AreTimed rate before xs
timed_front rate before [] ys h = tt
timed_front rate before (x ∷ xs) ys h = (h.0, timed_front rate (before ++ x ∷ []) xs ys h.1)

pub timed_after : (rate : ℕ) (before front rest : List Aired) → AreTimed rate before (front ++ rest) → AreTimed rate (before ++ front) rest
timed_after rate before [] rest h = subst (λ (l : List Aired). AreTimed rate l rest) (sym (append-nil before)) h
timed_after rate before (x ∷ front) rest h = subst (λ (l : List Aired). AreTimed rate l rest) (append_assoc before (x ∷ []) front) (timed_after rate (before ++ x ∷ []) front rest h.1)

-- the clock after a cycle more
pub clock_push : (rate : ℕ) (c : Clock) (xs : List Aired) (x : Aired) → clock_after rate c (xs ++ x ∷ []) ≡ later rate (length x.packets) (at_swap x.airing.moment (clock_after rate c xs))
clock_push rate c [] x = refl
clock_push rate c (y ∷ xs) x = clock_push rate (later rate (length y.packets) (at_swap y.airing.moment c)) xs x
