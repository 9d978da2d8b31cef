-- Laws of breaks.
use Rattle.std.specs.Prelude.{◌≡◌, List, ◌∷◌, ◌++◌, true, flat_map}
use Rattle.ts_demux.specs.Arrivals.{Arrival, heard_of}
use Rattle.ts_demux.specs.Keeping.{last_load}
use Rattle.ts_demux.specs.Breaks.{Before.Never, before_all, is_break, parts, ends_in_gap, before_by}

-- Nothing is heard over a break: what is heard is what is heard before it, and then what is heard from it on.
abbrev pub BreaksSplit : Type 0
BreaksSplit = (xs : List Arrival) (y : Arrival) (ys : List Arrival) → is_break (before_all Never xs) y ≡ true
    → heard_of (xs ++ y ∷ ys) ≡ heard_of xs ++ heard_of (y ∷ ys)

-- What is heard of a PID is what is heard of its parts between the breaks.
abbrev pub PartsAreHeard : Type 0
PartsAreHeard = (xs : List Arrival) → heard_of xs ≡ flat_map heard_of (parts Never xs)

-- What came last on a PID is known by the last load that a demux keeps of it and one flag.
abbrev pub FlagTells : Type 0
FlagTells = (xs : List Arrival) → before_all Never xs ≡ before_by (last_load xs) (ends_in_gap xs)
