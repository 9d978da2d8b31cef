-- How the shows of a service go on.
use Rattle.std.specs.Prelude.{◌≡◌, ℕ, ◌+◌, ◌*◌, ◌≤◌, ◌<◌, List, ◌++◌, length, flat_map}
use Rattle.std.specs.List.{AllByRecursion}
use Rattle.si_workload.specs.declared.shows.Show.{Show}
use Rattle.si_workload.specs.declared.shows.NextShow.{NextShow}
use Rattle.si_workload.specs.Shows.{shows_ahead, shows_on}
use Rattle.si_workload.specs.Texts.{item_line}

-- The next show starts on this day or behind it; each show so far took a quarter of an hour or more.
pub record IsAt (day : ℕ) (next : NextShow) : Type 0 where
  pub start : 96 * day ≤ next.start
  pub bound : next.start ≤ 1351
  pub few : next.id ≤ next.start + 1

-- The shows of this day were passed, and those of later days are still to come.
pub record PassesDay (day : ℕ) (old new : NextShow) : Type 0 where
  pub at : IsAt (day + 1) new
  pub later : (other : ℕ) → day < other → shows_on other (shows_ahead old) ≡ shows_on other (shows_ahead new)

-- a show starts within these quarters
abbrev pub StartsWithin : ℕ → ℕ → Show → Type 0
StartsWithin from end s = (from ≤ s.start) × (s.start < end)

-- Shows that start before `end` were taken, and their lines appended.
pub record Takes (end : ℕ) (old new : NextShow) (before after : List ℕ) (count : ℕ) : Type 0 where
  pub shows : List Show
  pub are : shows_ahead old ≡ shows ++ shows_ahead new
  pub within : AllByRecursion (StartsWithin old.start end) shows
  pub lines : after ≡ before ++ flat_map item_line shows
  pub counts : count ≡ length shows
  pub bound : new.start ≤ 1351
  pub few : new.id ≤ new.start + 1
