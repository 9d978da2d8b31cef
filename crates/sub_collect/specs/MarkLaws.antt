-- Laws of marks.
use Rattle.std.specs.Prelude.{◌≡◌, ℕ, List, [], ◌∷◌, ◌++◌, ◌==◌, if◌then◌else◌, filter, Some}
use Rattle.std.specs.List.{AllByRecursion}
use Rattle.section_codec.specs.declared.table.Key.{Key}
use Rattle.sub_collect.specs.Runs.{Counted}
use Rattle.sub_collect.specs.Completions.{of_key, completion, latest_done, latest_of, shown_at}
use Rattle.sub_collect.specs.Laws.{is_done_of}
use Rattle.sub_collect.specs.Marks.{Taken, Taken.Forgot, Taken.ForgotAll, since_mark, completions_over, latest_over, shown_over, dones_over, all_took}
use Rattle.sub_collect.specs.declared.completed.Completed.{Completed}

-- Without marks the sections of a key are all its sections, its latest completion is that of all,
abbrev pub MarkFree : Type 0
MarkFree = (k : Key) (ss : List Counted) → (since_mark k (all_took ss) ≡ of_key k ss) × (latest_over k (all_took ss) ≡ latest_of k ss)

-- and a section shows what it shows after all of them.
abbrev pub ShownMarkFree : Type 0
ShownMarkFree = (ss : List Counted) (s : Counted) → shown_over (all_took ss) s ≡ shown_at ss s

-- A mark of a key's PID forgets its sections and no completion; a mark of another PID forgets nothing.
abbrev pub MarkForgets : Type 0
MarkForgets = (k : Key) (pid : ℕ) (past : List Taken)
    → (since_mark k (past ++ Forgot pid ∷ []) ≡ (if pid == k.pid then [] else since_mark k past)) × (latest_over k (past ++ Forgot pid ∷ []) ≡ latest_over k past)

-- A mark of every PID starts afresh: of each key, what comes after it is heard as if nothing had come before, and the earlier completions
-- stay.
abbrev pub MarkOfAllStartsAfresh : Type 0
MarkOfAllStartsAfresh = (k : Key) (past more : List Taken)
    → (since_mark k (past ++ ForgotAll ∷ more) ≡ since_mark k more)
    × (completions_over k (past ++ ForgotAll ∷ more) ≡ completions_over k past ++ completions_over k more)

-- a completion that sections since one mark make
pub record IsSinceMark (k : Key) (past : List Taken) (d : Completed) : Type 0 where
  pub front : List Taken
  pub rest : List Taken
  pub cut : past ≡ front ++ rest
  pub made : completion (since_mark k front) ≡ Some d

-- Each completion of a key is made by sections since one mark.
abbrev pub CompletedSinceMark : Type 0
CompletedSinceMark = (k : Key) (past : List Taken) → AllByRecursion (IsSinceMark k past) (completions_over k past)

-- The latest completion of a key is the last one of it that was shown.
abbrev pub LatestOverIsShown : Type 0
LatestOverIsShown = (k : Key) (past : List Taken) → latest_over k past ≡ latest_done (filter (is_done_of k) (dones_over [] past))
