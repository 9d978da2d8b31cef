-- What opening a path and closing a source do to an opener.
use Rattle.std.specs.Prelude.{◌≡◌, ℕ, ◌<◌, ◌≤◌, List, [], ◌∷◌, ◌++◌, Option, Some, None, if◌then◌else◌}
use Rattle.std.specs.Str.{bytes_eq}
use Rattle.si_causes.specs.Causes.{Rose}

-- The list of the paths asked for grows by this path. An opener that found no room for it tells the
-- list no more, and one that doesn't tell it never tells it again.
abbrev pub Tries : Option (List (List ℕ)) → Option (List (List ℕ)) → List ℕ → Type 0
Tries None new path = new ≡ None
Tries (Some paths) None path = Unit {0}
Tries (Some paths) (Some more) path = more ≡ paths ++ path ∷ []

-- the count of read faults rises exactly where the source that comes back has failed
pub record TakesBack (failed before now : ℕ) : Type 0 where
  pub later : before ≤ now
  pub rose : 0 < failed → Rose before now
  pub kept : failed ≡ 0 → now ≡ before

-- files: each a path and its bytes
abbrev pub Files : Type 0
Files = List (List ℕ × List ℕ)

-- the bytes of the first file with this path
abbrev pub file_at : List ℕ → Files → Option (List ℕ)
file_at path [] = None
file_at path (file ∷ files) = if bytes_eq file.0 path then Some file.1 else file_at path files

-- an opener that tells its files gives, for a path, a source that tells just this file's bytes
abbrev pub GivesFile : Option Files → List ℕ → Option (List ℕ) → Type 0
GivesFile None path left = Unit {0}
GivesFile (Some files) path None = ⊥
GivesFile (Some files) path (Some bytes) = file_at path files ≡ Some bytes
