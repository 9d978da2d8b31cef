-- Files in memory and paths, as their bytes.
use Rattle.std.specs.Prelude.{ℕ, List, map, Option, option_map, String, Vec, string_bytes}
use Rattle.si_causes.specs.Opening.{Files}

-- each path and the bytes of its file
abbrev pub files_of : {Y Z : Type 0} → List (String Y × Vec ℕ Z) → Files
files_of files = map (λ file. (string_bytes file.0, file.1.items)) files

-- the paths, where they are told
abbrev pub paths_of : {Y Z : Type 0} → Option (Vec (String Y) Z) → Option (List (List ℕ))
paths_of tried = option_map (λ paths. map string_bytes paths.items) tried
