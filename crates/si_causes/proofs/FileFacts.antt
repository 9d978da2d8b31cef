-- The first file with a path, in a list of paths and bytes.
use Rattle.std.specs.Prelude.{◌≡◌, ℕ, true, false, List, [], ◌∷◌, option_map, find, String, Vec, string_bytes, bytes_eq, cond, if◌then◌else◌, Some, refl}
use Rattle.si_causes.specs.Opening.{file_at}
use Rattle.si_causes.specs.Files.{files_of}

pub first_file : {Y Z : Type 0} (path : List ℕ) (files : List (String Y × Vec ℕ Z)) → file_at path (files_of files) ≡ option_map (λ file. file.1.items) (find (λ file. bytes_eq (string_bytes file.0) path) files)
first_file path [] = refl
first_file path (file ∷ files) =
    elim (bytes_eq (string_bytes file.0) path) as (λ is. (if is then Some file.1.items else file_at path (files_of files)) ≡ option_map (λ other. other.1.items) (cond is (Some file) (find (λ other. bytes_eq (string_bytes other.0) path) files))) [ true ↦ refl | false ↦ first_file path files ]
