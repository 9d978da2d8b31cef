-- What a read does to the bytes that are held of a source.
use Rattle.std.specs.Prelude.{◌≡◌, ℕ, List, ◌++◌, length, Option}
use Rattle.std.specs.Io.KnownBytes.{Consumes}

-- the source gave so many bytes, and they stand behind those that were held
abbrev pub ReadOn : Option (List ℕ) → Option (List ℕ) → List ℕ → List ℕ → ℕ → Type 0
ReadOn left_old left_new held_old held_new n =
    (more : List ℕ) × (n ≡ length more) × (held_new ≡ held_old ++ more) × Consumes left_old left_new more
