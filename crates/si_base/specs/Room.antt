-- Appending to a buffer that has room.
use Rattle.std.specs.Prelude.{◌≡◌, ℕ, ◌+◌, ◌≤◌, List, ◌++◌, Vec, vec_len, vec_capacity}

-- so many more elements fit into the memory of the buffer
abbrev pub HasRoom : {T Z : Type 0} → Vec T Z → ℕ → Type 0
HasRoom buffer count = vec_len buffer + count ≤ vec_capacity buffer

-- these elements stand behind the others, in no less memory
pub record Appended {T Z : Type 0} (old new : Vec T Z) (added : List T) : Type 0 where
  pub items : new.items ≡ old.items ++ added
  pub capacity : vec_capacity old ≤ vec_capacity new
