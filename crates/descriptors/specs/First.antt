-- The first descriptor of a kind in a list, and the list without it.
use Rattle.std.specs.Prelude.{ℕ, Bool, true, ◌==◌, List, [], ◌∷◌, Option, None, is_some, if◌then◌else◌}
use Rattle.std.specs.Option.{option_or}
use Rattle.guide_model.specs.declared.descriptor.RawDesc.{RawDesc}

-- what a descriptor says, if it has this tag and its body is read
abbrev pub said_by : {A : Type 0} → ℕ → (List ℕ → Option A) → RawDesc → Option A
said_by tag read d = if d.tag == tag then read d.body else None

-- what the first descriptor of this tag says whose body is read: others, and bodies that do not fit, are passed over
abbrev pub first_in : {A : Type 0} → ℕ → (List ℕ → Option A) → List RawDesc → Option A
first_in tag read [] = None
first_in tag read (d ∷ ds) = option_or (said_by tag read d) (first_in tag read ds)

-- the descriptors without that one, if its body is shown whole
abbrev pub without_first : {A : Type 0} → ℕ → (List ℕ → Option A) → (List ℕ → Bool) → List RawDesc → List RawDesc
without_first tag read whole [] = []
without_first tag read whole (d ∷ ds) =
    if is_some (said_by tag read d) then (if whole d.body then ds else d ∷ ds) else d ∷ without_first tag read whole ds

-- each body is shown whole
abbrev pub always : List ℕ → Bool
always body = true
