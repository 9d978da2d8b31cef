-- Entries of a journal, by the number of the caller that made each.
use Rattle.std.specs.Prelude.{◌≡◌, ◌⊎◌, ℕ, ◌==◌, List, [], ◌∷◌, ◌++◌, filter}

module _ {E : Type 0} (caller : E → ℕ) where
  -- the entries of the caller k, in order
  abbrev pub entries_of : ℕ → List E → List E
  entries_of k journal = filter (λ e. caller e == k) journal

  -- no entry, or one of the caller k
  abbrev pub IsOneOf : ℕ → List E → Type 0
  IsOneOf k added = (added ≡ []) ⊎ ((e : E) × (caller e ≡ k) × (added ≡ e ∷ []))

  -- the journal stays as it was, or gets one entry of the caller k
  abbrev pub Grows : ℕ → List E → List E → Type 0
  Grows k before after = (added : List E) × (after ≡ before ++ added) × IsOneOf k added
