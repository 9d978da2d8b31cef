-- That bytes are read as values exactly where they are entries, one after the other.
use Rattle.std.specs.Prelude.{◌≡◌, ◌↔◌, ℕ, ◌<◌, List, [], ◌∷◌, Some}
use Rattle.std.specs.List.{flat_map, AllByRecursion}
use Rattle.guide_model.specs.declared.descriptor.RawDesc.{RawDesc}
use Rattle.descriptors.specs.Descriptors.{AreDescriptors}
use Rattle.table_bodies.specs.Entries.{TableEntry, entry_bytes, FitsEntry, Reads, entries_in}

-- An entry whose descriptors are a list is read as this value.
pub record IsReadAs {X : Type 0} (value_of : Reads X) (e : TableEntry) (value : X) : Type 0 where
  pub descs : List RawDesc
  pub loop : AreDescriptors e.descriptors descs
  pub says : value_of e.fields descs ≡ Some value

-- entry by entry
abbrev pub AreReadAs : {X : Type 0} → Reads X → List TableEntry → List X → Type 0
AreReadAs value_of [] [] = Unit {0}
AreReadAs value_of [] (v ∷ values) = ⊥
AreReadAs value_of (e ∷ entries) [] = ⊥
AreReadAs value_of (e ∷ entries) (v ∷ values) = IsReadAs value_of e v × AreReadAs value_of entries values

-- The bytes are entries, one after the other, with fields of `size` bytes, that are read as these values.
pub record AreEntries {X : Type 0} (size : ℕ) (value_of : Reads X) (bytes : List ℕ) (values : List X) : Type 0 where
  pub entries : List TableEntry
  pub whole : bytes ≡ flat_map entry_bytes entries
  pub fits : AllByRecursion (FitsEntry size) entries
  pub read : AreReadAs value_of entries values

-- each number of a list is a byte
abbrev pub AreBytes : List ℕ → Type 0
AreBytes numbers = AllByRecursion (λ (n : ℕ). n < 256) numbers

-- Bytes are read as values exactly where they are entries that are read as them.
abbrev pub EntriesAreRead : {X : Type 0} → ℕ → Reads X → Type 0
EntriesAreRead {X} size value_of =
    (bytes : List ℕ) (values : List X) → AreBytes bytes → (entries_in size value_of bytes ≡ Some values) ↔ AreEntries size value_of bytes values
