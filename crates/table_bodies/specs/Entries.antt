-- Entries of tables, one after the other, both ways (ISO/IEC 13818-1, 2.4.4.8; EN 300 468, 5.2.1, 5.2.3 and 5.2.4).
use Rattle.std.specs.Prelude.{◌≡◌, ℕ, zero, suc, ◌+◌, ◌*◌, ◌%◌, ◌<◌, List, [], ◌∷◌, ◌++◌, length, take, drop, nat_le, if◌then◌else◌}
use Rattle.std.specs.Prelude.{Option, Some, None, option_map, option_and_then}
use Rattle.si_base.specs.Fields.{two, two_at}
use Rattle.guide_model.specs.declared.descriptor.RawDesc.{RawDesc}

-- ---- written

-- its fields, the four bits before its length, and its descriptors
pub record TableEntry : Type 0 where
  pub fields : List ℕ
  pub bits : ℕ
  pub descriptors : List ℕ

-- fields, bits 4, length of the descriptors 12, descriptors
abbrev pub entry_bytes : TableEntry → List ℕ
entry_bytes e = e.fields ++ two (4096 * e.bits + length e.descriptors) ++ e.descriptors

-- each part has its width; the fields have `size` bytes
pub record FitsEntry (size : ℕ) (e : TableEntry) : Type 0 where
  pub fields : length e.fields ≡ size
  pub bits : e.bits < 16
  pub descriptors : length e.descriptors < 4096

-- ---- descriptors that are read

-- a descriptor by its tag and the bytes after its length
abbrev pub desc_of : ℕ → ℕ → List ℕ → RawDesc
desc_of tag len behind = record { tag = tag; body = take len behind }

-- The descriptors that bytes are, one after the other; none where one runs past the end (EN 300 468, 6.1). n bounds their number.
abbrev pub descriptors_within : ℕ → List ℕ → Option (List RawDesc)
descriptors_within n [] = Some []
descriptors_within n (tag ∷ []) = None
descriptors_within zero (tag ∷ len ∷ behind) = None
descriptors_within (suc n) (tag ∷ len ∷ behind) =
    if nat_le len (length behind)
    then option_map (λ descs. desc_of tag len behind ∷ descs) (descriptors_within n (drop len behind))
    else None

abbrev pub descriptors_in : List ℕ → Option (List RawDesc)
descriptors_in bytes = descriptors_within (length bytes) bytes

-- ---- entries that are read

-- an entry that is cut off and not read yet: its fields, and the bytes of its descriptors
pub record EntryParts : Type 0 where
  pub fields : List ℕ
  pub descriptors : List ℕ

-- the length of the descriptors of the entry at the front, whose fields have `size` bytes, and the length of the entry
abbrev pub loop_length : ℕ → List ℕ → ℕ
loop_length size bytes = two_at size bytes % 4096

abbrev pub entry_length : ℕ → List ℕ → ℕ
entry_length size bytes = size + 2 + loop_length size bytes

-- The entry at the front, whatever the four bits before its length, and what follows it; there is none where bytes end within it.
abbrev pub parts_at : ℕ → List ℕ → EntryParts
parts_at size bytes = record { fields = take size bytes; descriptors = take (loop_length size bytes) (drop (size + 2) bytes) }

abbrev pub split_in : ℕ → List ℕ → Option (EntryParts × List ℕ)
split_in size bytes =
    if nat_le (entry_length size bytes) (length bytes) then Some (parts_at size bytes, drop (entry_length size bytes) bytes) else None

-- how the fields and the descriptors of an entry are read; it may be refused
abbrev pub Reads : Type 0 → Type 0
Reads X = List ℕ → List RawDesc → Option X

-- what an entry is read as; it has no value where its descriptors are no list, or where it is refused
abbrev pub value_in : {X : Type 0} → Reads X → EntryParts → Option X
value_in value_of entry = option_and_then (value_of entry.fields) (descriptors_in entry.descriptors)

-- a value made of two, where both are there
abbrev pub made : {X Y Z : Type 0} → (X → Y → Z) → Option X → Option Y → Option Z
made f None y = None
made f (Some x) y = option_map (f x) y

abbrev pub with_more : {X : Type 0} → Option X → Option (List X) → Option (List X)
with_more value more = made (λ x xs. x ∷ xs) value more

-- The values of the entries that bytes are, one after the other; there are none where one has none, or the bytes end within it. n bounds
-- their number.
abbrev pub entries_within : {X : Type 0} → ℕ → Reads X → ℕ → List ℕ → Option (List X)
entries_within size value_of n [] = Some []
entries_within size value_of zero (b ∷ bytes) = None
entries_within size value_of (suc n) (b ∷ bytes) =
    option_and_then (λ parts. with_more (value_in value_of parts.0) (entries_within size value_of n parts.1)) (split_in size (b ∷ bytes))

abbrev pub entries_in : {X : Type 0} → ℕ → Reads X → List ℕ → Option (List X)
entries_in size value_of bytes = entries_within size value_of (length bytes) bytes
