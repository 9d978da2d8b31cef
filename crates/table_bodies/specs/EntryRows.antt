-- Worked loops of entries, read as their fields.
use Rattle.std.specs.Prelude.{◌≡◌, ℕ, List, [], ◌∷◌, Option, Some, None, refl}
use Rattle.guide_model.specs.declared.descriptor.RawDesc.{RawDesc}
use Rattle.table_bodies.specs.Entries.{entries_in, split_in, descriptors_in}

abbrev fields_in : List ℕ → List RawDesc → Option (List ℕ)
fields_in fields descs = Some fields

-- ---- one byte of fields, bits that are all 1, and a descriptor without a body

row_entry : entries_in 1 fields_in (0x07 ∷ 0xF0 ∷ 0x02 ∷ 0x7F ∷ 0x00 ∷ []) ≡ Some ((0x07 ∷ []) ∷ [])
row_entry = refl

-- reserved bits may have any value
row_bits : entries_in 1 fields_in (0x07 ∷ 0x50 ∷ 0x02 ∷ 0x7F ∷ 0x00 ∷ []) ≡ Some ((0x07 ∷ []) ∷ [])
row_bits = refl

row_none : entries_in 1 fields_in [] ≡ Some []
row_none = refl

-- cut, and with a descriptor that runs past the end of its loop
row_cut : entries_in 1 fields_in (0x07 ∷ 0xF0 ∷ 0x02 ∷ 0x7F ∷ []) ≡ None
row_cut = refl

row_past : entries_in 1 fields_in (0x07 ∷ 0xF0 ∷ 0x02 ∷ 0x7F ∷ 0x01 ∷ 0x00 ∷ []) ≡ None
row_past = refl

-- a byte more begins a second entry, and the bytes end within it
row_more : entries_in 1 fields_in (0x07 ∷ 0xF0 ∷ 0x00 ∷ 0x07 ∷ []) ≡ None
row_more = refl

row_behind : split_in 1 (0x07 ∷ 0xF0 ∷ 0x02 ∷ 0x7F ∷ 0x00 ∷ 0x09 ∷ []) ≡ Some (record { fields = 0x07 ∷ []; descriptors = 0x7F ∷ 0x00 ∷ [] }, 0x09 ∷ [])
row_behind = refl

row_descriptors : descriptors_in (0x54 ∷ 0x01 ∷ 0x20 ∷ 0x7F ∷ 0x00 ∷ []) ≡ Some (record { tag = 0x54; body = 0x20 ∷ [] } ∷ record { tag = 0x7F; body = [] } ∷ [])
row_descriptors = refl
