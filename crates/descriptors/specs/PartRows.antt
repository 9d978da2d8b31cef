-- Worked descriptors and lengths.
use Rattle.std.specs.Prelude.{◌≡◌, [], ◌∷◌, Some, None, refl}
use Rattle.std.proofs.Common.{lit<}
use Rattle.descriptors.specs.Descriptors.{AreDescriptors}
use Rattle.descriptors.specs.Lengths.{split_length, behind_length}

row_descriptors : AreDescriptors (0x54 ∷ 0x02 ∷ 0x20 ∷ 0x00 ∷ 0x7F ∷ 0x00 ∷ []) (record { tag = 0x54; body = 0x20 ∷ 0x00 ∷ [] } ∷ record { tag = 0x7F; body = [] } ∷ [])
row_descriptors = record { whole = refl; lengths = (lit< tt, (lit< tt, tt)) }

row_length : split_length (0x02 ∷ 0x61 ∷ 0x62 ∷ 0x00 ∷ []) ≡ Some (0x61 ∷ 0x62 ∷ [], 0x00 ∷ [])
row_length = refl

row_whole : split_length (0x02 ∷ 0x61 ∷ 0x62 ∷ []) ≡ Some (0x61 ∷ 0x62 ∷ [], [])
row_whole = refl

row_past : split_length (0x03 ∷ 0x61 ∷ 0x62 ∷ []) ≡ None
row_past = refl

row_none : split_length [] ≡ None
row_none = refl

row_behind : behind_length (0x02 ∷ 0x61 ∷ 0x62 ∷ []) ≡ Some (0x61 ∷ 0x62 ∷ [])
row_behind = refl

row_left_over : behind_length (0x01 ∷ 0x61 ∷ 0x62 ∷ []) ≡ None
row_left_over = refl
