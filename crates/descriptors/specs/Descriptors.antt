-- Descriptors, one after the other (ISO/IEC 13818-1, 2.6; EN 300 468, 6.1).
use Rattle.std.specs.Prelude.{◌≡◌, ℕ, List, ◌∷◌}
use Rattle.std.specs.List.{flat_map, AllByRecursion}
use Rattle.guide_model.specs.Descriptors.{FitsDescriptor}
use Rattle.descriptors.specs.Lengths.{with_length}
use Rattle.guide_model.specs.declared.descriptor.RawDesc.{RawDesc}

-- a descriptor as it is written: descriptor_tag 8, descriptor_length 8, body
abbrev pub descriptor : ℕ → List ℕ → List ℕ
descriptor tag body = tag ∷ with_length body

abbrev pub descriptor_bytes : RawDesc → List ℕ
descriptor_bytes d = descriptor d.tag d.body

abbrev pub descriptors_bytes : List RawDesc → List ℕ
descriptors_bytes descs = flat_map descriptor_bytes descs

-- The bytes are just these descriptors, and each length fits its field of 8 bits.
pub record AreDescriptors (bytes : List ℕ) (descs : List RawDesc) : Type 0 where
  pub whole : bytes ≡ flat_map descriptor_bytes descs
  pub lengths : AllByRecursion FitsDescriptor descs

-- Bytes are the descriptors of one list at most.
abbrev pub DescriptorsAreUnique : Type 0
DescriptorsAreUnique = (bytes : List ℕ) (a b : List RawDesc) → AreDescriptors bytes a → AreDescriptors bytes b → a ≡ b
