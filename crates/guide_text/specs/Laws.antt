-- That printed descriptors read back.
use Rattle.std.specs.Prelude.{◌≡◌, Ok}
use Rattle.hex.specs.Hex.{decode_of}
use Rattle.guide_model.specs.declared.descriptor.RawDesc.{RawDesc}
use Rattle.guide_model.specs.Descriptors.{descriptor_text, FitsDescriptor, IsOfBytes}
use Rattle.descriptors.specs.Descriptors.{descriptor_bytes}

-- a descriptor as it can stand in a loop: its numbers are bytes, and its length fits its field of 8 bits (EN 300 468, 6.1)
pub record CanStand (d : RawDesc) : Type 0 where
  pub bytes : IsOfBytes d
  pub length : FitsDescriptor d

-- The digits of a printed descriptor are those of the bytes that stand in its loop.
abbrev pub DetailsReadBack : Type 0
DetailsReadBack = (d : RawDesc) → CanStand d → decode_of (descriptor_text d) ≡ Ok (descriptor_bytes d)
