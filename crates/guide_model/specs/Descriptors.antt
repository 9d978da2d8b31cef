-- Descriptors in a loop (ISO/IEC 13818-1, 2.6; EN 300 468, 6.1), and as text.
use Rattle.std.specs.Prelude.{◌≡◌, ℕ, ◌+◌, ◌%◌, ◌<◌, ◌≤◌, Bool, false, not, ◌&&◌, ◌==◌, nat_le, List, ◌∷◌, length, map, sum_by}
use Rattle.std.specs.List.{AllByRecursion, join_with_byte, list_any}
use Rattle.hex.specs.Hex.{encode_lower}
use Rattle.guide_model.specs.declared.descriptor.RawDesc.{RawDesc}

-- how many bytes they have, each with its tag and its length
abbrev pub descriptors_size : List RawDesc → ℕ
descriptors_size descs = sum_by (λ (d : RawDesc). 2 + length d.body) descs

-- its body fits descriptor_length, which has 8 bits
abbrev pub FitsDescriptor : RawDesc → Type 0
FitsDescriptor d = length d.body < 256

-- its tag and what its body consists of are bytes
abbrev pub IsOfBytes : RawDesc → Type 0
IsOfBytes d = AllByRecursion (λ (b : ℕ). b ≤ 255) (d.tag ∷ d.body)

-- ---- further descriptors, where those of some tags are made

abbrev pub is_among : List ℕ → ℕ → Bool
is_among tags tag = list_any (λ t. t == tag) tags

-- a tag that a further descriptor can have where those of these tags are made: 0, 1 and 255 are none
abbrev pub is_free : List ℕ → ℕ → Bool
is_free made tag = (nat_le 2 tag && nat_le tag 254) && not (is_among made tag)

-- A further descriptor where these are made: its tag is one and not theirs, and its body fits its length.
pub record IsSoundDescriptor (made : List ℕ) (d : RawDesc) : Type 0 where
  pub tag : (2 ≤ d.tag) × (d.tag ≤ 254)
  pub free : is_among made d.tag ≡ false
  pub body : length d.body ≤ 255

abbrev pub AreSoundDescriptors : List ℕ → List RawDesc → Type 0
AreSoundDescriptors made descs = AllByRecursion (IsSoundDescriptor made) descs

-- ---- as text

-- a whole descriptor, each byte as two lower-case hexadecimal digits: descriptor_tag, descriptor_length, body
abbrev pub descriptor_text : RawDesc → List ℕ
descriptor_text d = encode_lower (d.tag ∷ length d.body % 256 ∷ d.body)

-- with single spaces (32) between
abbrev pub descriptors_text : List RawDesc → List ℕ
descriptors_text descs = join_with_byte 32 (map descriptor_text descs)
