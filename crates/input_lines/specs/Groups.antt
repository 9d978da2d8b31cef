-- Descriptors as a text: groups of hexadecimal digits with one space between, each of them a descriptor_tag, a descriptor_length
-- and just so many bytes (ISO/IEC 13818-1, 2.6).
use Rattle.std.specs.Prelude.{ℕ, ◌==◌, List, [], ◌∷◌, length, Option, Some, None, if◌then◌else◌, option_map, option_and_then}
use Rattle.std.specs.List.{slice_split}
use Rattle.std.specs.Result.{result_ok}
use Rattle.hex.specs.Hex.{decode_of}
use Rattle.hex.proofs.OnLiterals.{hex_on_literals}
use Rattle.guide_model.specs.declared.descriptor.RawDesc.{RawDesc}

-- the descriptor that bytes are, where they are just one
abbrev pub descriptor_of : List ℕ → Option RawDesc
descriptor_of (tag ∷ size ∷ body) = if length body == size then Some (record { tag = tag; body = body }) else None
descriptor_of bytes = None

-- of a group: an even number of hexadecimal digits of either case
abbrev pub descriptor_in : List ℕ → Option RawDesc
descriptor_in group = option_and_then descriptor_of (result_ok (decode_of group))

-- of each of these groups
abbrev pub each_in : List (List ℕ) → Option (List RawDesc)
each_in [] = Some []
each_in (group ∷ groups) = option_and_then (λ (d : RawDesc). option_map (λ ds. d ∷ ds) (each_in groups)) (descriptor_in group)

-- of the groups of a field
abbrev pub descriptors_in : List ℕ → Option (List RawDesc)
descriptors_in field = each_in (slice_split (λ b. b == 32) field)

-- a theorem whose `unfolding` line names this computes the descriptors of a field
unfoldable pub groups_compute : Type 0
unfolding hex_on_literals
groups_compute = Unit {0}
