-- What is read of the bytes of a section.
use Rattle.std.proofs.Common.{◌≡◌, ℕ, Bool, true, false, List, Ok, Err, if◌then◌else◌}
use Rattle.std.specs.Prelude.{not, slice_index}
use Rattle.section_codec.specs.declared.section.LongHeader.{LongHeader}
use Rattle.section_codec.specs.declared.section.Section.TheVariants.{Long, Short}
use Rattle.section_codec.specs.declared.section.BadSection.TheVariants.{Length, Crc, Syntax}
use Rattle.section_codec.specs.Section.{section_in, is_long, kept_crc, found_crc, has_its_length, has_its_crc, has_its_syntax, long_header, long_body, short_body}

-- the body of a section in the long form
pub body-read : (bytes : List ℕ) (h : LongHeader) (body : List ℕ) → section_in bytes ≡ Ok (Long h body) → body ≡ long_body bytes
body-read bytes h body is = go (has_its_length bytes) (has_its_crc bytes) (has_its_syntax bytes) (is_long bytes) is
  where
    go : (a b c d : Bool)
        → (if not a then Err Length
        else if not b then Err (Crc (kept_crc bytes) (found_crc bytes))
        else if not c then Err Syntax
        else Ok (if d then Long (long_header bytes) (long_body bytes) else Short (slice_index bytes 0) (short_body bytes))) ≡ Ok (Long h body)
        → body ≡ long_body bytes
    go false b c d e = cc
    go true false c d e = cc
    go true true false d e = cc
    go true true true false e = cc
    go true true true true e = cc
