-- The time offset table, both ways (EN 300 468, 5.2.6).
use Rattle.std.specs.Prelude.{◌≡◌, ℕ, zero, suc, ◌+◌, ◌*◌, ◌%◌, ◌<◌, ◌≤◌, ◌==◌, ◌&&◌, nat_le, if◌then◌else◌, List, [], ◌∷◌, ◌++◌, length, take, drop, Option, Some, None, unwrap_or, Ok}
use Rattle.std.specs.Option.{option_map}
use Rattle.std.specs.List.{AllByRecursion}
use Rattle.si_base.specs.Fields.{two}
use Rattle.si_time.specs.Moments.{moment_bcd}
use Rattle.si_time.specs.Readings.{moment_from_bcd}
use Rattle.si_time.specs.declared.moment.Moment.{Moment}
use Rattle.guide_model.specs.declared.offset.Offset.{Offset}
use Rattle.section_codec.specs.declared.section.Section.TheVariants.{Short}
use Rattle.section_codec.specs.Section.{section_in, short_crc_bytes}
use Rattle.time_tables.specs.declared.tot.Tot.{Tot}
use Rattle.time_tables.specs.LocalOffsets.{local_offsets, offsets_in, FitsOffset}

-- ---- written: UTC_time 40, reserved 4, descriptors_loop_length 12, and one descriptor with all offsets

abbrev pub tot_body : ℕ → List Offset → List ℕ
tot_body at offsets = moment_bcd at ++ (two (0xF000 + length (local_offsets offsets)) ++ local_offsets offsets)

abbrev pub tot_section : ℕ → List Offset → List ℕ
tot_section at offsets = short_crc_bytes 0x73 (tot_body at offsets)

-- ---- read

-- the entries of a descriptor; others, and one whose body is not whole entries that are read, are passed over
abbrev pub told_by : ℕ → List ℕ → List Offset
told_by tag body = if tag == 0x58 then unwrap_or (offsets_in body) [] else []

-- what a descriptor says, and then those behind it
abbrev pub with_told : List Offset → Option (List Offset) → Option (List Offset)
with_told told more = option_map (λ offsets. told ++ offsets) more

-- the offsets that descriptors say, one after the other; none where one runs past the end. n bounds their number.
abbrev pub told_within : ℕ → List ℕ → Option (List Offset)
told_within n [] = Some []
told_within n (tag ∷ []) = None
told_within zero (tag ∷ len ∷ behind) = None
told_within (suc n) (tag ∷ len ∷ behind) =
    if nat_le len (length behind) then with_told (told_by tag (take len behind)) (told_within n (drop len behind)) else None

-- those of a loop behind its length, which is the rest
abbrev pub told_in : List ℕ → Option (List Offset)
told_in (high ∷ low ∷ loop) = if (256 * high + low) % 4096 == length loop then told_within (length loop) loop else None
told_in _ = None

abbrev pub tot_with : Option ℕ → Option (List Offset) → Option Tot
tot_with (Some at) (Some offsets) = Some (record { at = record { 0 = at }; offsets = offsets })
tot_with at offsets = None

-- UTC_time, and the offsets of the loop
abbrev pub tot_in : List ℕ → Option Tot
tot_in body = tot_with (moment_from_bcd (take 5 body)) (told_in (drop 5 body))

-- ---- laws

-- 1 to 16 offsets that fit their fields
pub record AreSent (offsets : List Offset) : Type 0 where
  pub some : 1 ≤ length offsets
  pub few : length offsets ≤ 16
  pub each : AllByRecursion FitsOffset offsets

-- A written section is the section of that table and that body.
abbrev pub TotIsASection : Type 0
TotIsASection = (at : ℕ) (offsets : List Offset) → AreSent offsets → section_in (tot_section at offsets) ≡ Ok (Short 0x73 (tot_body at offsets))

-- Reading a written body gives the moment and the offsets back.
abbrev pub TotReadsBack : Type 0
TotReadsBack =
    (at : ℕ) (offsets : List Offset) → at < 65536 * 86400 → AreSent offsets → tot_in (tot_body at offsets) ≡ Some (record { at = record { 0 = at }; offsets = offsets })
