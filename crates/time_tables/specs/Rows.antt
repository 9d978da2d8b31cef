-- Worked sections and bodies of the time and date table and of the time offset table.
use Rattle.std.specs.Prelude.{◌≡◌, true, false, List, [], ◌∷◌, Some, None, refl}
use Rattle.si_time.specs.Moments.{moments_compute}
use Rattle.si_time.specs.Readings.{readings_compute}
use Rattle.guide_model.specs.declared.offset.Offset.{Offset}
use Rattle.time_tables.specs.Tdt.{tdt_section, tdt_in}
use Rattle.time_tables.specs.LocalOffsets.{offset_bytes, offsets_in}
use Rattle.time_tables.specs.Tot.{tot_body, tot_in}

-- 1993-10-13T12:45:00Z and 1970-01-01T00:00:00Z
row_annex : tdt_section 4257233100 ≡ 0x70 ∷ 0x70 ∷ 0x05 ∷ 0xC0 ∷ 0x79 ∷ 0x12 ∷ 0x45 ∷ 0x00 ∷ []
unfolding moments_compute
row_annex = refl

row_epoch : tdt_section 3506716800 ≡ 0x70 ∷ 0x70 ∷ 0x05 ∷ 0x9E ∷ 0x8B ∷ 0x00 ∷ 0x00 ∷ 0x00 ∷ []
unfolding moments_compute
row_epoch = refl

annex_read : tdt_in (0xC0 ∷ 0x79 ∷ 0x12 ∷ 0x45 ∷ 0x00 ∷ []) ≡ Some 4257233100
unfolding readings_compute
annex_read = refl

-- hour 24, a digit above 9, a byte left over, and a byte too few
no_hour : tdt_in (0xC0 ∷ 0x79 ∷ 0x24 ∷ 0x00 ∷ 0x00 ∷ []) ≡ None
unfolding readings_compute
no_hour = refl

no_digit : tdt_in (0xC0 ∷ 0x79 ∷ 0x12 ∷ 0x4A ∷ 0x00 ∷ []) ≡ None
unfolding readings_compute
no_digit = refl

longer : tdt_in (0xC0 ∷ 0x79 ∷ 0x12 ∷ 0x45 ∷ 0x00 ∷ 0x00 ∷ []) ≡ None
unfolding readings_compute
longer = refl

shorter : tdt_in (0xC0 ∷ 0x79 ∷ 0x12 ∷ 0x45 ∷ []) ≡ None
unfolding readings_compute
shorter = refl

-- ---- the time offset table

-- at 1993-10-13T12:45:00Z, Great Britain an hour ahead, and from 1993-10-24T01:00:00Z on on UTC
abbrev summer : Offset
summer = record { country = 0x47 ∷ 0x42 ∷ 0x52 ∷ []; region = 0; behind = false; minutes = 60; change = record { 0 = 4258141200 }; next = 0 }

row_tot : tot_body 4257233100 (summer ∷ [])
    ≡ 0xC0 ∷ 0x79 ∷ 0x12 ∷ 0x45 ∷ 0x00 ∷ 0xF0 ∷ 0x0F ∷ 0x58 ∷ 0x0D ∷ 0x47 ∷ 0x42 ∷ 0x52 ∷ 0x02 ∷ 0x01 ∷ 0x00 ∷ 0xC0 ∷ 0x84 ∷ 0x01 ∷ 0x00 ∷ 0x00 ∷ 0x00 ∷ 0x00 ∷ []
unfolding moments_compute
row_tot = refl

tot_read : tot_in (0xC0 ∷ 0x79 ∷ 0x12 ∷ 0x45 ∷ 0x00 ∷ 0xF0 ∷ 0x0F ∷ 0x58 ∷ 0x0D ∷ 0x47 ∷ 0x42 ∷ 0x52 ∷ 0x02 ∷ 0x01 ∷ 0x00 ∷ 0xC0 ∷ 0x84 ∷ 0x01 ∷ 0x00 ∷ 0x00 ∷ 0x00 ∷ 0x00 ∷ [])
    ≡ Some (record { at = record { 0 = 4257233100 }; offsets = summer ∷ [] })
unfolding readings_compute
tot_read = refl

-- an empty loop tells no offset; a body without the loop's length, or with one that is not the rest, is none
tot_empty : tot_in (0xC0 ∷ 0x79 ∷ 0x12 ∷ 0x45 ∷ 0x00 ∷ 0xF0 ∷ 0x00 ∷ []) ≡ Some (record { at = record { 0 = 4257233100 }; offsets = [] })
unfolding readings_compute
tot_empty = refl

tot_short : tot_in (0xC0 ∷ 0x79 ∷ 0x12 ∷ 0x45 ∷ 0x00 ∷ []) ≡ None
unfolding readings_compute
tot_short = refl

tot_longer : tot_in (0xC0 ∷ 0x79 ∷ 0x12 ∷ 0x45 ∷ 0x00 ∷ 0xF0 ∷ 0x00 ∷ 0x00 ∷ []) ≡ None
unfolding readings_compute
tot_longer = refl

-- the 63rd region of the United States, five hours and a half behind
row_behind : offset_bytes (record { country = 0x55 ∷ 0x53 ∷ 0x41 ∷ []; region = 63; behind = true; minutes = 330; change = record { 0 = 0 }; next = 720 })
    ≡ 0x55 ∷ 0x53 ∷ 0x41 ∷ 0xFF ∷ 0x05 ∷ 0x30 ∷ 0x00 ∷ 0x00 ∷ 0x00 ∷ 0x00 ∷ 0x00 ∷ 0x12 ∷ 0x00 ∷ []
unfolding moments_compute
row_behind = refl

-- a descriptor that ends within an entry, and one with minute 60, tell none
part_entry : offsets_in (0x47 ∷ 0x42 ∷ 0x52 ∷ 0x02 ∷ 0x01 ∷ 0x00 ∷ []) ≡ None
part_entry = refl

no_minute : offsets_in (0x47 ∷ 0x42 ∷ 0x52 ∷ 0x02 ∷ 0x01 ∷ 0x60 ∷ 0xC0 ∷ 0x84 ∷ 0x01 ∷ 0x00 ∷ 0x00 ∷ 0x00 ∷ 0x00 ∷ []) ≡ None
unfolding readings_compute
no_minute = refl
