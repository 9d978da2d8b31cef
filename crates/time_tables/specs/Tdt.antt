-- The time and date table, both ways (EN 300 468, 5.2.5).
use Rattle.std.specs.Prelude.{◌≡◌, ℕ, ◌*◌, ◌<◌, List, Option, Some, Ok}
use Rattle.si_time.specs.Moments.{moment_bcd}
use Rattle.si_time.specs.Readings.{moment_from_bcd}
use Rattle.section_codec.specs.declared.section.Section.TheVariants.{Short}
use Rattle.section_codec.specs.Section.{section_in, short_bytes}

-- written: table_id 0x70 in the short form, and UTC_time 40
abbrev pub tdt_section : ℕ → List ℕ
tdt_section at = short_bytes 0x70 (moment_bcd at)

-- read: UTC_time, and nothing else
abbrev pub tdt_in : List ℕ → Option ℕ
tdt_in body = moment_from_bcd body

-- ---- laws

-- A written section is the section of that table and that UTC_time.
abbrev pub TdtIsASection : Type 0
TdtIsASection = (at : ℕ) → at < 65536 * 86400 → section_in (tdt_section at) ≡ Ok (Short 0x70 (moment_bcd at))

-- Reading a written UTC_time gives the moment back.
abbrev pub TdtReadsBack : Type 0
TdtReadsBack = (at : ℕ) → at < 65536 * 86400 → tdt_in (moment_bcd at) ≡ Some at
