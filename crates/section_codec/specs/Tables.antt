-- The table of tables: each table_id with its form, its PID, what names its sub-tables, and how often a cycle repeats it (ISO/IEC 13818-1,
-- 2.4.4; EN 300 468, 5.1.1, 5.1.3 and 5.1.4; TR 101 211, 4.4). "Other" tables are of the other streams of the network.
use Rattle.std.specs.Prelude.{ℕ, Bool, ◌==◌, ◌&&◌, ◌||◌, if◌then◌else◌, nat_le, Option, Some, None, is_some}
use Rattle.section_codec.specs.declared.table.Tier3.{Tier3}
use Rattle.section_codec.specs.declared.table.Tier3.TheVariants.{Fast, Near, Far}
use Rattle.section_codec.specs.declared.table.Naming.{Naming}
use Rattle.section_codec.specs.declared.table.Naming.TheVariants.{Extension, Network, Stream}

-- the event information tables, of this multiplex and of others
abbrev pub is_eit : ℕ → Bool
is_eit table = nat_le 0x4E table && nat_le table 0x6F

-- the tables whose sections have the long form, with a version and a CRC: PAT, PMT, NIT, SDT of this multiplex and of others, EIT
abbrev pub has_long_form : ℕ → Bool
has_long_form table = table == 0x00 || table == 0x02 || table == 0x40 || table == 0x42 || table == 0x46 || is_eit table

-- the tables whose sections have the short form, without a version: the TDT without a CRC, and the TOT with one (EN 300 468, 5.2.5 and 5.2.6)
abbrev pub has_short_form : ℕ → Bool
has_short_form table = table == 0x70 || table == 0x73

-- where each table of this multiplex, and of others, is sent
abbrev pub is_pat : ℕ → ℕ → Bool
is_pat pid table = pid == 0x0000 && table == 0x00

abbrev pub is_pmt : ℕ → ℕ → Bool
is_pmt pid table = nat_le 0x0020 pid && nat_le pid 0x1FFE && table == 0x02

abbrev pub is_nit : ℕ → ℕ → Bool
is_nit pid table = pid == 0x0010 && table == 0x40

abbrev pub is_sdt : ℕ → ℕ → Bool
is_sdt pid table = pid == 0x0011 && (table == 0x42 || table == 0x46)

-- present and following, or schedule
abbrev pub is_events : ℕ → ℕ → Bool
is_events pid table = pid == 0x0012 && is_eit table

-- what names the sub-tables of a table on its PID, where the receiver hears them
abbrev pub naming_of : ℕ → ℕ → Option Naming
naming_of pid table =
    if is_pat pid table || is_pmt pid table || is_nit pid table then Some Extension
    else if is_sdt pid table then Some Network
    else if is_events pid table then Some Stream
    else None

-- whether sections of this table on this PID count
abbrev pub is_counted : ℕ → ℕ → Bool
is_counted pid table = is_some (naming_of pid table)

-- How often a cycle repeats a table: the schedules of the first eight days, and of other streams the SDT and present and following, less
-- often than the first ones; later schedules, and those of other streams, least often.
abbrev pub tier_of : ℕ → Tier3
tier_of table =
    if table == 0x50 || table == 0x51 || table == 0x46 || table == 0x4F then Near
    else if nat_le 0x52 table && nat_le table 0x6F then Far
    else Fast

-- the place of a tier in a cycle: first Fast, then Near, then Far
abbrev pub tier_rank : Tier3 → ℕ
tier_rank Fast = 0
tier_rank Near = 1
tier_rank Far = 2
