-- Sections that are laid, and those that tell the time at another moment (EN 300 468, 5.2.5 and
-- 5.2.6).
use Rattle.std.specs.Prelude.{◌≡◌, ℕ, ◌-◌, List, ◌++◌, Bool, ◌==◌, ◌&&◌, if◌then◌else◌, nat_le, length, take, drop, map, option_map, slice_get, slice_index}
use Rattle.std.specs.List.{AllByRecursion}
use Rattle.si_base.specs.Fields.{four}
use Rattle.si_base.specs.Crc.{crc_of}
use Rattle.si_time.specs.Moments.{moment_bcd}
use Rattle.time_tables.specs.Tdt.{tdt_section}
use Rattle.air_model.specs.Air.{Sent}
use Rattle.air_model.specs.declared.placed.Placed.{Placed}
use Rattle.air_model.specs.Laying.{IsPlaced, sent_at, AreLaid}

-- ---- a section at a moment

-- a TDT, and a TOT, which has at least its header, UTC_time, the length of its loop and its CRC
abbrev pub is_tdt : List ℕ → Bool
is_tdt s = length s == 8 && slice_index s 0 == 0x70

abbrev pub is_tot : List ℕ → Bool
is_tot s = nat_le 14 (length s) && slice_index s 0 == 0x73

abbrev pub with_crc : List ℕ → List ℕ
with_crc bytes = bytes ++ four (crc_of bytes)

-- a TOT with the UTC_time of a moment, and with the CRC of what it has then
abbrev pub tot_retold : ℕ → List ℕ → List ℕ
tot_retold moment s =
    with_crc (take 3 s ++ (moment_bcd moment ++ take (length s - 12) (drop 8 s)))

-- A section that tells the time tells this moment. Any other one stays.
abbrev pub retold : ℕ → List ℕ → List ℕ
retold moment s =
    if is_tdt s then tdt_section moment else if is_tot s then tot_retold moment s else s

abbrev pub sent_retold : ℕ → Sent → Sent
sent_retold moment s = record { pid = s.pid; bytes = retold moment s.bytes }

-- ---- sections that are laid

abbrev pub laid_in : List ℕ → List Placed → List Sent
laid_in bytes placed = map (sent_at bytes) placed

-- They stand end to end, and each can be sent.
pub record AreInLine (bytes : List ℕ) (placed : List Placed) : Type 0 where
  pub laid : AreLaid (laid_in bytes placed) bytes placed
  pub each : AllByRecursion (IsPlaced (length bytes)) placed

-- The section at a place tells this moment, if it tells the time, and of any other moment all are
-- what they were.
pub record Retells (moment at : ℕ) (old new : List Sent) : Type 0 where
  pub here : slice_get new at ≡ option_map (sent_retold moment) (slice_get old at)
  pub others : (m : ℕ) → map (sent_retold m) new ≡ map (sent_retold m) old
