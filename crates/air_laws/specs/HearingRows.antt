-- A worked air: one SDT section and the TDT, aired twice, and then another content; and the version changes of it.
use Rattle.std.specs.Prelude.{◌≡◌, ℕ, List, [], ◌∷◌, map, filter_map, refl}
use Rattle.si_base.specs.Crc.{crc_of, crc_from}
use Rattle.si_time.specs.Moments.{moments_compute}
use Rattle.section_codec.specs.declared.table.Key.{Key}
use Rattle.section_codec.specs.declared.table.SubTable.{SubTable}
use Rattle.section_codec.specs.declared.table.Tier3.TheVariants.{Fast}
use Rattle.version_book.specs.Airings.{AiredTables}
use Rattle.guide_receiver.specs.Counting.{counted_among}
use Rattle.air_model.specs.Air.{sent_on}
use Rattle.air_laws.specs.Sending.{sections_sent}
use Rattle.air_laws.specs.Counting.{raw_of}
use Rattle.air_laws.specs.Changes.{changes_of}

abbrev sdt : Key
sdt = record { pid = 17; table = 66; ext = 1; stream = 0; network = 1 }

abbrev sdt_with : ℕ → SubTable
sdt_with service = record { key = sdt; tier = Fast; sections = record { number = 0; body = 0x00 ∷ 0x01 ∷ 0xFF ∷ 0x00 ∷ service ∷ 0xFF ∷ 0x80 ∷ 0x00 ∷ [] } ∷ [] }

abbrev airing_of : ℕ → ℕ → AiredTables
airing_of service moment = record { tables = sdt_with service ∷ []; moment = moment; form = record { quota = 200; offsets = [] } }

abbrev airings : List AiredTables
airings = airing_of 101 5 ∷ airing_of 101 9 ∷ airing_of 102 12 ∷ airing_of 101 30 ∷ []

-- the first airing, and each that carries another content than the one before, also where a content returns
row_changes : changes_of sdt [] airings ≡ record { key = sdt; version = 0 } ∷ record { key = sdt; version = 1 } ∷ record { key = sdt; version = 2 } ∷ []
row_changes = refl

-- each section of the SDT counts, changed or not, and no TDT does
row_counted : counted_among (map raw_of (sections_sent [] (airing_of 101 5 ∷ airing_of 101 9 ∷ airing_of 102 12 ∷ []))) ≡
    record { key = sdt; version = 0; number = 0; last = 0; body = 0x00 ∷ 0x01 ∷ 0xFF ∷ 0x00 ∷ 101 ∷ 0xFF ∷ 0x80 ∷ 0x00 ∷ [] }
    ∷ record { key = sdt; version = 0; number = 0; last = 0; body = 0x00 ∷ 0x01 ∷ 0xFF ∷ 0x00 ∷ 101 ∷ 0xFF ∷ 0x80 ∷ 0x00 ∷ [] }
    ∷ record { key = sdt; version = 1; number = 0; last = 0; body = 0x00 ∷ 0x01 ∷ 0xFF ∷ 0x00 ∷ 102 ∷ 0xFF ∷ 0x80 ∷ 0x00 ∷ [] } ∷ []
unfolding crc_of crc_from moments_compute
row_counted = refl

-- on PID 0x0014 each airing has its TDT: of 1993-10-13T12:45:00Z, and of 1970-01-01T00:00:00Z
row_times : filter_map (sent_on 0x0014) (sections_sent [] (airing_of 101 4257233100 ∷ airing_of 101 3506716800 ∷ [])) ≡
    (0x70 ∷ 0x70 ∷ 0x05 ∷ 0xC0 ∷ 0x79 ∷ 0x12 ∷ 0x45 ∷ 0x00 ∷ []) ∷ (0x70 ∷ 0x70 ∷ 0x05 ∷ 0x9E ∷ 0x8B ∷ 0x00 ∷ 0x00 ∷ 0x00 ∷ []) ∷ []
unfolding moments_compute
row_times = refl
