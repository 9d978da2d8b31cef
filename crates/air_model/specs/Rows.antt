-- A worked air: one SDT section and the TDT, aired twice, and then another content; and the place of the TDT.
use Rattle.std.specs.Prelude.{◌≡◌, ℕ, List, [], ◌∷◌, ◌++◌, map, replicate, refl}
use Rattle.si_time.specs.Moments.{moments_compute}
use Rattle.section_codec.specs.declared.table.NumberedBody.{NumberedBody}
use Rattle.section_codec.specs.declared.table.SubTable.{SubTable}
use Rattle.section_codec.specs.declared.table.Tier3.{Tier3}
use Rattle.section_codec.specs.declared.table.Tier3.TheVariants.{Fast, Near, Far}
use Rattle.si_base.specs.Crc.{crc_of, crc_from}
use Rattle.air_model.specs.Cycle.{cycle_of}
use Rattle.air_model.specs.Sections.{planned}
use Rattle.version_book.specs.Airings.{AiredTables}
use Rattle.ts_packets.specs.Bytes.{bytes_of_packet}
use Rattle.air_model.specs.Air.{Sent, Aired, weights_once, before_tdt, behind_tdt, cycle_sections, air_bytes}
use Rattle.air_model.specs.Making.{cycle_dense}

abbrev sdt_body : List ℕ
sdt_body = 0x00 ∷ 0x01 ∷ 0xFF ∷ 0x00 ∷ 0x65 ∷ 0xFF ∷ 0x80 ∷ 0x0D ∷ 0x48 ∷ 0x0B ∷ 0x01 ∷ 0x04 ∷ 0x41 ∷ 0x63 ∷ 0x6D ∷ 0x65 ∷ 0x04 ∷ 0x4E ∷ 0x65 ∷ 0x77 ∷ 0x73 ∷ []

abbrev sdt_of : List ℕ → SubTable
sdt_of body = record { key = record { pid = 17; table = 66; ext = 1; stream = 0; network = 1 }; tier = Fast; sections = record { number = 0; body = body } ∷ [] }

abbrev airing_of : List ℕ → ℕ → AiredTables
airing_of body moment = record { tables = sdt_of body ∷ []; moment = moment; form = record { quota = 200; offsets = [] } }

abbrev sdt_section : List ℕ
sdt_section = 0x42 ∷ 0xF0 ∷ 0x1E ∷ 0x00 ∷ 0x01 ∷ 0xC1 ∷ 0x00 ∷ 0x00 ∷ 0x00 ∷ 0x01 ∷ 0xFF ∷ 0x00 ∷ 0x65 ∷ 0xFF ∷ 0x80 ∷ 0x0D ∷ 0x48 ∷ 0x0B ∷ 0x01 ∷ 0x04 ∷ 0x41 ∷ 0x63 ∷ 0x6D ∷ 0x65 ∷ 0x04 ∷ 0x4E ∷ 0x65 ∷ 0x77 ∷ 0x73 ∷ 0xB5 ∷ 0x82 ∷ 0xAF ∷ 0xDD ∷ []

-- 1993-10-13T12:45:00Z, and the TDT of that moment
abbrev annex : ℕ
annex = 4257233100

abbrev annex_section : List ℕ
annex_section = 0x70 ∷ 0x70 ∷ 0x05 ∷ 0xC0 ∷ 0x79 ∷ 0x12 ∷ 0x45 ∷ 0x00 ∷ []

row_sections : cycle_sections [] (airing_of sdt_body annex) ≡
    record { pid = 17; bytes = sdt_section } ∷ record { pid = 20; bytes = annex_section } ∷ []
unfolding crc_of crc_from moments_compute
row_sections = refl

abbrev first : Aired
first = record { airing = airing_of sdt_body annex; packets = cycle_dense [] [] (airing_of sdt_body annex) }

-- the same content again, at 23:59:59: the version stays, and the counters go on
abbrev second : Aired
second = record { airing = airing_of sdt_body 4257273599; packets = cycle_dense (first.airing ∷ []) first.packets (airing_of sdt_body 4257273599) }

row_air : air_bytes (first ∷ second ∷ []) ≡
    0x47 ∷ 0x40 ∷ 0x11 ∷ 0x10 ∷ 0x00 ∷ sdt_section ++ replicate 150 0xFF
    ++ (0x47 ∷ 0x40 ∷ 0x14 ∷ 0x10 ∷ 0x00 ∷ annex_section ++ replicate 175 0xFF)
    ++ (0x47 ∷ 0x40 ∷ 0x11 ∷ 0x11 ∷ 0x00 ∷ sdt_section ++ replicate 150 0xFF)
    ++ (0x47 ∷ 0x40 ∷ 0x14 ∷ 0x11 ∷ 0x00 ∷ 0x70 ∷ 0x70 ∷ 0x05 ∷ 0xC0 ∷ 0x79 ∷ 0x23 ∷ 0x59 ∷ 0x59 ∷ replicate 175 0xFF)
unfolding crc_of crc_from moments_compute
row_air = refl

-- another content, at 1970-01-01T00:00:00Z: the version is 1, and the counters are 2
row_changed : map bytes_of_packet (cycle_dense (first.airing ∷ second.airing ∷ []) (first.packets ++ second.packets) (airing_of (0x00 ∷ 0x01 ∷ 0xFF ∷ []) 3506716800)) ≡
    (0x47 ∷ 0x40 ∷ 0x11 ∷ 0x12 ∷ 0x00 ∷ 0x42 ∷ 0xF0 ∷ 0x0C ∷ 0x00 ∷ 0x01 ∷ 0xC3 ∷ 0x00 ∷ 0x00 ∷ 0x00 ∷ 0x01 ∷ 0xFF ∷ 0x32 ∷ 0x21 ∷ 0xB1 ∷ 0x33 ∷ replicate 168 0xFF)
    ∷ (0x47 ∷ 0x40 ∷ 0x14 ∷ 0x12 ∷ 0x00 ∷ 0x70 ∷ 0x70 ∷ 0x05 ∷ 0x9E ∷ 0x8B ∷ 0x00 ∷ 0x00 ∷ 0x00 ∷ replicate 175 0xFF) ∷ []
unfolding crc_of crc_from moments_compute
row_changed = refl

-- ---- the place of the TDT

abbrev table_of : ℕ → ℕ → Tier3 → SubTable
table_of pid table tier = record { key = record { pid = pid; table = table; ext = 1; stream = 0; network = 0 }; tier = tier; sections = [] }

abbrev leading : List SubTable
leading = table_of 0 0x00 Fast ∷ table_of 256 0x02 Fast ∷ table_of 16 0x40 Fast ∷ table_of 17 0x42 Fast ∷ []

abbrev others : List SubTable
others = table_of 18 0x4E Fast ∷ table_of 18 0x50 Near ∷ []

-- behind PAT, PMT, NIT and SDT, and before present and following
row_before : before_tdt (leading ++ others) ≡ leading
row_before = refl

row_behind : behind_tdt (leading ++ others) ≡ others
row_behind = refl

-- before event information alone, and alone where nothing else is aired
row_first : before_tdt others ≡ []
row_first = refl

row_alone : cycle_sections [] (record { tables = []; moment = annex; form = record { quota = 200; offsets = [] } }) ≡
    record { pid = 20; bytes = annex_section } ∷ []
unfolding moments_compute
row_alone = refl

-- ---- the order of a cycle

abbrev of_bodies : ℕ → Tier3 → List NumberedBody → SubTable
of_bodies table tier sections = record { key = record { pid = 18; table = table; ext = 1; stream = 1; network = 1 }; tier = tier; sections = sections }

-- a Near section and two Far ones, each of one packet, and a quota of three packets
abbrev with_far : AiredTables
with_far = record {
  tables = of_bodies 0x50 Near (record { number = 0; body = [] } ∷ []) ∷ of_bodies 0x58 Far (record { number = 0; body = [] } ∷ record { number = 8; body = [] } ∷ []) ∷ [];
  moment = annex;
  form = record { quota = 3; offsets = [] };
}

-- the TDT, Near, Far, Near; and again the TDT, and the other Far section
row_order : cycle_of (planned (weights_once [] with_far) 3) ≡ 0 ∷ 1 ∷ 2 ∷ 1 ∷ 0 ∷ 3 ∷ []
unfolding moments_compute
row_order = refl

row_sent : map (λ (s : Sent). s.pid) (cycle_sections [] with_far) ≡ 20 ∷ 18 ∷ 18 ∷ 18 ∷ 20 ∷ 18 ∷ []
unfolding moments_compute
row_sent = refl
