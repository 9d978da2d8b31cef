-- Worked packets: an SDT of two sections, aired with one content and then with another.
use Rattle.std.specs.Prelude.{◌≡◌, ℕ, List, [], ◌∷◌, ◌++◌, map, flat_map, slice_range, refl}
use Rattle.si_base.specs.Crc.{crc_of, crc_from}
use Rattle.si_time.specs.Moments.{moments_compute}
use Rattle.section_codec.specs.declared.table.Key.{Key}
use Rattle.section_codec.specs.declared.table.SubTable.{SubTable}
use Rattle.section_codec.specs.declared.table.Tier3.TheVariants.{Fast}
use Rattle.section_codec.specs.Contents.{Content}
use Rattle.version_book.specs.Airings.{AiredTables}
use Rattle.ts_packets.specs.Bytes.{Packet, bytes_of_packet, packets_alone}
use Rattle.sub_collect.specs.declared.completed.Completed.{Completed}
use Rattle.air_model.specs.Air.{Sent, cycle_sections}
use Rattle.air_model.specs.Making.{counted}
use Rattle.air_laws.specs.Coherence.{completed_of}

abbrev sdt : Key
sdt = record { pid = 17; table = 66; ext = 1; stream = 0; network = 1 }

-- the body of a section with one service
abbrev of : ℕ → List ℕ
of service = 0x00 ∷ 0x01 ∷ 0xFF ∷ 0x00 ∷ service ∷ 0xFF ∷ 0x80 ∷ 0x00 ∷ []

-- a content with these two services
abbrev both : ℕ → ℕ → Content
both first second = record { number = 0; body = of first } ∷ record { number = 1; body = of second } ∷ []

abbrev table_of : Content → SubTable
table_of content = record { key = sdt; tier = Fast; sections = content }

abbrev airing_of : Content → AiredTables
airing_of content = record { tables = table_of content ∷ []; moment = 4257233100; form = record { quota = 200; offsets = [] } }

-- a cycle whose sections each begin in a packet of their own, as an air may have one
abbrev alone : List AiredTables → List Packet → AiredTables → List Packet
alone past sent a = counted sent (flat_map (λ (s : Sent). packets_alone s.pid s.bytes) (cycle_sections past a))

-- a cycle of three packets: the two sections, and the TDT
abbrev one : List Packet
one = alone [] [] (airing_of (both 101 102))

-- and one of another content behind it
abbrev packets : List (List ℕ)
packets = map bytes_of_packet (one ++ alone (airing_of (both 101 102) ∷ []) one (airing_of (both 103 104)))

abbrev done : ℕ → Content → Completed
done version content = record { key = sdt; version = version; sections = content }

row_all : completed_of sdt packets ≡ done 0 (both 101 102) ∷ done 1 (both 103 104) ∷ []
unfolding crc_of crc_from moments_compute
row_all = refl

-- joined behind the first section, the first content is not complete
row_joined : completed_of sdt (slice_range packets 1 6) ≡ done 1 (both 103 104) ∷ []
unfolding crc_of crc_from moments_compute
row_joined = refl

-- and section 1 of the one with section 0 of the other completes nothing
row_mixed : completed_of sdt (slice_range packets 1 4) ≡ []
unfolding crc_of crc_from moments_compute
row_mixed = refl
