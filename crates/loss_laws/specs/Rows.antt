-- Worked packets: what is held of an SDT of two sections, aired with one content, with another, and with the same again.
use Rattle.std.specs.Prelude.{◌≡◌, ℕ, List, [], ◌∷◌, ◌++◌, map, flat_map, slice_range, refl}
use Rattle.si_base.specs.Crc.{crc_of, crc_from}
use Rattle.si_time.specs.Moments.{moments_compute}
use Rattle.section_codec.specs.declared.table.Key.{Key}
use Rattle.section_codec.specs.declared.table.SubTable.{SubTable}
use Rattle.section_codec.specs.declared.table.Tier3.TheVariants.{Fast}
use Rattle.section_codec.specs.Contents.{Content}
use Rattle.version_book.specs.Airings.{AiredTables}
use Rattle.ts_packets.specs.Bytes.{Packet, bytes_of_packet, packets_alone}
use Rattle.sub_collect.specs.Parts.{part_of}
use Rattle.strict_receiver.specs.Strict.{taken_of}
use Rattle.air_model.specs.Air.{Sent, cycle_sections}
use Rattle.air_model.specs.Making.{counted}
use Rattle.loss_laws.specs.Aired.{part_heard}

abbrev sdt : Key
sdt = record { pid = 17; table = 66; ext = 1; stream = 0; network = 1 }

-- the body of a section with one service
abbrev of : ℕ → List ℕ
of service = 0x00 ∷ 0x01 ∷ 0xFF ∷ 0x00 ∷ service ∷ 0xFF ∷ 0x80 ∷ 0x00 ∷ []

-- section 0 with this service, and section 1 with that one
abbrev zeroth : ℕ → Content
zeroth service = record { number = 0; body = of service } ∷ []

abbrev first : ℕ → Content
first service = record { number = 1; body = of service } ∷ []

abbrev table_of : Content → SubTable
table_of content = record { key = sdt; tier = Fast; sections = content }

abbrev airing_of : Content → AiredTables
airing_of content = record { tables = table_of content ∷ []; moment = 4257233100; form = record { quota = 200; offsets = [] } }

-- a cycle whose sections each begin in a packet of their own, as an air may have one
abbrev alone : List AiredTables → List Packet → AiredTables → List Packet
alone past sent a = counted sent (flat_map (λ (s : Sent). packets_alone s.pid s.bytes) (cycle_sections past a))

abbrev old : Content
old = zeroth 101 ++ first 102

-- a cycle of three packets: the two sections, and the TDT
abbrev one : List Packet
one = alone [] [] (airing_of old)

-- and then one of another content, or of the same
abbrev changed : List (List ℕ)
changed = map bytes_of_packet (one ++ alone (airing_of old ∷ []) one (airing_of (zeroth 103 ++ first 104)))

abbrev repeated : List (List ℕ)
repeated = map bytes_of_packet (one ++ alone (airing_of old ∷ []) one (airing_of old))

-- a version that is not whole hides no older one that is
row_older : part_heard sdt (slice_range changed 0 4) ≡ old
unfolding crc_of crc_from moments_compute
row_older = refl

-- joined after the first section, the second is held, until a section of the next version comes
row_joined : part_heard sdt (slice_range changed 1 3) ≡ first 102
unfolding crc_of crc_from moments_compute
row_joined = refl

row_newer : part_heard sdt (slice_range changed 1 4) ≡ zeroth 103
unfolding crc_of crc_from moments_compute
row_newer = refl

-- section 0 of the one cycle and section 1 of the next, of one version: the packets between them are lost
abbrev came : List (List ℕ)
came = slice_range repeated 0 1 ++ slice_range repeated 4 5

-- a strict receiver holds what came since the loss, and any other one both
row_strict : part_of sdt (taken_of came) ≡ first 102
unfolding crc_of crc_from moments_compute
row_strict = refl

row_any : part_heard sdt came ≡ old
unfolding crc_of crc_from moments_compute
row_any = refl
