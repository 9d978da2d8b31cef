-- Worked packets.
use Rattle.std.specs.Prelude.{◌≡◌, ℕ, List, [], ◌∷◌, ◌++◌, true, drop, map, replicate, refl, Ok, Err, Some, None}
use Rattle.ts_packets.specs.declared.shape.Shape.TheVariants.{Pass, Gap, Load}
use Rattle.ts_packets.specs.declared.shape.BadPacket.TheVariants.{Sync}
use Rattle.ts_packets.specs.Bytes.{bytes_of_packet, packets_alone, shape_in, with_counter}
use Rattle.ts_packets.specs.Counting.{next_after}
use Rattle.ts_packets.specs.PidCounters.{kept_from}

-- an SDT section
abbrev pub row_section : List ℕ
row_section = 0x42 ∷ 0xF0 ∷ 0x1E ∷ 0x00 ∷ 0x01 ∷ 0xC1 ∷ 0x00 ∷ 0x00 ∷ 0x00 ∷ 0x01 ∷ 0xFF ∷ 0x00 ∷ 0x65 ∷ 0xFF ∷ 0x80 ∷ 0x0D ∷ 0x48 ∷ 0x0B ∷ 0x01 ∷ 0x04 ∷ 0x41 ∷ 0x63 ∷ 0x6D ∷ 0x65 ∷ 0x04 ∷ 0x4E ∷ 0x65 ∷ 0x77 ∷ 0x73 ∷ 0xB5 ∷ 0x82 ∷ 0xAF ∷ 0xDD ∷ []

abbrev pub row_packet : List ℕ
row_packet = 0x47 ∷ 0x40 ∷ 0x11 ∷ 0x10 ∷ 0x00 ∷ row_section ++ replicate 150 0xFF

row_alone : map bytes_of_packet (packets_alone 17 row_section) ≡ row_packet ∷ []
row_alone = refl

row_read : shape_in row_packet ≡ Ok (Load 17 true 0 4)
row_read = refl

row_stamped : with_counter 15 row_packet ≡ 0x47 ∷ 0x40 ∷ 0x11 ∷ 0x1F ∷ drop 4 row_packet
row_stamped = refl

-- 184 bytes: one more than a first packet holds
row_two : map bytes_of_packet (packets_alone 0x1FFE (replicate 183 1 ++ 2 ∷ [])) ≡
    (0x47 ∷ 0x5F ∷ 0xFE ∷ 0x10 ∷ 0x00 ∷ replicate 183 1) ∷ (0x47 ∷ 0x1F ∷ 0xFE ∷ 0x10 ∷ 2 ∷ replicate 183 0xFF) ∷ []
row_two = refl

row_sync : shape_in (0x48 ∷ drop 1 row_packet) ≡ Err Sync
row_sync = refl

row_error : shape_in (0x47 ∷ 0xC0 ∷ drop 2 row_packet) ≡ Ok (Gap 17)
row_error = refl

-- an adaptation field of 182 bytes leaves one byte, one of 183 none
row_one_left : shape_in (0x47 ∷ 0x40 ∷ 0x11 ∷ 0x30 ∷ 182 ∷ []) ≡ Ok (Load 17 true 0 187)
row_one_left = refl

row_none_left : shape_in (0x47 ∷ 0x40 ∷ 0x11 ∷ 0x30 ∷ 183 ∷ []) ≡ Ok (Gap 17)
row_none_left = refl

row_null : shape_in (0x47 ∷ 0x1F ∷ 0xFF ∷ 0x10 ∷ []) ≡ Ok Pass
row_null = refl

-- behind 16 packets of a PID the next one has 0 again, and that is kept; where there was no packet, nothing is
row_sixteen : next_after 16 ≡ Some 0
row_sixteen = refl

row_kept : kept_from 17 (Some 0 ∷ None ∷ Some 15 ∷ []) ≡ record { pid = 17; next = 0 } ∷ record { pid = 19; next = 15 } ∷ []
row_kept = refl
