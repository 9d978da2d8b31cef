-- Worked rows of the definitions.
use Rattle.std.specs.Prelude.{◌≡◌, ◌∷◌, ◌++◌, [], ℕ, List, true, false, replicate, refl, Some, None}
use Rattle.packet_reader.specs.Recordings.{AtEnd, PastLimit}
use Rattle.packet_finder.specs.Pieces.{Packet, Junk, found_in, row_length}

abbrev a_packet : List ℕ
a_packet = 0x47 ∷ replicate 187 0

-- two packets, and 8 bytes between
junk_between : found_in true 2 None (a_packet ++ (replicate 8 0 ++ a_packet)) ≡ (Packet a_packet ∷ Junk 8 ∷ Packet a_packet ∷ [], AtEnd)
unfolding row_length found_in
junk_between = refl

-- before the source ended, only the first is given once 188 bytes have come, in sync
first_alone : found_in false 2 (Some 0) (a_packet ++ replicate 187 0) ≡ (Packet a_packet ∷ [], AtEnd)
unfolding row_length found_in
first_alone = refl

-- and where a row is sought, once 409 have
none_at_front : found_in false 2 None (a_packet ++ replicate 220 0) ≡ ([], AtEnd)
unfolding row_length found_in
none_at_front = refl

one_at_front : found_in false 2 None (a_packet ++ replicate 221 0) ≡ (Packet a_packet ∷ [], AtEnd)
unfolding row_length found_in
one_at_front = refl

-- packets of 192 bytes, each with 4 bytes before it
stamped : found_in true 3 None (replicate 4 0 ++ (a_packet ++ (replicate 4 0 ++ a_packet))) ≡ (Junk 4 ∷ Packet a_packet ∷ Packet a_packet ∷ [], AtEnd)
unfolding row_length found_in
stamped = refl

-- and of 204, each with 16 bytes behind it
checked : found_in true 2 None (a_packet ++ (replicate 16 0 ++ (a_packet ++ replicate 16 0))) ≡ (Packet a_packet ∷ Packet a_packet ∷ [], AtEnd)
unfolding row_length found_in
checked = refl

-- the first packet needs no row
first_packet : found_in true 2 None (a_packet ++ replicate 188 0) ≡ (Packet a_packet ∷ Junk 188 ∷ [], AtEnd)
unfolding row_length found_in
first_packet = refl

-- a packet cut short at the end
cut_short : found_in true 2 None (a_packet ++ (0x47 ∷ replicate 186 0)) ≡ (Packet a_packet ∷ Junk 187 ∷ [], AtEnd)
unfolding row_length found_in
cut_short = refl

-- no packet, and no byte
text_alone : found_in true 2 None (replicate 20 0x47) ≡ (Junk 20 ∷ [], AtEnd)
unfolding row_length found_in
text_alone = refl

no_bytes : found_in true 2 None [] ≡ ([], AtEnd)
unfolding row_length found_in
no_bytes = refl

-- a byte behind the last packet that may come and its tail; up to 16 bytes are a tail where no more stand behind them
past_limit : found_in true 1 None (a_packet ++ replicate 17 0) ≡ (Packet a_packet ∷ [], PastLimit)
unfolding row_length found_in
past_limit = refl
