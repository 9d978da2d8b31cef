-- Worked rows of the definitions.
use Rattle.std.specs.Prelude.{◌≡◌, ℕ, List, [], ◌∷◌, ◌++◌, replicate, refl}
use Rattle.packet_reader.specs.Recordings.{AtEnd, Broken, PastLimit, packets_in, recording}

abbrev a_packet : List ℕ
a_packet = 0x47 ∷ replicate 187 0

no_packets : recording [] ≡ ([], AtEnd)
no_packets = refl

two_packets : packets_in 2 (a_packet ++ a_packet) ≡ (a_packet ∷ a_packet ∷ [], AtEnd)
two_packets = refl

-- 187 bytes are no packet, also behind one
short : packets_in 2 (0x47 ∷ replicate 186 0) ≡ ([], Broken)
short = refl

short_behind : packets_in 2 (a_packet ++ 0x47 ∷ []) ≡ (a_packet ∷ [], Broken)
short_behind = refl

-- nor is a piece that begins otherwise
no_sync : packets_in 3 (a_packet ++ 0x48 ∷ replicate 187 0) ≡ (a_packet ∷ [], Broken)
no_sync = refl

-- one byte past the last packet that may come, whatever it is
past_limit : packets_in 1 (a_packet ++ 0x48 ∷ []) ≡ (a_packet ∷ [], PastLimit)
past_limit = refl
