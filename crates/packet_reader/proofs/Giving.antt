-- What a call of `next` tells of the bytes that were left.
use Rattle.std.proofs.Common.{◌≡◌, ◌≢◌, ℕ, zero, suc, ◌<◌, ◌≤◌, ◌==◌, true, false, Bool, List, [], ◌∷◌, ◌++◌, length, take, drop, slice_index, refl, sym, ap, subst, ◌∙◌, arith, append-nil, length-append, Option, Some, None, Ok, Err}
use Rattle.std.specs.Prelude.{if◌then◌else◌}
use Rattle.std.specs.Io.KnownBytes.{IsAtEnd, prepend_known}
use Rattle.packet_reader.specs.Recordings.{RecordingEnd, RecordingEnd.AtEnd, RecordingEnd.Broken, RecordingEnd.PastLimit, is_packet, and_packet, packets_in}
use Rattle.packet_reader.specs.Reading.{GivesPacket, PacketReading, bytes_left}
use Rattle.packet_reader.specs.declared.stop.PacketStop.TheVariants as packet

abbrev Recording : Type 0
Recording = List (List ℕ) × RecordingEnd

pub given_end : {S : Type 0} (left : S → Option (List ℕ)) (before new : PacketReading S) (p : Recording) → GivesPacket left before new p (Ok None) → p ≡ ([], AtEnd)
given_end left before new (q ∷ packets, end) gives = absurd gives
given_end left before new ([], AtEnd) gives = refl
given_end left before new ([], Broken) gives = absurd gives
given_end left before new ([], PastLimit) gives = absurd gives

pub given_broken : {S : Type 0} (left : S → Option (List ℕ)) (before new : PacketReading S) (p : Recording) (n : ℕ) → GivesPacket left before new p (Err (packet.Broken n)) → p ≡ ([], Broken)
given_broken left before new (q ∷ packets, end) n gives = absurd gives
given_broken left before new ([], AtEnd) n gives = absurd gives
given_broken left before new ([], Broken) n gives = refl
given_broken left before new ([], PastLimit) n gives = absurd gives

pub given_past : {S : Type 0} (left : S → Option (List ℕ)) (before new : PacketReading S) (p : Recording) → GivesPacket left before new p (Err packet.TooLong) → p ≡ ([], PastLimit)
given_past left before new (q ∷ packets, end) gives = absurd gives
given_past left before new ([], AtEnd) gives = absurd gives
given_past left before new ([], Broken) gives = absurd gives
given_past left before new ([], PastLimit) gives = refl

-- ---- the bytes that stop so

abbrev apart : RecordingEnd → RecordingEnd → Type 0
apart AtEnd Broken = ⊥
apart AtEnd PastLimit = ⊥
apart Broken AtEnd = ⊥
apart Broken PastLimit = ⊥
apart PastLimit AtEnd = ⊥
apart PastLimit Broken = ⊥
apart other another = Unit {0}

own : (end : RecordingEnd) → apart end end
own AtEnd = tt
own Broken = tt
own PastLimit = tt

-- recordings with two ends are two
two_ends : (p q : Recording) → p ≡ q → apart p.1 q.1
two_ends p q e = subst (λ (r : Recording). apart p.1 r.1) e (own p.1)

abbrev no_packets : Recording → Type 0
no_packets ([], end) = Unit {0}
no_packets (p ∷ packets, end) = ⊥

-- and one with a packet is none without
some_packet : (p : List ℕ) (rest : Recording) (end : RecordingEnd) → and_packet p rest ≡ ([], end) → ⊥
some_packet p rest end e = subst no_packets (sym e) tt

-- no byte is left at the end
pub none_at_end : (n : ℕ) (bytes : List ℕ) → packets_in n bytes ≡ ([], AtEnd) → bytes ≡ []
none_at_end n [] e = refl
none_at_end zero (b ∷ bytes) e = absurd (two_ends (packets_in zero (b ∷ bytes)) ([], AtEnd) e)
none_at_end (suc n) (b ∷ bytes) e = of (is_packet (take 188 (b ∷ bytes))) e
  where
    of : (is : Bool) → (if is then and_packet (take 188 (b ∷ bytes)) (packets_in n (drop 188 (b ∷ bytes))) else ([], Broken)) ≡ ([], AtEnd) → b ∷ bytes ≡ []
    of true h = absurd (some_packet (take 188 (b ∷ bytes)) (packets_in n (drop 188 (b ∷ bytes))) AtEnd h)
    of false h = absurd (two_ends ([], Broken) ([], AtEnd) h)

-- some is left past the limit
pub some_past_limit : (n : ℕ) (bytes : List ℕ) → packets_in n bytes ≡ ([], PastLimit) → (n ≡ 0) × (0 < length bytes)
some_past_limit n [] e = absurd (two_ends ([], AtEnd) ([], PastLimit) e)
some_past_limit zero (b ∷ bytes) e = (refl, omega arith)
some_past_limit (suc n) (b ∷ bytes) e = of (is_packet (take 188 (b ∷ bytes))) e
  where
    of : (is : Bool) → (if is then and_packet (take 188 (b ∷ bytes)) (packets_in n (drop 188 (b ∷ bytes))) else ([], Broken)) ≡ ([], PastLimit) → (suc n ≡ 0) × (0 < length (b ∷ bytes))
    of true h = absurd (some_packet (take 188 (b ∷ bytes)) (packets_in n (drop 188 (b ∷ bytes))) PastLimit h)
    of false h = absurd (two_ends ([], Broken) ([], PastLimit) h)

-- a piece is left that is no packet
pub some_broken : (n : ℕ) (bytes : List ℕ) → packets_in n bytes ≡ ([], Broken) → (0 < length bytes) × (is_packet (take 188 bytes) ≡ false)
some_broken n [] e = absurd (two_ends ([], AtEnd) ([], Broken) e)
some_broken zero (b ∷ bytes) e = absurd (two_ends ([], PastLimit) ([], Broken) e)
some_broken (suc n) (b ∷ bytes) e = (omega arith, of (is_packet (take 188 (b ∷ bytes))) refl e)
  where
    of : (is : Bool) → is_packet (take 188 (b ∷ bytes)) ≡ is → (if is then and_packet (take 188 (b ∷ bytes)) (packets_in n (drop 188 (b ∷ bytes))) else ([], Broken)) ≡ ([], Broken) → is_packet (take 188 (b ∷ bytes)) ≡ false
    of true s h = absurd (some_packet (take 188 (b ∷ bytes)) (packets_in n (drop 188 (b ∷ bytes))) Broken h)
    of false s h = s

-- where the source is at its end, what is held is all that is left
pub held_at_end : (held rest : List ℕ) (left : Option (List ℕ)) → prepend_known held left ≡ Some rest → IsAtEnd left → rest ≡ held
held_at_end held rest None e at = cc e
held_at_end held rest (Some more) e at = (let same : held ++ more ≡ rest = cc e in sym same ∙ ap (λ (l : List ℕ). held ++ l) at ∙ append-nil held)

-- what is held stands first of what is left
pub held_first : (held rest : List ℕ) (left : Option (List ℕ)) → prepend_known held left ≡ Some rest → (more : List ℕ) × (rest ≡ held ++ more)
held_first held rest None e = cc e
held_first held rest (Some more) e = (more, (let same : held ++ more ≡ rest = cc e in sym same))
