-- What `next` of a reader of packets does.
use Rattle.std.specs.Prelude.{◌≡◌, ℕ, ◌+◌, ◌-◌, ◌<◌, List, [], ◌∷◌, ◌++◌, true, Bool, false, length, slice_index, Option, Some, None, Ok, Err, Result}
use Rattle.std.specs.Io.KnownBytes.{Consumes, IsAtEnd, prepend_known}
use Rattle.si_causes.specs.Causes.{Rose}
use Rattle.packet_reader.specs.Recordings.{RecordingEnd, RecordingEnd.AtEnd, RecordingEnd.Broken, RecordingEnd.PastLimit, packet_limit, packets_in}
use Rattle.packet_reader.specs.declared.stop.PacketStop.{PacketStop}
use Rattle.packet_reader.specs.declared.stop.PacketStop.TheVariants as stop

-- a reader of packets over a source
pub record PacketReading (S : Type 0) : Type 0 where
  pub source : S
  -- bytes that the source gave and that stand in no packet yet
  pub held : List ℕ
  -- how many packets were handed out
  pub number : ℕ
  -- the last of them
  pub packet : List ℕ
  -- whether the source told its end
  pub ended : Bool
  -- why there are no more
  pub stop : Option PacketStop

-- a reader that has read nothing
abbrev pub fresh : {S : Type 0} → S → PacketReading S
fresh source = record { source = source; held = []; number = 0; packet = []; ended = false; stop = None }

-- the bytes that a reader has still to give packets of, where the source tells them
abbrev pub bytes_left : {S : Type 0} → (S → Option (List ℕ)) → PacketReading S → Option (List ℕ)
bytes_left left reader = prepend_known reader.held (left reader.source)

-- how many packets may still come
abbrev pub packets_to_come : {S : Type 0} → PacketReading S → ℕ
packets_to_come reader = packet_limit - reader.number

-- What a call gives of the packets that were left of told bytes: the first of them with its number, and then the others
-- are left; or the stop. A read that failed gives nothing of them.
abbrev pub GivesPacket : {S : Type 0} → (S → Option (List ℕ)) → PacketReading S → PacketReading S → List (List ℕ) × RecordingEnd → Result (Option ℕ) PacketStop → Type 0
GivesPacket left old new (packet ∷ packets, end) (Ok (Some n)) =
    (new.packet ≡ packet) × ((rest : List ℕ) × (bytes_left left new ≡ Some rest) × (packets_in (packets_to_come new) rest ≡ (packets, end)))
GivesPacket left old new ([], AtEnd) (Ok None) = bytes_left left new ≡ Some []
GivesPacket left old new ([], Broken) (Err (stop.Broken n)) = Unit {0}
GivesPacket left old new ([], PastLimit) (Err stop.TooLong) = Unit {0}
GivesPacket left old new packets (Err stop.Failed) = Unit {0}
GivesPacket left old new packets result = ⊥

-- What a call takes: the packet that it gives, of bytes that are told; and where a read failed, what the source gave in this call, which
-- with the bytes that were held is less than a packet.
abbrev pub TakesPacket : {S : Type 0} → (S → Option (List ℕ)) → PacketReading S → PacketReading S → Result (Option ℕ) PacketStop → Type 0
TakesPacket left old new (Ok (Some n)) = (bytes : List ℕ) → bytes_left left old ≡ Some bytes → (rest : List ℕ) × (bytes_left left new ≡ Some rest) × (bytes ≡ new.packet ++ rest)
TakesPacket left old new (Err stop.Failed) = (more : List ℕ) × Consumes (left old.source) (left new.source) more × (length (old.held ++ more) < 188)
TakesPacket left old new result = Unit {0}

-- what the calls tell of the reader alone: packets are counted from 0, and each is one
abbrev pub Counts : {S : Type 0} → PacketReading S → PacketReading S → Result (Option ℕ) PacketStop → Type 0
Counts old new (Ok (Some n)) = (n ≡ old.number) × (new.number ≡ n + 1) × (n < packet_limit) × (length new.packet ≡ 188) × (slice_index new.packet 0 ≡ 0x47) × (new.stop ≡ None)
Counts old new (Ok None) = (new.number ≡ old.number) × (new.ended ≡ true) × (new.stop ≡ None)
Counts old new (Err (stop.Broken n)) = (n ≡ old.number) × (new.number ≡ old.number) × (new.stop ≡ Some (stop.Broken n))
Counts old new (Err stop.TooLong) = (new.number ≡ old.number) × (new.stop ≡ Some stop.TooLong)
Counts old new (Err stop.Failed) = (new.number ≡ old.number) × (new.stop ≡ Some stop.Failed)

-- At a piece that is no packet nothing is taken: it stands first of what is held, and where that is shorter than a packet, the source is at
-- its end.
abbrev pub KeepsPiece : {S : Type 0} → (S → Option (List ℕ)) → PacketReading S → PacketReading S → Result (Option ℕ) PacketStop → Type 0
KeepsPiece left old new (Err (stop.Broken n)) =
    ((bytes : List ℕ) → bytes_left left old ≡ Some bytes → bytes_left left new ≡ Some bytes) × (length new.held < 188 → IsAtEnd (left new.source))
KeepsPiece left old new result = Unit {0}

-- a read that failed raised the count
abbrev pub HasCause : {T : Type 0} → ℕ → ℕ → Result T PacketStop → Type 0
HasCause before now (Err stop.Failed) = Rose before now
HasCause before now result = Unit {0}

-- a call met no fault, but where it answers `Failed`: the count is as it was
abbrev pub IsQuietUnlessFailed : {T : Type 0} → ℕ → ℕ → Result T PacketStop → Type 0
IsQuietUnlessFailed before now (Err stop.Failed) = Unit {0}
IsQuietUnlessFailed before now result = now ≡ before

-- the source gave some bytes, and they stand behind those that were held
abbrev pub Gathers : Option (List ℕ) → Option (List ℕ) → List ℕ → List ℕ → Type 0
Gathers left_old left_new held_old held_new = (more : List ℕ) × (held_new ≡ held_old ++ more) × Consumes left_old left_new more
