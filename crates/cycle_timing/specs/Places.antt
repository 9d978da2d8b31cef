-- In which packets of an air a section begins and ends (ISO/IEC 13818-1, 2.4.4.2).
use Rattle.std.specs.Prelude.{◌≡◌, ◌⊎◌, ℕ, ◌+◌, ◌<◌, ◌≤◌, List, [], ◌∷◌, ◌++◌, length}
use Rattle.ts_packets.specs.Packets.{joined, piece_of}
use Rattle.ts_packets.specs.Bytes.{Packet}
use Rattle.air_model.specs.Air.{Sent}

-- A section begins in packet n: that is of its PID, and goes on with the rest of a section, or of
-- none, and in it sections begin, this one among them, with its first byte.
pub record BeginsAt (packets : List Packet) (n : ℕ) (s : Sent) : Type 0 where
  pub before : List Packet
  pub packet : Packet
  pub after : List Packet
  pub place : length before ≡ n
  pub are : packets ≡ before ++ packet ∷ after
  pub pid : packet.pid ≡ s.pid
  pub rest : List ℕ
  pub front : List (List ℕ)
  pub next : List (List ℕ)
  pub piece : packet.piece ≡ piece_of rest (front ++ s.bytes ∷ next)
  pub begins : length (rest ++ joined front) < 183

-- the bytes of sections for which a packet has room in which these begin: one with a pointer_field
-- has 183
abbrev pub room_of : List (List ℕ) → ℕ
room_of [] = 184
room_of (s ∷ ss) = 183

-- A packet goes on with `rest`, and then these sections begin in it. A section of these bytes ends
-- there: it is the one that goes on, or one that begins, and its last byte has room.
abbrev pub EndsIn : List ℕ → List (List ℕ) → List ℕ → Type 0
EndsIn rest group bytes =
    ((earlier : List ℕ) × (bytes ≡ earlier ++ rest) × (0 < length rest)
    × (length rest ≤ room_of group))
    ⊎ ((front next : List (List ℕ)) × (group ≡ front ++ bytes ∷ next)
    × (length (rest ++ joined front) + length bytes ≤ 183))

-- A section ends in packet n.
pub record EndsAt (packets : List Packet) (n : ℕ) (s : Sent) : Type 0 where
  pub before : List Packet
  pub packet : Packet
  pub after : List Packet
  pub place : length before ≡ n
  pub are : packets ≡ before ++ packet ∷ after
  pub pid : packet.pid ≡ s.pid
  pub rest : List ℕ
  pub group : List (List ℕ)
  pub piece : packet.piece ≡ piece_of rest group
  pub ends : EndsIn rest group s.bytes

pub record StandsIn (packets : List Packet) (first last : ℕ) (s : Sent) : Type 0 where
  pub begins : BeginsAt packets first s
  pub ends : EndsAt packets last s
