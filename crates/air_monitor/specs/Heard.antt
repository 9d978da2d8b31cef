-- What a monitor hears of the bytes that an air took.
use Rattle.std.specs.Prelude.{◌≡◌, ℕ, ◌+◌, ◌<◌, List, ◌++◌, length, drop, map, slice_index, Bool, true, false, Option}
use Rattle.std.specs.List.{AllByRecursion}
use Rattle.std.specs.Io.KnownBytes.{Appends}
use Rattle.guide_receiver.specs.declared.done.DoneKey.{DoneKey}
use Rattle.guide_receiver.specs.Heard.{Hearing, ReceiverStandsFor}
use Rattle.guide_receiver.specs.Dones.{DoneAt, dones_of}
use Rattle.air_monitor.specs.declared.done_line.DoneLine.{DoneLine}
use Rattle.ts_packets.specs.Packets.{joined}
use Rattle.ts_packets.specs.WholePackets.{AreWhole, whole_packets}

-- ---- the packets of an air

-- each begins with the sync_byte
abbrev pub AreInSync : List (List ℕ) → Type 0
AreInSync packets = AllByRecursion (λ (p : List ℕ). slice_index p 0 ≡ 0x47) packets

-- ---- the completions

-- a completion that the packet with this number shows
abbrev pub line_at : ℕ → DoneKey → DoneLine
line_at packet done = record { packet = packet; key = done.key; version = done.version }

abbrev pub lines_at : ℕ → List DoneKey → List DoneLine
lines_at packet dones = map (line_at packet) dones

-- the completions that packets show of which the first has number `join`
abbrev pub lines_from : ℕ → List (List ℕ) → List DoneLine
lines_from join packets = map (λ (d : DoneAt). line_at (join + d.packet) d.done) (dones_of packets)

-- those of an air, from packet `join` on
abbrev pub lines_of_air : ℕ → List ℕ → List DoneLine
lines_of_air join bytes = lines_from join (drop join (whole_packets bytes))

abbrev pub IsFrontOf : List DoneLine → List DoneLine → Type 0
IsFrontOf front all = (rest : List DoneLine) × (all ≡ front ++ rest)

-- a front of these was appended
abbrev pub AppendsFrontOf : List DoneLine → List DoneLine → List DoneLine → Type 0
AppendsFrontOf old new lines = (front : List DoneLine) × IsFrontOf front lines × (new ≡ old ++ front)

-- What was heard of packets of which the first has number `join`: the receiver stands for them, and the completions are all that
-- they show; or memory was wanting, and the completions are a front of these.
abbrev pub HearsBy : Bool → ℕ → List (List ℕ) → Hearing → List DoneLine → Type 0
HearsBy false join heard receiver dones = ReceiverStandsFor heard receiver × (dones ≡ lines_from join heard)
HearsBy true join heard receiver dones = IsFrontOf dones (lines_from join heard)

-- What was heard of the bytes that an air took, where each whole packet from `join` on begins with the sync_byte.
abbrev pub HasHeard : ℕ → List ℕ → Bool → Hearing → List DoneLine → Type 0
HasHeard join taken wanting receiver dones =
    AreInSync (drop join (whole_packets taken)) → HearsBy wanting join (drop join (whole_packets taken)) receiver dones

-- ---- the monitor

-- what contracts see of what hears packets: its receiver, the completions so far, the first packet to be heard, how many came, and whether
-- memory was wanting
pub record Listening : Type 0 where
  pub receiver : Hearing
  pub dones : List DoneLine
  pub join : ℕ
  pub number : ℕ
  pub wanting : Bool

-- These packets came.
pub record Hears (packets : List (List ℕ)) (listener : Listening) : Type 0 where
  pub number_is : listener.wanting ≡ false → listener.number ≡ length packets
  pub heard : AreInSync (drop listener.join packets) → HearsBy listener.wanting listener.join (drop listener.join packets) listener.receiver listener.dones

-- These bytes came: whole packets, which were heard, and the part of a packet.
pub record HasTaken (past part : List ℕ) (listener : Listening) : Type 0 where
  pub packets : List (List ℕ)
  pub cut : past ≡ joined packets ++ part
  pub whole : AreWhole packets
  pub shorter : length part < 188
  pub hears : Hears packets listener

-- what contracts see of a monitor: the air, the bytes of the packet that is not yet whole, and what is heard
pub record Watching (A : Type 0) : Type 0 where
  pub air : A
  pub part : List ℕ
  pub listener : Listening

-- One monitor at two moments: its air took some bytes in between, and it heard just these.
pub record WatchedOn {A : Type 0} (written : A → Option (List ℕ)) (is_same : A → A → Type 0) (old new : Watching A) : Type 0 where
  pub more : List ℕ
  pub gave : Appends (written old.air) (written new.air) more
  pub same_air : is_same old.air new.air
  pub same_join : new.listener.join ≡ old.listener.join
  pub taken : (past : List ℕ) → HasTaken past old.part old.listener → HasTaken (past ++ more) new.part new.listener

-- ---- what a monitor leaves

-- The air took some bytes, and this was heard of them.
pub record WasHeard (join : ℕ) (before now : Option (List ℕ)) (wanting : Bool) (receiver : Hearing) (dones : List DoneLine) : Type 0 where
  pub taken : List ℕ
  pub gave : Appends before now taken
  pub heard : HasHeard join taken wanting receiver dones
