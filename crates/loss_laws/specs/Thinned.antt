-- What is left of an air from which packets were lost.
use Rattle.std.specs.Prelude.{◌≡◌, ◌≢◌, ℕ, ◌+◌, ◌≤◌, List, [], ◌∷◌, ◌++◌, Bool, true, if◌then◌else◌, length, map, filter_map, slice_range, Option, Some, None}
use Rattle.std.specs.List.{AllByRecursion}
use Rattle.ts_packets.specs.Bytes.{Packet, bytes_of_packet}
use Rattle.ts_packets.specs.Counting.{of_pid}
use Rattle.version_book.specs.Airings.{content_at}
use Rattle.sub_collect.specs.declared.completed.Completed.{Completed}
use Rattle.guide_receiver.specs.declared.done.DoneKey.{DoneKey}
use Rattle.guide_receiver.specs.Dones.{done_key}
use Rattle.air_model.specs.Air.{Aired, air, airings_of}
use Rattle.air_laws.specs.Versions.{version_behind}

-- a packet that was sent, and whether it came
pub record Fate : Type 0 where
  pub packet : Packet
  pub came : Bool

abbrev pub DidCome : Fate → Type 0
DidCome f = f.came ≡ true

abbrev pub sent_of : List Fate → List Packet
sent_of fates = map (λ (f : Fate). f.packet) fates

abbrev pub packet_that_came : Fate → Option Packet
packet_that_came f = if f.came then Some f.packet else None

abbrev pub came_of : List Fate → List Packet
came_of fates = filter_map packet_that_came fates

-- the packets that came, each by its bytes
abbrev pub bytes_that_came : List Fate → List (List ℕ)
bytes_that_came fates = map bytes_of_packet (came_of fates)

abbrev pub left : Packet → Fate
left p = record { packet = p; came = true }

-- Between two packets of one PID that came, and of which none between them came, at most 14 of that PID were sent.
abbrev pub FewAreMissing : List Fate → Type 0
FewAreMissing fates =
    (before between after : List Fate) (p q : Packet) → fates ≡ before ++ left p ∷ (between ++ left q ∷ after) → q.pid ≡ p.pid
    → of_pid p.pid (came_of between) ≡ [] → length (of_pid p.pid (sent_of between)) ≤ 14

-- These are the packets of an air of these cycles, each with whether it came. Before the first packet of a PID that
-- came, and after the last one, any number may be missing: so a part of an air is a thinned air too.
pub record IsThinnedAir (xs : List Aired) (fates : List Fate) : Type 0 where
  pub all : sent_of fates ≡ air xs
  pub few : FewAreMissing fates

-- the packets of a cycle after others, with whether they came
abbrev pub fates_at : List Fate → List Aired → Aired → List Fate
fates_at fates before x = slice_range fates (length (air before)) (length (air before) + length x.packets)

-- of a cycle after others some packet came
abbrev pub SomeCame : List Fate → List Aired → Aired → Type 0
SomeCame fates before x = came_of (fates_at fates before x) ≢ []

-- An airing, of whose cycle a packet came, carries this content, under this version.
pub record IsAiredAmong (fates : List Fate) (xs : List Aired) (d : Completed) : Type 0 where
  pub before : List Aired
  pub cycle : Aired
  pub after : List Aired
  pub cut : xs ≡ before ++ cycle ∷ after
  pub there : SomeCame fates before cycle
  pub content : content_at d.key cycle.airing ≡ Some d.sections
  pub version : version_behind d.key (airings_of before) cycle.airing ≡ d.version

-- A completion is shown with its key and its version: it is of an airing, of whose cycle a packet came.
pub record IsDoneAmong (fates : List Fate) (xs : List Aired) (done : DoneKey) : Type 0 where
  pub completed : Completed
  pub is : done_key completed ≡ done
  pub aired : IsAiredAmong fates xs completed

-- All packets of this cycle came, and of later cycles packets came only where they have the same sub-tables.
pub record CameWhole (fates : List Fate) (before : List Aired) (x : Aired) (after : List Aired) : Type 0 where
  pub whole : AllByRecursion DidCome (fates_at fates before x)
  pub same : (one two : List Aired) (y : Aired) → after ≡ one ++ y ∷ two → SomeCame fates (before ++ x ∷ one) y → y.airing.tables ≡ x.airing.tables
