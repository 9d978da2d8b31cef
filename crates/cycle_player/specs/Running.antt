-- A cycle at a bit rate that is being sent: the run at hand, and the runs to come.
use Rattle.std.specs.Prelude.{◌≡◌, ℕ, ◌+◌, ◌<◌, List, [], ◌∷◌, ◌++◌, Bool, false, nat_lt, Option, Some, None, map, drop, length, filter_map, option_map, slice_get}
use Rattle.std.specs.List.{AllByRecursion, cons_option}
use Rattle.ts_packets.specs.Bytes.{Packet}
use Rattle.air_timing.specs.declared.timing.Timing.{Timing}
use Rattle.air_model.specs.Air.{Sent}
use Rattle.air_model.specs.Bursts.{Burst, null_packet, paced_packets}
use Rattle.cycle_timing.specs.Clock.{Clock, told_at}
use Rattle.cycle_timing.specs.Cycle.{Runs, runs_from, burst_of}
use Rattle.carousel_player.specs.Queue.{CanBeSent, IsBegun}
use Rattle.carousel_player.specs.Packing.{packets_behind}
use Rattle.air_model.specs.Telling.{sent_retold, laid_in, AreInLine, Retells}
use Rattle.cycle_player.specs.Clock.{reads}
use Rattle.cycle_player.specs.declared.runs.RunQueue.TheInside.{Inside}

-- Where a cycle has come to: its sections, each laid once; the place of the one at hand, if one is;
-- the timings of those to come; and the packets of the cycle up to the end of the section that was
-- begun last, or of the null packets after it. The clock is that of the cycle's first packet.
pub record Course : Type 0 where
  pub laid : List Sent
  pub at : Option ℕ
  pub left : List Timing
  pub end : ℕ
  pub rate : ℕ
  pub clock : Clock

abbrev pub course_of : Inside → Course
course_of i = record {
  laid = laid_in i.laid.bytes.items i.laid.placed.items;
  at = i.at;
  left = drop i.next i.timings.items;
  end = i.end;
  rate = i.rate;
  clock = reads i.clock;
}

-- ---- what is to come

-- A section is sent as it is, but for the time: TDT and TOT tell what the clock reads in the packet
-- in which they begin.
abbrev pub sent_in : Course → Timing → Option Sent
sent_in c t = option_map (sent_retold (told_at c.rate c.clock t.first)) (slice_get c.laid t.section)

abbrev pub at_hand : List Sent → Option ℕ → Option Sent
at_hand laid None = None
at_hand laid (Some at) = slice_get laid at

abbrev pub runs_left : Course → Runs
runs_left c = runs_from c.end c.left

-- the sections of the run at hand, from the one on that is being sent
abbrev pub run_of : Course → List Sent
run_of c = cons_option (at_hand c.laid c.at) (filter_map (sent_in c) (runs_left c).part)

-- and the runs after it
abbrev pub bursts_of : Course → List Burst
bursts_of c = map (burst_of (sent_in c)) (runs_left c).runs

-- The packets to come, where so many bytes of the section at hand were sent.
abbrev pub packets_left : Course → ℕ → List Packet
packets_left c from = packets_behind (run_of c) from ++ paced_packets (bursts_of c)

-- ---- one step

abbrev pub first_of : List Timing → Option Timing
first_of ts = slice_get ts 0

-- whether the next section shares the packets of the run at hand
abbrev pub shares_with : ℕ → List Timing → Bool
shares_with end [] = false
shares_with end (t ∷ ts) = nat_lt t.first end

-- The next section is at hand now. It tells the moment of the packet in which it begins.
pub record Begins (t : Timing) (old new : Course) : Type 0 where
  pub told : Retells (told_at old.rate old.clock t.first) t.section old.laid new.laid
  pub at : new.at ≡ Some t.section
  pub left : new.left ≡ drop 1 old.left
  pub end : new.end ≡ t.last + 1
  pub rate : new.rate ≡ old.rate
  pub clock : new.clock ≡ old.clock
  pub each : AllByRecursion CanBeSent new.laid

-- A null packet is sent before the next run.
pub record PassesNull (old new : Course) : Type 0 where
  pub between : run_of new ≡ []
  pub packets : paced_packets (bursts_of old) ≡ null_packet ∷ paced_packets (bursts_of new)

-- The next run is at hand, and the same packets are to come.
pub record BeginsRun (old new : Course) : Type 0 where
  pub begun : IsBegun 0 (run_of new)
  pub some : 0 < length (packets_behind (run_of new) 0)
  pub packets : packets_left new 0 ≡ paced_packets (bursts_of old)

-- ---- the start and the end

-- how many packets a cycle has, n packets before these sections
abbrev pub after : ℕ → List Timing → ℕ
after n [] = n
after n (t ∷ ts) = after (t.last + 1) ts

-- before the first packet of a cycle, which has this clock
pub record IsAtStart (rate : ℕ) (clock : Clock) (c : Course) : Type 0 where
  pub at : c.at ≡ None
  pub end : c.end ≡ 0
  pub rate_is : c.rate ≡ rate
  pub clock_is : c.clock ≡ clock

-- nothing is to come
pub record IsOver (c : Course) : Type 0 where
  pub at : c.at ≡ None
  pub left : c.left ≡ []

-- ---- what always holds

-- Each section to come was laid, and so was the one at hand. Where none is, the next one begins in
-- a packet of its own.
abbrev pub IsLaid : ℕ → Timing → Type 0
IsLaid count t = (t.section < count) × (t.last < 4611686018427387904)

abbrev pub IsAtHand : ℕ → ℕ → List Timing → Option ℕ → Type 0
IsAtHand count end left (Some at) = at < count
IsAtHand count end left None = shares_with end left ≡ false

pub record IsCourse (c : Course) : Type 0 where
  pub left : AllByRecursion (IsLaid (length c.laid)) c.left
  pub hand : IsAtHand (length c.laid) c.end c.left c.at
  pub each : AllByRecursion CanBeSent c.laid
  pub rate : 0 < c.rate

pub record IsUnderWay (i : Inside) : Type 0 where
  pub line : AreInLine i.laid.bytes.items i.laid.placed.items
  pub course : IsCourse (course_of i)
