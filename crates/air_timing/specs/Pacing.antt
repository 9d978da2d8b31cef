-- Sections sent one after the other, with null packets where a sub-table would follow too soon
-- (EN 300 468, 5.1.4). A section is named by a number.
use Rattle.std.specs.Prelude.{◌≡◌, ℕ, ◌+◌, ◌-◌, ◌*◌, ◌<◌, ◌≤◌, List, [], ◌∷◌, ◌++◌, Bool, if◌then◌else◌, nat_le, ◌==◌, length}
use Rattle.std.specs.List.{AllByRecursion}
use Rattle.ts_packets.specs.Packets.{packets_of}
use Rattle.air_model.specs.Cutting.{packets_in}
use Rattle.air_timing.specs.declared.timing.Timing.{Timing}
use Rattle.air_model.specs.Packing.{Packing, begun_at, need_of, begins_needing, taken_needing, packed_needing, packets_so_far}

-- What is sent: of each section its lane, its bytes, and its sub-table as a number. Sections share
-- packets only with sections of their lane, which is of one PID. `gap` whole packets are to lie between
-- two sections of one sub-table. In the packet in which a section begins it has `least` bytes or more,
-- or all of its bytes.
pub record Timed : Type 0 where
  pub lane : ℕ → ℕ
  pub len : ℕ → ℕ
  pub table : ℕ → ℕ
  pub gap : ℕ
  pub least : ℕ

-- a place in an air: the packing, and of each sub-table the first packet in which its next section
-- may begin
pub record Place : Type 0 where
  pub packing : Packing
  pub free : ℕ → ℕ

-- after n packets, where no sub-table has been sent
abbrev pub place_at : ℕ → Place
place_at n = record { packing = begun_at n; free = λ table. 0 }

-- ---- one section

-- in a packing: the packet in which a section begins if no sub-table is waited for,
abbrev pub begins_in : Timed → Packing → ℕ → ℕ
begins_in t packing x = begins_needing (need_of t.least (t.len x)) packing (t.lane x)

-- and the packing after it
abbrev pub packed_in : Timed → Packing → ℕ → Packing
packed_in t packing x = packed_needing (need_of t.least (t.len x)) packing (t.lane x) (t.len x)

-- At a place: whether the sub-table of a section is free where the section would begin,
abbrev pub is_free_at : Timed → Place → ℕ → Bool
is_free_at t p x = nat_le (p.free (t.table x)) (begins_in t p.packing x)

-- and the packing in which it begins: the one there if so, or else a new packet after null packets
abbrev pub packing_for : Timed → Place → ℕ → Packing
packing_for t p x = if is_free_at t p x then p.packing else begun_at (p.free (t.table x))

-- the packet in which it begins,
abbrev pub first_of : Timed → Place → ℕ → ℕ
first_of t p x = begins_in t (packing_for t p x) x

-- the bytes of sections before it there,
abbrev pub taken_at : Timed → Place → ℕ → ℕ
taken_at t p x = taken_needing (need_of t.least (t.len x)) (packing_for t p x) (t.lane x)

-- the packing after it,
abbrev pub packing_with : Timed → Place → ℕ → Packing
packing_with t p x = packed_in t (packing_for t p x) x

-- and the packet that has its last byte
abbrev pub last_of : Timed → Place → ℕ → ℕ
last_of t p x = (packing_with t p x).closed

-- its sub-table is free again after its last packet and the gap
abbrev pub paced_one : Timed → Place → ℕ → Place
paced_one t p x = record {
  packing = packing_with t p x;
  free = λ table. if table == t.table x then last_of t p x + 1 + t.gap else p.free table;
}

-- the null packets before it
abbrev pub nulls_before : Timed → Place → ℕ → ℕ
nulls_before t p x = if is_free_at t p x then 0 else p.free (t.table x) - packets_so_far p.packing

-- ---- a list of sections

abbrev pub paced_all : Timed → Place → List ℕ → Place
paced_all t p [] = p
paced_all t p (x ∷ xs) = paced_all t (paced_one t p x) xs

-- of a section
abbrev pub timing_of : Timed → Place → ℕ → Timing
timing_of t p x = record { section = x; first = first_of t p x; last = last_of t p x }

abbrev pub timings : Timed → Place → List ℕ → List Timing
timings t p [] = []
timings t p (x ∷ xs) = timing_of t p x ∷ timings t (paced_one t p x) xs

abbrev pub nulls_in : Timed → Place → List ℕ → ℕ
nulls_in t p [] = 0
nulls_in t p (x ∷ xs) = nulls_before t p x + nulls_in t (paced_one t p x) xs

-- ---- laws

-- Between any two sections of one sub-table lie the packets of the gap, whatever else stands there:
-- so many packets lie between the last of the one and the first of the other.
abbrev pub AreApart : Timed → List Timing → Type 0
AreApart t ts =
    (before between after : List Timing) (one two : Timing)
    → ts ≡ before ++ one ∷ (between ++ two ∷ after)
    → t.table one.section ≡ t.table two.section → one.last + 1 + t.gap ≤ two.first

abbrev pub GapsAreKept : Type 0
GapsAreKept = (t : Timed) (p : Place) (xs : List ℕ) → AreApart t (timings t p xs)

-- each of these sections is `gap` packets before each of those
abbrev pub AllBefore : ℕ → List Timing → List Timing → Type 0
AllBefore gap ones twos =
    AllByRecursion (λ (one : Timing).
    AllByRecursion (λ (two : Timing). one.last + 1 + gap ≤ two.first) twos) ones

abbrev pub HaveBytes : Timed → List ℕ → Type 0
HaveBytes t xs = AllByRecursion (λ (i : ℕ). 0 < t.len i) xs

-- the place in which a next cycle begins: after as many null packets as the gap has
abbrev pub next_cycle : Timed → Place → List ℕ → Place
next_cycle t p xs = place_at (packets_so_far (paced_all t p xs).packing + t.gap)

-- The same from a cycle to the next one, of whatever sections: between any section of the one and
-- any of the other.
abbrev pub CyclesAreApart : Type 0
CyclesAreApart =
    (t : Timed) (p : Place) (xs : List ℕ) → HaveBytes t xs → (u : Timed) (ys : List ℕ)
    → AllBefore t.gap (timings t p xs) (timings u (next_cycle t p xs) ys)

-- No sub-table is blocked for more than the gap.
abbrev pub IsNear : Timed → Place → Type 0
IsNear t p = (table : ℕ) → p.free table ≤ packets_so_far p.packing + t.gap

-- From a place where none is, each section waits for a gap at most,
pub record WaitShortly (t : Timed) (p : Place) (xs : List ℕ) : Type 0 where
  pub near : IsNear t (paced_all t p xs)
  pub nulls : nulls_in t p xs ≤ length xs * t.gap
  -- and all have no more packets than each alone, and the null packets.
  pub packets : packets_so_far (paced_all t p xs).packing
      ≤ packets_so_far p.packing + packets_in (λ i. packets_of (t.len i)) xs + nulls_in t p xs

abbrev pub WaitsAreShort : Type 0
WaitsAreShort =
    (t : Timed) (p : Place) → IsNear t p → (xs : List ℕ) → HaveBytes t xs → WaitShortly t p xs
