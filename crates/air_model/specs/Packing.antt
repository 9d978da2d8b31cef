-- Sections packed one behind the other, in numbers (ISO/IEC 13818-1, 2.4.4): in which packet each begins where neighbours of one PID
-- share packets. A packet in which a section begins has its pointer_field and 183 bytes of sections, any other one 184. A section is
-- named by a number, and has a PID and so many bytes.
use Rattle.std.specs.Prelude.{◌≡◌, ℕ, ◌+◌, ◌-◌, ◌/◌, ◌%◌, ◌<◌, ◌≤◌, List, [], ◌∷◌, ◌++◌, Bool, if◌then◌else◌, min, nat_lt, ◌==◌, ◌&&◌}
use Rattle.std.specs.List.{AllByRecursion}
use Rattle.ts_packets.specs.Packets.{packets_of}
use Rattle.air_model.specs.Cutting.{packets_in}
use Rattle.air_model.specs.Cycle.{Planned}

-- a section begins in a packet; packets are numbered from the start of an air
pub record Start : Type 0 where
  pub packet : ℕ
  pub section : ℕ

-- the packets that are closed, and of the one begun behind them its PID and how many bytes of sections it has; 0 where none is begun
pub record Packing : Type 0 where
  pub closed : ℕ
  pub pid : ℕ
  pub used : ℕ

-- behind n packets none is begun
abbrev pub begun_at : ℕ → Packing
begun_at n = record { closed = n; pid = 0; used = 0 }

-- A section needs room for `least` of its bytes in the packet in which it begins, or for all of it.
abbrev pub need_of : ℕ → ℕ → ℕ
need_of least len = min least len

-- A section of this PID begins in the packet begun, if the bytes that it needs fit there behind the pointer_field, which may be new,
-- and the bytes of sections that the packet has: 183 bytes in all.
abbrev pub has_room_needing : ℕ → Packing → ℕ → Bool
has_room_needing need packing pid = (packing.pid == pid) && nat_lt packing.used (184 - need)

-- the packet in which a section of this PID begins,
abbrev pub begins_needing : ℕ → Packing → ℕ → ℕ
begins_needing need packing pid =
    if packing.used == 0 then packing.closed else if has_room_needing need packing pid then packing.closed else packing.closed + 1

-- and the bytes of sections before it there
abbrev pub taken_needing : ℕ → Packing → ℕ → ℕ
taken_needing need packing pid = if packing.used == 0 then 0 else if has_room_needing need packing pid then packing.used else 0

-- so many bytes of sections from the first of a packet in which one begins: their bytes in the last packet that they have
abbrev pub used_at_end : ℕ → ℕ
used_at_end bytes = if nat_lt bytes 184 then bytes else bytes % 184 + 1

-- with a section of this PID and so many bytes more
abbrev pub packed_needing : ℕ → Packing → ℕ → ℕ → Packing
packed_needing need packing pid len = record {
  closed = begins_needing need packing pid + (taken_needing need packing pid + len) / 184;
  pid = pid;
  used = used_at_end (taken_needing need packing pid + len);
}

-- ---- sections that need a byte: the packets of an air are shared so

-- a section of this PID has its first byte in the packet begun, if the pointer_field, which may be new there, leaves room for it
abbrev pub has_room : Packing → ℕ → Bool
has_room packing pid = has_room_needing 1 packing pid

-- the packet in which a section of this PID begins,
abbrev pub begins : Packing → ℕ → ℕ
begins packing pid = begins_needing 1 packing pid

-- and the bytes of sections before it there
abbrev pub taken : Packing → ℕ → ℕ
taken packing pid = taken_needing 1 packing pid

-- with a section of this PID and so many bytes more
abbrev pub packed_one : Packing → ℕ → ℕ → Packing
packed_one packing pid len = packed_needing 1 packing pid len

abbrev pub packed_all : (ℕ → ℕ) → (ℕ → ℕ) → Packing → List ℕ → Packing
packed_all pid len packing [] = packing
packed_all pid len packing (x ∷ xs) = packed_all pid len (packed_one packing (pid x) (len x)) xs

-- the packets in all, with the one begun
abbrev pub packets_so_far : Packing → ℕ
packets_so_far packing = if packing.used == 0 then packing.closed else packing.closed + 1

-- where each of these sections begins
abbrev pub starts_dense : (ℕ → ℕ) → (ℕ → ℕ) → Packing → List ℕ → List Start
starts_dense pid len packing [] = []
starts_dense pid len packing (x ∷ xs) =
    record { packet = begins packing (pid x); section = x } ∷ starts_dense pid len (packed_one packing (pid x) (len x)) xs

-- those of cycles, the first from packet n on: no packet is shared over the end of a cycle
abbrev pub starts_of_cycles : (ℕ → ℕ) → (ℕ → ℕ) → ℕ → List (List ℕ) → List Start
starts_of_cycles pid len n [] = []
starts_of_cycles pid len n (c ∷ cycles) =
    starts_dense pid len (begun_at n) c ++ starts_of_cycles pid len (packets_so_far (packed_all pid len (begun_at n) c)) cycles

-- ---- sections that are planned

-- Each has a byte or more, and is planned with the packets that it has alone,
pub record IsCounted (p : Planned) (len : ℕ → ℕ) : Type 0 where
  pub some : (i : ℕ) → i < p.fasts + p.nears + p.fars → 0 < len i
  pub size : (i : ℕ) → i < p.fasts + p.nears + p.fars → p.size i ≡ packets_of (len i)

-- and no Near or Far section has the PID of the first section: so no packet is shared from a run into the next one.
pub record IsPacked (p : Planned) (pid len : ℕ → ℕ) : Type 0 where
  pub counted : IsCounted p len
  pub ends : (i : ℕ) → p.fasts ≤ i → i < p.fasts + p.nears + p.fars → pid i ≡ pid 0 → Prim.⊥

-- ---- packed sections against sections alone

-- From any packet begun on,
pub record IsDense (pid len : ℕ → ℕ) (packing : Packing) : Type 0 where
  -- all together take no more packets than each alone;
  pub whole : (xs : List ℕ) → AllByRecursion (λ (i : ℕ). 0 < len i) xs
      → packets_so_far (packed_all pid len packing xs) ≤ packets_so_far packing + packets_in (λ i. packets_of (len i)) xs
  -- there may be one more from the packet in which the first begins, which may have been begun before;
  pub from_start : (x : ℕ) (xs : List ℕ) → AllByRecursion (λ (i : ℕ). 0 < len i) (x ∷ xs)
      → packets_so_far (packed_all pid len packing (x ∷ xs)) ≤ begins packing (pid x) + packets_in (λ i. packets_of (len i)) (x ∷ xs) + 1
  -- but none more from there to where the next section begins, if that has the same PID
  pub neighbour : (x y : ℕ) → 0 < len x → pid y ≡ pid x
      → begins (packed_one packing (pid x) (len x)) (pid y) ≤ begins packing (pid x) + packets_of (len x)

abbrev pub PackingIsDense : Type 0
PackingIsDense = (pid len : ℕ → ℕ) (packing : Packing) → IsDense pid len packing
