-- What contracts see of a pace.
use Rattle.std.specs.Prelude.{◌≡◌, ℕ, ◌+◌, ◌*◌, ◌<◌, ◌≤◌, List, slice_index_or}
use Rattle.section_codec.specs.Tables.{tier_rank}
use Rattle.air_model.specs.Packing.{Packing}
use Rattle.air_timing.specs.Pacing.{Timed, Place, first_of, last_of, paced_one}
use Rattle.air_timing.specs.declared.pace.Paced.{Paced}
use Rattle.air_timing.specs.declared.pace.Spacing.{Spacing}
use Rattle.air_timing.specs.declared.pace.Pace.TheInside.{Inside}

-- the packing, and of each sub-table the first packet in which its next section may begin
pub record Seen : Type 0 where
  pub packing : Packing
  pub free : List ℕ
  pub spacing : Spacing

abbrev pub seen_of : Inside → Seen
seen_of p = record {
  packing = record { closed = p.closed; pid = p.lane; used = p.used };
  free = p.free.items;
  spacing = p.spacing;
}

-- a packet has 184 bytes at most, and no sub-table is blocked for more than the gap
pub record IsPace (p : Inside) : Type 0 where
  pub used : p.used ≤ 184
  pub gap : p.spacing.gap < 4294967296
  pub near : (table : ℕ) → slice_index_or p.free.items table 0 ≤ p.closed + 1 + p.spacing.gap

-- the place in the air
abbrev pub place_of : Seen → Place
place_of s = record { packing = s.packing; free = λ table. slice_index_or s.free table 0 }

-- Sections share packets where they are on one PID and of one tier.
abbrev pub lane_of : Paced → ℕ
lane_of s = s.pid * 4 + tier_rank s.tier

-- each section has these numbers
abbrev pub numbers : ℕ → ℕ → ℕ → ℕ → ℕ → Timed
numbers lane len table gap least = record {
  lane = λ x. lane;
  len = λ x. len;
  table = λ x. table;
  gap = gap;
  least = least;
}

abbrev pub alone : Paced → Spacing → Timed
alone s spacing = numbers (lane_of s) s.len s.table spacing.gap spacing.least

-- These are the numbers of this section.
pub record AreOf (t : Timed) (x : ℕ) (s : Paced) (spacing : Spacing) : Type 0 where
  pub lane : t.lane x ≡ lane_of s
  pub len : t.len x ≡ s.len
  pub table : t.table x ≡ s.table
  pub gap : t.gap ≡ spacing.gap
  pub least : t.least ≡ spacing.least

-- A section was put in, from its first packet to its last.
pub record Puts (t : Timed) (x : ℕ) (old new : Seen) (first last : ℕ) : Type 0 where
  pub place : place_of new ≡ paced_one t (place_of old) x
  pub first_is : first ≡ first_of t (place_of old) x
  pub last_is : last ≡ last_of t (place_of old) x
