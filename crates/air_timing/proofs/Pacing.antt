-- Sections that are paced: gaps, and how long they wait.
use Rattle.std.proofs.Common.{◌≡◌, ℕ, suc, ◌+◌, ◌-◌, ◌*◌, ◌<◌, ◌≤◌, List, [], ◌∷◌, ◌++◌, Bool, true, false, refl, sym, ap, ◌∙◌, subst, arith, length}
use Rattle.std.specs.List.{AllByRecursion}
use Rattle.std.specs.Prelude.{if◌then◌else◌, nat_le, ◌==◌}
use Rattle.std.proofs.lemmas.Bool.{leb-true, leb-false, eqb-true, eq-eqb}
use Rattle.si_lists.proofs.Lists.{all_at}
use Rattle.ts_packets.specs.Packets.{packets_of}
use Rattle.air_model.specs.Packing.{Packing, begun_at, need_of, has_room_needing, taken_needing, packets_so_far}
use Rattle.air_model.proofs.Packings.{starts_needing, used_some, so_far-begun, one-more-needing}
use Rattle.air_timing.specs.declared.timing.Timing.{Timing}
use Rattle.air_timing.specs.Pacing.{Timed, Place, place_at, begins_in, packed_in, packing_for, packing_with, first_of, last_of, paced_one, paced_all, timing_of, timings, nulls_before, HaveBytes, GapsAreKept, CyclesAreApart, IsNear, WaitsAreShort}

-- ---- where a section begins

-- It begins where its sub-table is free,
pub free_first : (t : Timed) (p : Place) (x : ℕ) → p.free (t.table x) ≤ first_of t p x
free_first t p x = go (nat_le (p.free (t.table x)) (begins_in t p.packing x)) refl
  where
    go : (b : Bool) → nat_le (p.free (t.table x)) (begins_in t p.packing x) ≡ b → p.free (t.table x) ≤ begins_in t (if b then p.packing else begun_at (p.free (t.table x))) x
    go true e = leb-true (p.free (t.table x)) (begins_in t p.packing x) e
    go false e = let r : p.free (t.table x) ≤ p.free (t.table x) = omega arith in r

-- and not before it would begin without null packets;
pub begins_first : (t : Timed) (p : Place) (x : ℕ) → begins_in t p.packing x ≤ first_of t p x
begins_first t p x = go (nat_le (p.free (t.table x)) (begins_in t p.packing x)) refl
  where
    go : (b : Bool) → nat_le (p.free (t.table x)) (begins_in t p.packing x) ≡ b → begins_in t p.packing x ≤ begins_in t (if b then p.packing else begun_at (p.free (t.table x))) x
    go true e = omega arith
    go false e = let l = leb-false (p.free (t.table x)) (begins_in t p.packing x) e in let r : begins_in t p.packing x ≤ p.free (t.table x) = omega arith in r

-- where neither is later than n, it begins at n or before.
pub first_most : (t : Timed) (p : Place) (x n : ℕ) → packets_so_far p.packing ≤ n → p.free (t.table x) ≤ n → first_of t p x ≤ n
first_most t p x n so free = go (nat_le (p.free (t.table x)) (begins_in t p.packing x))
  where
    go : (b : Bool) → begins_in t (if b then p.packing else begun_at (p.free (t.table x))) x ≤ n
    go true = let s = (starts_needing (need_of t.least (t.len x)) p.packing (t.lane x)).at_total in omega arith
    go false = free

pub first_last : (t : Timed) (p : Place) (x : ℕ) → first_of t p x ≤ last_of t p x
first_last t p x = omega arith

-- so many packets at most from its first to its last
pub last_most : (t : Timed) (p : Place) (x : ℕ) → t.len x ≤ 4096 → last_of t p x ≤ first_of t p x + 23
last_most t p x l = let i = (starts_needing (need_of t.least (t.len x)) (packing_for t p x) (t.lane x)).inside in omega arith

pub closed_begins : (t : Timed) (packing : Packing) (x : ℕ) → packing.closed ≤ begins_in t packing x
closed_begins t packing x = go (packing.used == 0) (has_room_needing (need_of t.least (t.len x)) packing (t.lane x))
  where
    go : (b c : Bool) → packing.closed ≤ (if b then packing.closed else if c then packing.closed else packing.closed + 1)
    go true c = omega arith
    go false true = omega arith
    go false false = omega arith

-- ---- the packets so far

pub so_far_with : (t : Timed) (p : Place) (x : ℕ) → 0 < t.len x → packets_so_far (packing_with t p x) ≡ last_of t p x + 1
so_far_with t p x h = so_far-begun (packing_with t p x) (used_some (taken_needing (need_of t.least (t.len x)) (packing_for t p x) (t.lane x) + t.len x) (omega arith))

so_far_first : (t : Timed) (p : Place) (x : ℕ) → packets_so_far p.packing ≤ first_of t p x + 1
so_far_first t p x = let s = (starts_needing (need_of t.least (t.len x)) p.packing (t.lane x)).near_total in let b = begins_first t p x in omega arith

pub so_far_grows : (t : Timed) (p : Place) (x : ℕ) → 0 < t.len x → packets_so_far p.packing ≤ packets_so_far (packing_with t p x)
so_far_grows t p x h = let a = so_far_first t p x in let b = first_last t p x in let c = so_far_with t p x h in omega arith

-- ---- gaps

pub still : (t : Timed) (n k : ℕ) (p : Place) (x : ℕ) → n ≤ p.free k → n ≤ (paced_one t p x).free k
still t n k p x h = go (k == t.table x) refl
  where
    go : (b : Bool) → (k == t.table x) ≡ b → n ≤ (if b then last_of t p x + 1 + t.gap else p.free k)
    go true e =
        let same = ap p.free (eqb-true k (t.table x) e) in
        let a = free_first t p x in
        let b = first_last t p x in
        omega arith
    go false e = h

-- a sub-table that is not free before packet n has no section that begins before it
pub later : (t : Timed) (n k : ℕ) (p : Place) (xs : List ℕ) → n ≤ p.free k → AllByRecursion (λ (s : Timing). t.table s.section ≡ k → n ≤ s.first) (timings t p xs)
later t n k p [] h = tt
later t n k p (x ∷ xs) h = (own, later t n k (paced_one t p x) xs (still t n k p x h))
  where
    own : t.table x ≡ k → n ≤ first_of t p x
    own e = let same = ap p.free e in let f = free_first t p x in omega arith

free_own : (t : Timed) (p : Place) (x : ℕ) → last_of t p x + 1 + t.gap ≤ (paced_one t p x).free (t.table x)
free_own t p x = go (t.table x == t.table x) (eq-eqb (t.table x) (t.table x) refl)
  where
    go : (b : Bool) → b ≡ true → last_of t p x + 1 + t.gap ≤ (if b then last_of t p x + 1 + t.gap else p.free (t.table x))
    go true e = omega arith
    go false e = cc

pub gaps_are_kept : GapsAreKept
gaps_are_kept t p [] [] between after one two e same = cc
gaps_are_kept t p [] (b ∷ before) between after one two e same = cc
gaps_are_kept t p (x ∷ xs) [] between after one two e same =
    let head : timing_of t p x ≡ one = cc in
    let rest : timings t (paced_one t p x) xs ≡ between ++ two ∷ after = cc in
    let all = later t (last_of t p x + 1 + t.gap) (t.table x) (paced_one t p x) xs (free_own t p x) in
    let at = all_at (λ (s : Timing). t.table s.section ≡ t.table x → last_of t p x + 1 + t.gap ≤ s.first) between two after
    (subst (AllByRecursion (λ (s : Timing). t.table s.section ≡ t.table x → last_of t p x + 1 + t.gap ≤ s.first)) rest all) in
    let section = ap (λ (s : Timing). t.table s.section) head in
    let last = ap (λ (s : Timing). s.last) head in
    let far = at (sym same ∙ sym section) in
    omega arith
gaps_are_kept t p (x ∷ xs) (b ∷ before) between after one two e same =
    let rest : timings t (paced_one t p x) xs ≡ before ++ one ∷ (between ++ two ∷ after) = cc in
    gaps_are_kept t (paced_one t p x) xs before between after one two rest same

-- ---- from one cycle to another

closed_first : (t : Timed) (p : Place) (x : ℕ) → p.packing.closed ≤ first_of t p x
closed_first t p x = let b = begins_first t p x in let c = closed_begins t p.packing x in omega arith

-- nothing begins before the packets that are closed
firsts_least : (t : Timed) (n : ℕ) (p : Place) (xs : List ℕ) → n ≤ p.packing.closed → AllByRecursion (λ (s : Timing). n ≤ s.first) (timings t p xs)
firsts_least t n p [] h = tt
firsts_least t n p (x ∷ xs) h =
    let c = closed_first t p x in
    let l = first_last t p x in
    (omega arith, firsts_least t n (paced_one t p x) xs (omega arith))

so_far_all : (t : Timed) (p : Place) (xs : List ℕ) → HaveBytes t xs → packets_so_far p.packing ≤ packets_so_far (paced_all t p xs).packing
so_far_all t p [] h = omega arith
so_far_all t p (x ∷ xs) h = let g = so_far_grows t p x h.0 in let r = so_far_all t (paced_one t p x) xs h.1 in omega arith

-- what follows all of these follows each of them
pub cycles_are_apart : CyclesAreApart
cycles_are_apart t p [] h u ys = tt
cycles_are_apart t p (x ∷ xs) h u ys =
    let end = packets_so_far (paced_all t (paced_one t p x) xs).packing in
    let s = so_far_with t p x h.0 in
    let a = so_far_all t (paced_one t p x) xs h.1 in
    let least : last_of t p x + 1 + t.gap ≤ end + t.gap = omega arith in
    (firsts_least u (last_of t p x + 1 + t.gap) (place_at (end + t.gap)) ys least, cycles_are_apart t (paced_one t p x) xs h.1 u ys)

-- ---- waits

pub near_one : (t : Timed) (p : Place) (x : ℕ) → 0 < t.len x → IsNear t p → IsNear t (paced_one t p x)
near_one t p x h near k = go (k == t.table x)
  where
    go : (b : Bool) → (if b then last_of t p x + 1 + t.gap else p.free k) ≤ packets_so_far (packing_with t p x) + t.gap
    go true = let s = so_far_with t p x h in omega arith
    go false = let n = near k in let g = so_far_grows t p x h in omega arith

nulls_most : (t : Timed) (p : Place) (x : ℕ) → IsNear t p → nulls_before t p x ≤ t.gap
nulls_most t p x near = go (nat_le (p.free (t.table x)) (begins_in t p.packing x))
  where
    go : (b : Bool) → (if b then 0 else p.free (t.table x) - packets_so_far p.packing) ≤ t.gap
    go true = omega arith
    go false = let n = near (t.table x) in omega arith

-- one section more in a packing
one_more : (t : Timed) (packing : Packing) (x : ℕ) → 0 < t.len x → packets_so_far (packed_in t packing x) ≤ packets_so_far packing + packets_of (t.len x)
one_more t packing x h = one-more-needing (need_of t.least (t.len x)) packing (t.lane x) (t.len x) h

pub more_one : (t : Timed) (p : Place) (x : ℕ) → 0 < t.len x → packets_so_far (packing_with t p x) ≤ packets_so_far p.packing + packets_of (t.len x) + nulls_before t p x
more_one t p x h = go (nat_le (p.free (t.table x)) (begins_in t p.packing x)) refl
  where
    go : (b : Bool) → nat_le (p.free (t.table x)) (begins_in t p.packing x) ≡ b
        → packets_so_far (packed_in t (if b then p.packing else begun_at (p.free (t.table x))) x) ≤ packets_so_far p.packing + packets_of (t.len x) + (if b then 0 else p.free (t.table x) - packets_so_far p.packing)
    go true e = let o = one_more t p.packing x h in omega arith
    go false e =
        let l = leb-false (p.free (t.table x)) (begins_in t p.packing x) e in
        let s = (starts_needing (need_of t.least (t.len x)) p.packing (t.lane x)).near_total in
        let o = one_more t (begun_at (p.free (t.table x))) x h in
        let z : packets_so_far (begun_at (p.free (t.table x))) ≡ p.free (t.table x) = refl in
        omega arith

-- and where neither the packets so far nor the sub-table is later than n, it ends by n and its own packets
pub so_far_most : (t : Timed) (p : Place) (x n : ℕ) → 0 < t.len x → packets_so_far p.packing ≤ n → p.free (t.table x) ≤ n → packets_so_far (packing_with t p x) ≤ n + packets_of (t.len x)
so_far_most t p x n h so free = go (nat_le (p.free (t.table x)) (begins_in t p.packing x))
  where
    go : (b : Bool) → packets_so_far (packed_in t (if b then p.packing else begun_at (p.free (t.table x))) x) ≤ n + packets_of (t.len x)
    go true = let o = one_more t p.packing x h in omega arith
    go false = let o = one_more t (begun_at (p.free (t.table x))) x h in let z : packets_so_far (begun_at (p.free (t.table x))) ≡ p.free (t.table x) = refl in omega arith

pub waits_are_short : WaitsAreShort
waits_are_short t p near [] h = record { near = near; nulls = omega arith; packets = omega arith }
waits_are_short t p near (x ∷ xs) h =
    let r = waits_are_short t (paced_one t p x) (near_one t p x h.0 near) xs h.1 in
    let n = nulls_most t p x near in
    let m = more_one t p x h.0 in
    let rn = r.nulls in
    let rp = r.packets in
    let step : suc (length xs) * t.gap ≡ t.gap + length xs * t.gap = omega arith in
    record { near = r.near; nulls = omega arith; packets = omega arith }
