-- What the numbers of a section alone say of a step.
use Rattle.std.proofs.Common.{◌≡◌, ℕ, ◌+◌, ◌*◌, ◌/◌, ◌<◌, List, Bool, true, false, refl, sym, ap, ap₂, ◌∙◌, subst, length, arith}
use Rattle.std.specs.Prelude.{if◌then◌else◌, ◌==◌, slice_index_or, slice_set}
use Rattle.std.proofs.Math.Path.{fun_ext}
use Rattle.std.proofs.lemmas.Bool.{eqb-true, eqb-false}
use Rattle.std.proofs.lemmas.List.{get_or-set_same, get_or-set_other}
use Rattle.section_codec.specs.declared.table.Tier3.{Tier3}
use Rattle.section_codec.specs.declared.table.Tier3.TheVariants.{Fast, Near, Far}
use Rattle.section_codec.specs.Tables.{tier_rank}
use Rattle.air_model.specs.Packing.{Packing, used_at_end}
use Rattle.air_timing.specs.Pacing.{Timed, first_of, last_of, taken_at}
use Rattle.air_timing.specs.PaceView.{Seen, seen_of, place_of, numbers, alone, AreOf, Puts, lane_of}
use Rattle.air_timing.specs.declared.pace.Paced.{Paced}
use Rattle.air_timing.specs.declared.pace.Spacing.{Spacing}
use Rattle.air_timing.specs.declared.pace.Pace.TheInside.{Inside}

same_numbers : (t : Timed) (x : ℕ) (s : Paced) (spacing : Spacing) → AreOf t x s spacing → alone s spacing ≡ numbers (t.lane x) (t.len x) (t.table x) t.gap t.least
same_numbers t x s spacing a = sym (
    ap (λ (n : ℕ). numbers n (t.len x) (t.table x) t.gap t.least) a.lane
    ∙ ap (λ (n : ℕ). numbers (lane_of s) n (t.table x) t.gap t.least) a.len
    ∙ ap (λ (n : ℕ). numbers (lane_of s) s.len n t.gap t.least) a.table
    ∙ ap (λ (n : ℕ). numbers (lane_of s) s.len s.table n t.least) a.gap
    ∙ ap (λ (n : ℕ). numbers (lane_of s) s.len s.table spacing.gap n) a.least
    )

pub puts_alone : (t : Timed) (x : ℕ) (s : Paced) (spacing : Spacing) (old new : Seen) (first last : ℕ) → AreOf t x s spacing → Puts (alone s spacing) 0 old new first last → Puts t x old new first last
puts_alone t x s spacing old new first last a h =
    let r = subst (λ (u : Timed). Puts u 0 old new first last) (same_numbers t x s spacing a) h in
    record { place = r.place; first_is = r.first_is; last_is = r.last_is }

pub last_alone : (t : Timed) (x : ℕ) (s : Paced) (spacing : Spacing) (old : Seen) → AreOf t x s spacing → last_of (alone s spacing) (place_of old) 0 ≡ last_of t (place_of old) x
last_alone t x s spacing old a = ap (λ (u : Timed). last_of u (place_of old) 0) (same_numbers t x s spacing a)

pub first_alone : (t : Timed) (x : ℕ) (s : Paced) (spacing : Spacing) (old : Seen) → AreOf t x s spacing → first_of (alone s spacing) (place_of old) 0 ≡ first_of t (place_of old) x
first_alone t x s spacing old a = ap (λ (u : Timed). first_of u (place_of old) 0) (same_numbers t x s spacing a)

-- the PID of a lane
pub pid_of_lane : (s : Paced) → s.pid ≡ lane_of s / 4
pid_of_lane s = go s.tier
  where
    go : (tier : Tier3) → s.pid ≡ (s.pid * 4 + tier_rank tier) / 4
    go Fast = omega arith
    go Near = omega arith
    go Far = omega arith

-- ---- the sub-table of a section is put off

free_with : (free : List ℕ) (i n k : ℕ) → i < length free → slice_index_or (slice_set free i n) k 0 ≡ (if k == i then n else slice_index_or free k 0)
free_with free i n k l = go (k == i) refl
  where
    go : (b : Bool) → (k == i) ≡ b → slice_index_or (slice_set free i n) k 0 ≡ (if b then n else slice_index_or free k 0)
    go true e = ap (λ (j : ℕ). slice_index_or (slice_set free i n) j 0) (eqb-true k i e) ∙ get_or-set_same free i n 0 l
    go false e = get_or-set_other free i k n 0 (eqb-false k i e)

-- what a pace is where a section has been put in
abbrev with_section : Inside → Paced → ℕ → ℕ → ℕ → ℕ → Seen
with_section p s lane last used free = record {
  packing = record { closed = last; pid = lane; used = used };
  free = slice_set p.free.items s.table free;
  spacing = p.spacing;
}

-- the lane of a section, its first and its last packet, their bytes before and with it, and the packet in which its sub-table is free again
pub record Numbers (s : Paced) (old : Seen) (lane first last before used free : ℕ) : Type 0 where
  pub table : s.table < length old.free
  pub lane_is : lane ≡ lane_of s
  pub first_is : first ≡ first_of (alone s old.spacing) (place_of old) 0
  pub last_is : last ≡ last_of (alone s old.spacing) (place_of old) 0
  pub before_is : before ≡ taken_at (alone s old.spacing) (place_of old) 0
  pub used_is : used ≡ used_at_end (before + s.len)
  pub free_is : free ≡ last + 1 + old.spacing.gap

put_inside : (s : Paced) (p : Inside) (lane first last before used free : ℕ) → Numbers s (seen_of p) lane first last before used free
    → Puts (alone s p.spacing) 0 (seen_of p) (with_section p s lane last used free) first last
put_inside s p lane first last before used free h =
    let u : used ≡ used_at_end (taken_at (alone s p.spacing) (place_of (seen_of p)) 0 + s.len) = h.used_is ∙ ap (λ (n : ℕ). used_at_end (n + s.len)) h.before_is in
    let f : free ≡ last_of (alone s p.spacing) (place_of (seen_of p)) 0 + 1 + p.spacing.gap = h.free_is ∙ ap (λ (n : ℕ). n + 1 + p.spacing.gap) h.last_is in
    record {
      place = ap₂ (λ (q : Packing) (free : ℕ → ℕ). record { packing = q; free = free })
          (ap (λ (n : ℕ). record { closed = last; pid = n; used = used }) h.lane_is
          ∙ ap₂ (λ (n m : ℕ). record { closed = n; pid = lane_of s; used = m }) h.last_is u)
          (fun_ext (λ k. free_with p.free.items s.table free k h.table ∙ ap (λ (n : ℕ). if k == s.table then n else slice_index_or p.free.items k 0) f));
      first_is = h.first_is;
      last_is = h.last_is;
    }

pub put_is : (s : Paced) (p : Inside) (old : Seen) → seen_of p ≡ old → (lane first last before used free : ℕ) → Numbers s old lane first last before used free
    → (t : Timed) (x : ℕ) → AreOf t x s old.spacing → Puts t x old (with_section p s lane last used free) first last
put_is s p old e lane first last before used free h t x a =
    puts_alone t x s old.spacing old (with_section p s lane last used free) first last a
    (subst (λ (q : Seen). Numbers s q lane first last before used free → Puts (alone s q.spacing) 0 q (with_section p s lane last used free) first last) e (put_inside s p lane first last before used free) h)
