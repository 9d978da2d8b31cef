-- The cycle of an airing: its sections are those of the airing, and stand where its timings say.
use Rattle.std.proofs.Common.{◌≡◌, ℕ, zero, suc, ◌<◌, List, [], ◌∷◌, Some, length, map, get_or, refl, sym, ap, ◌∙◌, subst, arith}
use Rattle.std.specs.Prelude.{slice_get}
use Rattle.std.specs.List.{AllByRecursion}
use Rattle.version_book.specs.Airings.{AiredTables}
use Rattle.section_codec.specs.declared.table.Tier3.TheVariants.{Fast}
use Rattle.air_model.specs.Sections.{planned}
use Rattle.air_model.proofs.Cursors.{planned_all}
use Rattle.ts_packets.specs.Bytes.{Packet}
use Rattle.air_timing.specs.declared.pace.Paced.{Paced}
use Rattle.air_timing.specs.declared.timing.Timing.{Timing}
use Rattle.air_timing.specs.Pacing.{Timed, Place, place_at, paced_one, timings, HaveBytes}
use Rattle.air_timing.specs.Plan.{section_at, timed_of, order_in}
use Rattle.air_timing.specs.Rate.{gap_at}
use Rattle.air_timing.proofs.Alone.{pid_of_lane}
use Rattle.air_model.specs.Air.{Sent, sections_once, weights_once}
use Rattle.air_model.proofs.Dense.{once_some}
use Rattle.air_model.proofs.Planned.{all_got, weights_each}
use Rattle.cycle_timing.specs.Clock.{Clock, told_at}
use Rattle.cycle_timing.specs.Cycle.{at_moment, sent_at}
use Rattle.cycle_timing.specs.Planning.{paced_of, paced_in, plan_of, timings_of}
use Rattle.cycle_timing.proofs.Moments.{AreAlike, alike_at, zip_got}
use Rattle.cycle_timing.proofs.Plans.{all_planned}
use Rattle.cycle_timing.proofs.Runs.{IsSentAs, AreSentAs, CycleStands, cycle_stands}

-- ---- sections by their places

pub got_within : {X : Type 0} (xs : List X) (i : ℕ) → i < length xs → (x : X) × (slice_get xs i ≡ Some x)
got_within [] i l = absurd (omega arith)
got_within (x ∷ xs) zero l = (x, refl)
got_within (x ∷ xs) (suc i) l = got_within xs i (omega arith)

or_map : {X Y : Type 0} (f : X → Y) (xs : List X) (i : ℕ) (x : X) (d : Y) → slice_get xs i ≡ Some x → get_or (map f xs) i d ≡ f x
or_map f [] i x d e = cc
or_map f (y ∷ xs) zero x d e = let g : y ≡ x = cc in ap f g
or_map f (y ∷ xs) (suc i) x d e = or_map f xs i x d e

-- a section of the plan
pub planned_at : (ss : List Sent) (i : ℕ) (s : Sent) → slice_get ss i ≡ Some s → section_at (paced_in ss) i ≡ paced_of ss s
planned_at ss i s e = or_map (paced_of ss) ss i s (record { pid = 0; tier = Fast; len = 0; table = 0 }) e

module _ (rate : ℕ) (past : List AiredTables) (a : AiredTables) where
  abbrev pub once : List Sent
  once = sections_once past a

  abbrev pub timed : Timed
  timed = timed_of (plan_of rate past a)

  abbrev pub start : Place
  start = place_at (gap_at rate)

  abbrev pub order : List ℕ
  order = order_in (plan_of rate past a) start

  -- the order has sections of the airing alone
  pub within : AllByRecursion (λ (i : ℕ). i < length once) order
  within =
      let w = weights_each past a in
      let all = planned_all (weights_once past a) a.form.quota in
      all_planned (λ (i : ℕ). i < length once) rate (paced_in once) (planned (weights_once past a) a.form.quota) start (λ i l. omega arith)

  some_len : (i : ℕ) → i < length once → 0 < timed.len i
  some_len i l =
      let g = got_within once i l in
      let some : 0 < length g.0.bytes = all_got (λ (s : Sent). 0 < length s.bytes) once i g.0 (once_some past a) g.1 in
      subst (λ (p : Paced). 0 < p.len) (sym (planned_at once i g.0 g.1)) some

  pub have_bytes : (xs : List ℕ) → AllByRecursion (λ (i : ℕ). i < length once) xs → HaveBytes timed xs
  have_bytes [] h = tt
  have_bytes (x ∷ xs) h = (some_len x h.0, have_bytes xs h.1)

  -- what is sent of a section in a packet: that with its place, but for the moment that it tells
  pub record IsSentOnce (c : Clock) (t : Timing) : Type 0 where
    pub own : Sent
    pub got : slice_get once t.section ≡ Some own
    pub sent : Sent
    pub are : sent_at rate past c a t ≡ Some sent
    pub alike : AreAlike own sent

  pub sent_once : (c : Clock) (t : Timing) → t.section < length once → IsSentOnce c t
  sent_once c t l =
      let g = got_within once t.section l in
      let z = zip_got AreAlike once (sections_once past (at_moment (told_at rate c t.first) a)) t.section g.0 (alike_at past a a.moment (told_at rate c t.first)) g.1 in
      record { own = g.0; got = g.1; sent = z.0; are = z.1; alike = z.2 }

  sent_as : (c : Clock) (t : Timing) → t.section < length once → IsSentAs timed (sent_at rate past c a) t
  sent_as c t l =
      let o = sent_once c t l in
      let p = sym (planned_at once t.section o.own o.got) in
      (o.sent, o.are, sym o.alike.pid ∙ ap (λ (p : Paced). p.pid) p ∙ pid_of_lane (section_at (paced_in once) t.section), sym o.alike.len ∙ ap (λ (p : Paced). p.len) p)

  pub all_timings : (P : ℕ → Type 0) (t : Timed) (p : Place) (xs : List ℕ) → AllByRecursion P xs → AllByRecursion (λ (s : Timing). P s.section) (timings t p xs)
  all_timings P t p [] h = tt
  all_timings P t p (x ∷ xs) h = (h.0, all_timings P t (paced_one t p x) xs h.1)

  are_sent : (c : Clock) (ts : List Timing) → AllByRecursion (λ (s : Timing). s.section < length once) ts → AreSentAs timed (sent_at rate past c a) ts
  are_sent c [] h = tt
  are_sent c (t ∷ ts) h = (sent_as c t h.0, are_sent c ts h.1)

  pub timings_within : AllByRecursion (λ (s : Timing). s.section < length once) (timings_of rate past a)
  timings_within = all_timings (λ (i : ℕ). i < length once) timed start order within

  -- so each of them stands in its packets
  pub stands : (c : Clock) (front rest : List Packet) → CycleStands timed (sent_at rate past c a) (timings_of rate past a) front rest
  stands c front rest = cycle_stands timed (omega arith) (sent_at rate past c a) (gap_at rate) order (have_bytes order within) (are_sent c (timings_of rate past a) timings_within) front rest
