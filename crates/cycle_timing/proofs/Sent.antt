-- A cycle at a bit rate has each section of its airing, and no other.
use Rattle.std.proofs.Common.{◌≡◌, ℕ, ◌+◌, ◌-◌, ◌≤◌, List, [], ◌∷◌, ◌++◌, Bool, true, false, Option, Some, None, map, refl, sym, ap, ◌∙◌, subst, arith}
use Rattle.std.specs.Prelude.{if◌then◌else◌, nat_lt, nat_le, flat_map, filter_map, slice_get}
use Rattle.std.specs.List.{AllByRecursion, Contains, cons_option}
use Rattle.std.proofs.lemmas.Bool.{le-ltb, leb-true}
use Rattle.std.proofs.lemmas.List.Elements.{filter_map-append, Contains-append_right}
use Rattle.guide_model.specs.declared.offset.Offset.{Offset}
use Rattle.version_book.specs.Airings.{AiredTables, version_at}
use Rattle.air_model.specs.Sections.{planned}
use Rattle.air_model.proofs.Cursors.{planned_all}
use Rattle.air_timing.specs.declared.timing.Timing.{Timing}
use Rattle.air_timing.specs.Pacing.{Timed, Place, place_at, paced_one, paced_all, timing_of, timings}
use Rattle.air_timing.specs.Plan.{timed_of, order_in}
use Rattle.air_timing.specs.Rate.{gap_at}
use Rattle.air_model.specs.Air.{Sent, sent_section, sections_once, weights_once, tdt, tot}
use Rattle.air_model.specs.Bursts.{sent_in}
use Rattle.air_model.specs.Repeating.{IsTimeFrom, IsSentOf, AreSentOf}
use Rattle.air_model.proofs.Bursts.{bursts_are_cycles}
use Rattle.air_model.proofs.Elements.{first_of, around}
use Rattle.air_model.proofs.Planned.{all_got, weights_each}
use Rattle.cycle_timing.specs.Airs.{CanBeTimed, TimedCyclesAreCycles}
use Rattle.cycle_timing.specs.Clock.{Clock, last_moment, at_swap, told_at}
use Rattle.cycle_timing.specs.Cycle.{at_moment, sent_at, Run, Runs, runs_from, runs_of, burst_of, bursts_of}
use Rattle.cycle_timing.specs.Planning.{plan_of, timings_of}
use Rattle.cycle_timing.proofs.Moments.{once_sent, HasPlace, table_place, tdt_place, tot_place, one_tot}
use Rattle.cycle_timing.proofs.Plans.{each_planned}

-- ---- chosen elements

pub all_chosen : {X Y : Type 0} (P : Y → Type 0) (h : X → Option Y) → ((x : X) (y : Y) → h x ≡ Some y → P y) → (xs : List X) → AllByRecursion P (filter_map h xs)
all_chosen P h each [] = tt
all_chosen P h each (x ∷ xs) = go (h x) refl (all_chosen P h each xs)
  where
    go : (o : Option _) → h x ≡ o → AllByRecursion P (filter_map h xs) → AllByRecursion P (cons_option o (filter_map h xs))
    go None e r = r
    go (Some y) e r = (each x y e, r)

pub chosen_in : {X Y : Type 0} (h : X → Option Y) (xs : List X) (x : X) (y : Y) → Contains xs x → h x ≡ Some y → Contains (filter_map h xs) y
chosen_in h xs x y has e =
    let w = around xs x has in
    let both : filter_map h xs ≡ filter_map h w.0 ++ y ∷ filter_map h w.1 =
    ap (filter_map h) w.2 ∙ filter_map-append h w.0 (x ∷ w.1) ∙ ap (λ (o : Option _). filter_map h w.0 ++ cons_option o (filter_map h w.1)) e in
    subst (λ l. Contains l y) (sym both) (Contains-append_right (filter_map h w.0) (y ∷ filter_map h w.1) y (first_of y (filter_map h w.1)))

-- ---- timings

pub timings-append : (t : Timed) (p : Place) (xs ys : List ℕ) → timings t p (xs ++ ys) ≡ timings t p xs ++ timings t (paced_all t p xs) ys
timings-append t p [] ys = refl
timings-append t p (x ∷ xs) ys = ap (λ (l : List Timing). timing_of t p x ∷ l) (timings-append t (paced_one t p x) xs ys)

pub timing_in : (t : Timed) (p : Place) (xs : List ℕ) (x : ℕ) → Contains xs x → (s : Timing) × Contains (timings t p xs) s × (s.section ≡ x)
timing_in t p xs x has =
    let w = around xs x has in
    let q = paced_all t p w.0 in
    let both : timings t p xs ≡ timings t p w.0 ++ timing_of t q x ∷ timings t (paced_one t q x) w.1 = ap (timings t p) w.2 ∙ timings-append t p w.0 (x ∷ w.1) in
    let rest = timings t (paced_one t q x) w.1 in
    (timing_of t q x, subst (λ l. Contains l (timing_of t q x)) (sym both) (Contains-append_right (timings t p w.0) (timing_of t q x ∷ rest) (timing_of t q x) (first_of (timing_of t q x) rest)), refl)

-- ---- runs

abbrev pub parts_of : List Run → List Timing
parts_of runs = flat_map (λ (r : Run). r.part) runs

runs_whole : (n : ℕ) (ts : List Timing) → (runs_from n ts).part ++ parts_of (runs_from n ts).runs ≡ ts
runs_whole n [] = refl
runs_whole n (t ∷ ts) = go (nat_lt t.first n) (runs_from (t.last + 1) ts) (runs_whole (t.last + 1) ts)
  where
    next : Bool → Runs → Runs
    next b r = if b then record { part = t ∷ r.part; runs = r.runs } else record { part = []; runs = record { nulls = t.first - n; part = t ∷ r.part } ∷ r.runs }

    go : (b : Bool) (r : Runs) → r.part ++ parts_of r.runs ≡ ts → (next b r).part ++ parts_of (next b r).runs ≡ t ∷ ts
    go true r e = ap (λ (l : List Timing). t ∷ l) e
    go false r e = ap (λ (l : List Timing). t ∷ l) e

pub runs_part : (ts : List Timing) → (runs_from 0 ts).part ≡ []
runs_part [] = refl
runs_part (t ∷ ts) = ap (λ (b : Bool). (if b then record { part = t ∷ (runs_from (t.last + 1) ts).part; runs = (runs_from (t.last + 1) ts).runs } else next).part) (le-ltb t.first 0 (omega arith))
  where
    next : Runs
    next = record { part = []; runs = record { nulls = t.first - 0; part = t ∷ (runs_from (t.last + 1) ts).part } ∷ (runs_from (t.last + 1) ts).runs }

pub runs_are : (ts : List Timing) → parts_of (runs_of ts) ≡ ts
runs_are ts = ap (λ (l : List Timing). l ++ parts_of (runs_of ts)) (sym (runs_part ts)) ∙ runs_whole 0 ts

sent_runs : (sent : Timing → Option Sent) (rs : List Run) → sent_in (map (burst_of sent) rs) ≡ filter_map sent (parts_of rs)
sent_runs sent [] = refl
sent_runs sent (r ∷ rs) = ap (λ (l : List Sent). filter_map sent r.part ++ l) (sent_runs sent rs) ∙ sym (filter_map-append sent r.part (parts_of rs))

pub sent_bursts : (sent : Timing → Option Sent) (ts : List Timing) → sent_in (bursts_of sent ts) ≡ filter_map sent ts
sent_bursts sent ts = sent_runs sent (runs_of ts) ∙ ap (filter_map sent) (runs_are ts)

-- ---- the clock

pub swap_least : (moment : ℕ) (c : Clock) → moment ≤ (at_swap moment c).moment
swap_least moment c = go (nat_le moment c.moment) refl
  where
    go : (b : Bool) → nat_le moment c.moment ≡ b → moment ≤ (if b then c else record { moment = moment; bits = 0 }).moment
    go true e = leb-true moment c.moment e
    go false e = let r : moment ≤ moment = omega arith in r

pub told_least : (rate : ℕ) (c : Clock) (n moment : ℕ) → moment ≤ c.moment → moment ≤ last_moment → moment ≤ told_at rate c n
told_least rate c n moment from last = omega arith

told_most : (rate : ℕ) (c : Clock) (n : ℕ) → told_at rate c n ≤ last_moment
told_most rate c n = omega arith

-- ---- a cycle

module _ (rate : ℕ) (past : List AiredTables) (c : Clock) (a : AiredTables) (can : CanBeTimed a) (from : a.moment ≤ c.moment) where
  abbrev pub ts : List Timing
  ts = timings_of rate past a

  abbrev pub sections : List Sent
  sections = filter_map (sent_at rate past c a) ts

  abbrev pub told : ℕ → ℕ
  told n = told_at rate c n

  told_from : (n : ℕ) → IsTimeFrom a (told n)
  told_from n = record { later = told_least rate c n a.moment from can.moment; written = λ lt. (let m = told_most rate c n in omega arith) }

  -- a section with a place is sent
  is_sent : (sent : ℕ → Sent) → HasPlace past a sent → (n : ℕ) × Contains sections (sent (told n))
  is_sent sent at =
      let p = planned (weights_once past a) a.form.quota in
      let w = weights_each past a in
      let all = planned_all (weights_once past a) a.form.quota in
      let within = at.within in
      let has = each_planned rate (plan_of rate past a).sections p (place_at (gap_at rate)) at.place (omega arith) in
      let t = timing_in (timed_of (plan_of rate past a)) (place_at (gap_at rate)) (order_in (plan_of rate past a) (place_at (gap_at rate))) at.place has in
      let got : sent_at rate past c a t.0 ≡ Some (sent (told t.0.first)) = ap (slice_get (sections_once past (at_moment (told t.0.first) a))) t.2 ∙ at.got (told t.0.first) in
      (t.0.first, chosen_in (sent_at rate past c a) ts t.0 (sent (told t.0.first)) t.1 got)

  local : (offsets : List Offset) → a.form.offsets ≡ offsets → (at : ℕ) × IsTimeFrom a at × AllByRecursion (Contains sections) (tot at offsets)
  local [] e = (told 0, told_from 0, tt)
  local (o ∷ offsets) e = let s = is_sent (one_tot o offsets) (tot_place past a o offsets e) in (told s.0, told_from s.0, (s.1, tt))

  pub are_sent : AreSentOf past a sections
  are_sent = record {
    each = all_chosen (IsSentOf past a) (sent_at rate past c a)
        (λ t s got. all_got (IsSentOf past a) (sections_once past (at_moment (told t.first) a)) t.section s (once_sent past a (told t.first) (told_least rate c t.first a.moment from can.moment)) got) ts;
    all = λ t p has_t has_p. (is_sent (λ m. sent_section (version_at t.key (past ++ a ∷ [])) t p) (table_place past a t p has_t has_p)).1;
    time = (let s = is_sent tdt (tdt_place past a) in (told s.0, told_from s.0, s.1));
    local_time = local a.form.offsets refl;
  }

  pub bursts_sent : AreSentOf past a (sent_in (bursts_of (sent_at rate past c a) ts))
  bursts_sent = subst (AreSentOf past a) (sym (sent_bursts (sent_at rate past c a) ts)) are_sent

pub timed_cycles_are_cycles : TimedCyclesAreCycles
timed_cycles_are_cycles rate past sent c a can from = bursts_are_cycles past sent a (bursts_of (sent_at rate past c a) (timings_of rate past a)) (bursts_sent rate past c a can from)
