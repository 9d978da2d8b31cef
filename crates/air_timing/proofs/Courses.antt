-- The steps of a course, and where it begins.
use Rattle.std.proofs.Common.{◌≡◌, ℕ, zero, suc, ◌+◌, ◌-◌, ◌<◌, ◌≤◌, List, [], ◌∷◌, ◌++◌, Bool, true, false, length, drop, refl, sym, ap, ap₂, ◌∙◌, subst, arith, append_assoc, append-nil}
use Rattle.std.specs.Prelude.{if◌then◌else◌, ◌==◌, ◌%◌, nat_lt, slice_index, slice_index_or}
use Rattle.std.proofs.lemmas.Bool.{eqb-true, eqb-false, eq-eqb, ne_eqb, ltb-true, ltb-false, lt-ltb}
use Rattle.std.proofs.lemmas.List.{drop_all, drop_more}
use Rattle.std.proofs.Math.Nat.{suc-mod, mod_self, mod-lt, mod-eq_of_lt, zero-mod}
use Rattle.air_model.specs.Cutting.{joined}
use Rattle.air_timing.specs.declared.timing.Timing.{Timing}
use Rattle.air_timing.specs.Pacing.{Timed, Place, timing_of, timings, paced_one, paced_all, first_of, last_of}
use Rattle.air_timing.specs.Frames.{Rest, bare, led_at, in_part, in_next, rest_from, fits, order_of}
use Rattle.air_timing.specs.PaceView.{Seen, place_of, AreOf, Puts, lane_of}
use Rattle.air_timing.specs.Plan.{Planned, section_at, timed_of, framed_of, lead_at, closing, order_in, plan_of, PlansAreLong, next_lead, end_with, order_from}
use Rattle.air_timing.specs.declared.pace.Paced.{Paced}
use Rattle.air_timing.specs.declared.pace.Spacing.{Spacing}
use Rattle.air_timing.specs.PlanView.{Course, planned, lead_of, body_left, end_of, order_with, left_of, goes_on, goes, is_last, is_over, leads_on, IsPlan, CanCount, IsCourse}

-- ---- a section is sent

abbrev at : ℕ → ℕ → ℕ → Timing
at x first last = record { section = x; first = first; last = last }

-- what is put in has its timing
put_at : (t : Timed) (x : ℕ) (old new : Seen) (first last : ℕ) → Puts t x old new first last → timing_of t (place_of old) x ≡ at x first last
put_at t x old new first last puts = ap₂ (λ (n m : ℕ). at x n m) (sym puts.first_is) (sym puts.last_is)

abbrev left_with : Planned → ℕ → ℕ → Bool → List ℕ → Place → List ℕ → List Timing
left_with f i e fresh xs p l = timings (timed_of f) p (l ++ order_with f i e (paced_all (timed_of f) p l) fresh xs)

-- of a lead,
pub lead_sent : (f g : Planned) (i e led : ℕ) (fresh : Bool) (xs lead : List ℕ) (old new : Seen) (x first last : ℕ) → g ≡ f → Puts (timed_of f) x old new first last → led < length lead → x ≡ slice_index_or lead led 0
    → left_with f i e fresh xs (place_of old) (drop led lead) ≡ at x first last ∷ left_with g i e fresh xs (place_of new) (drop (led + 1) lead)
lead_sent f g i e led fresh xs lead old new x first last same puts l is =
    ap (left_with f i e fresh xs (place_of old)) (drop_more lead led 0 l ∙ ap (λ (y : ℕ). y ∷ drop (led + 1) lead) (sym is))
    ∙ ap₂ (λ (s : Timing) (p : Place). s ∷ left_with f i e fresh xs p (drop (led + 1) lead)) (put_at (timed_of f) x old new first last puts) (sym puts.place)
    ∙ ap (λ (h : Planned). at x first last ∷ left_with h i e fresh xs (place_of new) (drop (led + 1) lead)) (sym same)

-- and of the body
body_goes : (f : Planned) (i e : ℕ) (p : Place) (fresh : Bool) (x : ℕ) (xs : List ℕ) → goes_on f e p fresh (x ∷ xs) ≡ true → order_with f i e p fresh (x ∷ xs) ≡ x ∷ order_from f i e (paced_one (timed_of f) p x) xs
body_goes f i e p true x xs h = refl
body_goes f i e p false x xs h =
    ap (λ (b : Bool). if b then x ∷ order_from f i e (paced_one (timed_of f) p x) xs
    else lead_at f.leads (next_lead f.leads i) ++ x ∷ (
    order_from f (next_lead f.leads i) (end_with f p (lead_at f.leads (next_lead f.leads i)))
    (paced_one (timed_of f) (paced_all (timed_of f) p (lead_at f.leads (next_lead f.leads i))) x) xs
    )) h

pub body_sent : (f g : Planned) (i e led sent : ℕ) (fresh : Bool) (body lead : List ℕ) (old new : Seen) (x first last : ℕ) → g ≡ f → Puts (timed_of f) x old new first last → length lead ≤ led → sent < length body → x ≡ slice_index_or body sent 0
    → goes_on f e (place_of old) fresh (drop sent body) ≡ true
    → left_with f i e fresh (drop sent body) (place_of old) (drop led lead) ≡ at x first last ∷ left_with g i e false (drop (sent + 1) body) (place_of new) (drop led lead)
body_sent f g i e led sent fresh body lead old new x first last same puts over l is on =
    let none : drop led lead ≡ [] = drop_all led lead over in
    let here : drop sent body ≡ x ∷ drop (sent + 1) body = drop_more body sent 0 l ∙ ap (λ (y : ℕ). y ∷ drop (sent + 1) body) (sym is) in
    let going = subst (λ (ys : List ℕ). goes_on f e (place_of old) fresh ys ≡ true) here on in
    ap₂ (λ (l ys : List ℕ). left_with f i e fresh ys (place_of old) l) none here
    ∙ ap (timings (timed_of f) (place_of old)) (body_goes f i e (place_of old) fresh x (drop (sent + 1) body) going)
    ∙ ap₂ (λ (s : Timing) (p : Place). s ∷ left_with f i e false (drop (sent + 1) body) p []) (put_at (timed_of f) x old new first last puts) (sym puts.place)
    ∙ ap₂ (λ (h : Planned) (l : List ℕ). at x first last ∷ left_with h i e false (drop (sent + 1) body) (place_of new) l) (sym same) (sym none)

length-timings : (f : Planned) (p : Place) (xs : List ℕ) → length (timings (timed_of f) p xs) ≡ length xs
length-timings f p [] = refl
length-timings f p (x ∷ xs) = ap suc (length-timings f (paced_one (timed_of f) p x) xs)

pub plans_are_long : PlansAreLong
plans_are_long f p = length-timings f p (order_in f p)

-- ---- a next frame

next_in : (leads : List (List ℕ)) (i : ℕ) → (suc i == length leads) ≡ false → next_lead leads i ≡ suc i
next_in leads i h = ap (λ (b : Bool). if b then 0 else suc i) h

closing_more : (leads : List (List ℕ)) (i : ℕ) → i < length leads → (suc i == length leads) ≡ false → closing leads i ≡ lead_at leads (suc i) ++ closing leads (suc i)
closing_more leads i l h =
    let ne = eqb-false (suc i) (length leads) h in
    let more : suc i < length leads = grind arith in
    ap joined (drop_more leads (suc i) [] more) ∙ ap (λ (n : ℕ). lead_at leads (suc i) ++ joined (drop n leads)) (let e : suc i + 1 ≡ suc (suc i) = omega arith in e)

pub lead_begun : (f : Planned) (i e : ℕ) (p : Place) (fresh : Bool) (xs : List ℕ) → i < length f.leads → goes_on f e p fresh xs ≡ false → is_last f i xs ≡ false
    → left_with f (next_lead f.leads i) (end_with f p (lead_at f.leads (next_lead f.leads i))) true xs p (lead_at f.leads (next_lead f.leads i)) ≡ left_with f i e fresh xs p []
lead_begun f i e p fresh [] l stays more =
    let n = next_in f.leads i more in
    ap (λ (k : ℕ). timings (timed_of f) p (lead_at f.leads k ++ closing f.leads k)) n
    ∙ ap (timings (timed_of f) p) (sym (closing_more f.leads i l more)) ∙ ap (timings (timed_of f) p) (any fresh)
  where
    any : (b : Bool) → closing f.leads i ≡ order_with f i e p b []
    any true = refl
    any false = refl
lead_begun f i e p true (x ∷ xs) l stays more = cc
lead_begun f i e p false (x ∷ xs) l stays more = sym (ap (λ (b : Bool). timings (timed_of f) p (if b then x ∷ order_from f i e (paced_one (timed_of f) p x) xs
    else lead_at f.leads (next_lead f.leads i) ++ x ∷ (
    order_from f (next_lead f.leads i) (end_with f p (lead_at f.leads (next_lead f.leads i)))
    (paced_one (timed_of f) (paced_all (timed_of f) p (lead_at f.leads (next_lead f.leads i))) x) xs
    ))) stays)

-- ---- the end

pub nothing_left : (f : Planned) (i e : ℕ) (p : Place) (fresh : Bool) (xs : List ℕ) → is_last f i xs ≡ true → left_with f i e fresh xs p [] ≡ []
nothing_left f i e p fresh [] h = ap (timings (timed_of f) p) (go fresh)
  where
    none : closing f.leads i ≡ []
    none = ap joined (drop_all (suc i) f.leads (let s = eqb-true (suc i) (length f.leads) h in omega arith))

    go : (b : Bool) → order_with f i e p b [] ≡ []
    go true = none
    go false = none
nothing_left f i e p fresh (x ∷ xs) h = cc

-- ---- counts

pub counts_on : (closed more : ℕ) (left rest : List Timing) (s : Timing) → CanCount closed left → left ≡ s ∷ rest → more ≤ closed + 8589934592 → CanCount more rest
counts_on closed more left rest s h e m =
    let l = ap length e in
    omega arith

-- ---- the beginning

next_mod : (leads : List (List ℕ)) (j : ℕ) → 0 < length leads → next_lead leads (j % length leads) ≡ suc j % length leads
next_mod leads j some = go (suc (j % length leads) == length leads) refl
  where
    go : (b : Bool) → (suc (j % length leads) == length leads) ≡ b → (if b then 0 else suc (j % length leads)) ≡ suc j % length leads
    go true e =
        let s = eqb-true (suc (j % length leads)) (length leads) e in
        sym (suc-mod j (length leads) ∙ ap (λ (n : ℕ). n % length leads) s ∙ mod_self (length leads))
    go false e =
        let ne = eqb-false (suc (j % length leads)) (length leads) e in
        let below = mod-lt j some in
        let less : suc (j % length leads) < length leads = grind arith in
        sym (suc-mod j (length leads) ∙ mod-eq_of_lt less)

module _ (f : Planned) (some : 0 < length f.leads) where
  -- the order of these frames
  abbrev in_frames : Rest → List ℕ
  in_frames r = r.part ++ order_of (framed_of f) r.frames

  -- the leads that end a round
  bare_order : (k j : ℕ) (p : Place) → k + suc (j % length f.leads) ≡ length f.leads → closing f.leads (j % length f.leads) ≡ order_of (framed_of f) (bare (framed_of f) k (suc j) p)
  bare_order zero j p e = ap joined (drop_all (suc (j % length f.leads)) f.leads (omega arith))
  bare_order (suc k) j p e =
      let i = j % length f.leads in
      let below : suc i < length f.leads = omega arith in
      let next : suc j % length f.leads ≡ suc i = suc-mod j (length f.leads) ∙ mod-eq_of_lt below in
      let off : (suc i == length f.leads) ≡ false = ne_eqb (suc i) (length f.leads) (λ h. omega arith) in
      let here : i < length f.leads = omega arith in
      let q = led_at (framed_of f) p (suc j) in
      closing_more f.leads i here off
      ∙ ap (λ (n : ℕ). lead_at f.leads n ++ closing f.leads n) (sym next)
      ∙ ap (λ (l : List ℕ). lead_at f.leads (suc j % length f.leads) ++ l) (bare_order k (suc j) q (omega arith))
      ∙ ap (λ (l : List ℕ). l ++ order_of (framed_of f) (bare (framed_of f) k (suc (suc j)) q)) (sym (append-nil (lead_at f.leads (suc j % length f.leads))))

  abbrev with_lead : Place → ℕ → List ℕ → ℕ → List ℕ
  with_lead p x xs i = lead_at f.leads i ++ x ∷ order_from f i (end_with f p (lead_at f.leads i)) (paced_one (timed_of f) (paced_all (timed_of f) p (lead_at f.leads i)) x) xs

  frames_order : (j e : ℕ) (p : Place) (xs : List ℕ) → order_from f (j % length f.leads) e p xs ≡ in_frames (rest_from (framed_of f) j e p xs)
  frames_order j e p [] = let below = mod-lt j some in bare_order (length f.leads - 1 - j % length f.leads) j p (omega arith)
  frames_order j e p (x ∷ xs) =
      let lead = lead_at f.leads (suc j % length f.leads) in
      let q = paced_one (timed_of f) (paced_all (timed_of f) p lead) x in
      go (fits (framed_of f) e p x) (rest_from (framed_of f) j e (paced_one (timed_of f) p x) xs) (rest_from (framed_of f) (suc j) (end_with f p lead) q xs)
      (frames_order j e (paced_one (timed_of f) p x) xs) (frames_order (suc j) (end_with f p lead) q xs)
    where
      go : (b : Bool) (one two : Rest) → order_from f (j % length f.leads) e (paced_one (timed_of f) p x) xs ≡ in_frames one
          → order_from f (suc j % length f.leads) (end_with f p (lead_at f.leads (suc j % length f.leads))) (paced_one (timed_of f) (paced_all (timed_of f) p (lead_at f.leads (suc j % length f.leads))) x) xs ≡ in_frames two
          → (if b then x ∷ order_from f (j % length f.leads) e (paced_one (timed_of f) p x) xs else with_lead p x xs (next_lead f.leads (j % length f.leads))) ≡ in_frames (if b then in_part x one else in_next (suc j) p x two)
      go true one two h k = ap (λ (l : List ℕ). x ∷ l) h
      go false one two h k =
          let lead = lead_at f.leads (suc j % length f.leads) in
          ap (with_lead p x xs) (next_mod f.leads j some)
          ∙ ap (λ (l : List ℕ). lead ++ x ∷ l) k
          ∙ sym (append_assoc lead (x ∷ two.part) (order_of (framed_of f) two.frames))

  pub begins_whole : (p : Place) → left_with f 0 (end_with f p (lead_at f.leads 0)) false f.body p (lead_at f.leads 0) ≡ plan_of f p
  begins_whole p =
      let lead = lead_at f.leads (0 % length f.leads) in
      let r = rest_from (framed_of f) 0 (end_with f p lead) (paced_all (timed_of f) p lead) f.body in
      ap (timings (timed_of f) p) (
      ap (λ (i : ℕ). lead_at f.leads i ++ order_from f i (end_with f p (lead_at f.leads i)) (paced_all (timed_of f) p (lead_at f.leads i)) f.body) (sym (zero-mod (length f.leads)))
      ∙ ap (λ (l : List ℕ). lead ++ l) (frames_order 0 (end_with f p lead) (paced_all (timed_of f) p lead) f.body)
      ∙ sym (append_assoc lead r.part (order_of (framed_of f) r.frames))
      )

-- ---- courses

-- the end of a frame whose lead has begun
end_past : (led a b : ℕ) → 0 < led → (if led == 0 then a else b) ≡ b
end_past led a b h = ap (λ (t : Bool). if t then a else b) (ne_eqb led 0 (λ e. omega arith))

-- what is known of the lead at hand where all of it is sent
pub record IsLed (c : Course) : Type 0 where
  pub most : length (lead_of c) ≤ c.led
  pub end_is : end_of c ≡ c.end

pub is_led : (c : Course) → IsCourse c → leads_on c ≡ false → IsLed c
is_led c is off =
    let most = ltb-false c.led (length (lead_of c)) off in
    let some = is.plan.some c.lead is.lead in
    record { most = most; end_is = end_past c.led (end_with c.plan (place_of c.seen) (lead_of c)) c.end (omega arith) }

next_below : (leads : List (List ℕ)) (i : ℕ) → i < length leads → next_lead leads i < length leads
next_below leads i l = go (suc i == length leads) refl
  where
    go : (b : Bool) → (suc i == length leads) ≡ b → (if b then 0 else suc i) < length leads
    go true e = omega arith
    go false e = let ne = eqb-false (suc i) (length leads) e in grind arith

pub record Begins (c new : Course) : Type 0 where
  pub left : left_of new ≡ left_of c
  pub on : leads_on new ≡ true
  pub is : IsCourse new

pub begins : (c : Course) → IsCourse c → leads_on c ≡ false → goes c ≡ false → is_over c ≡ false → (i : ℕ) → i ≡ next_lead c.plan.leads c.lead
    → Begins c (record { plan = c.plan; seen = c.seen; lead = i; led = 0; sent = c.sent; end = c.end; fresh = true })
begins c is off stays more i at = subst (λ (k : ℕ). Begins c (record { plan = c.plan; seen = c.seen; lead = k; led = 0; sent = c.sent; end = c.end; fresh = true })) (sym at) (record { left = same; on = some; is = record { plan = is.plan; lead = below; count = counted } })
  where
    below : next_lead c.plan.leads c.lead < length c.plan.leads
    below = next_below c.plan.leads c.lead is.lead

    some : nat_lt 0 (length (lead_at c.plan.leads (next_lead c.plan.leads c.lead))) ≡ true
    some = lt-ltb 0 (length (lead_at c.plan.leads (next_lead c.plan.leads c.lead))) (is.plan.some (next_lead c.plan.leads c.lead) below)

    same : left_of (record { plan = c.plan; seen = c.seen; lead = next_lead c.plan.leads c.lead; led = 0; sent = c.sent; end = c.end; fresh = true }) ≡ left_of c
    same =
        let l = is_led c is off in
        lead_begun c.plan c.lead c.end (place_of c.seen) c.fresh (body_left c) is.lead stays more
        ∙ ap₂ (λ (e : ℕ) (rest : List ℕ). left_with c.plan c.lead e c.fresh (body_left c) (place_of c.seen) rest) (sym l.end_is) (sym (drop_all c.led (lead_of c) l.most))

    counted : CanCount c.seen.packing.closed (left_of (record { plan = c.plan; seen = c.seen; lead = next_lead c.plan.leads c.lead; led = 0; sent = c.sent; end = c.end; fresh = true }))
    counted = subst (CanCount c.seen.packing.closed) (sym same) is.count

-- a pace that has sent a section of a course, and the course after it
pub record IsSent (c : Course) (new : Seen) (x first last : ℕ) : Type 0 where
  pub puts : Puts (timed_of c.plan) x c.seen new first last
  pub tables : length new.free ≡ length c.seen.free
  pub spacing : new.spacing ≡ c.plan.spacing
  pub most : new.packing.closed ≤ c.seen.packing.closed + 8589934592

abbrev replanned : Planned → Spacing → Planned
replanned f spacing = planned f.sections f.leads f.body spacing f.span

same_plan : (f : Planned) (spacing : Spacing) → spacing ≡ f.spacing → replanned f spacing ≡ f
same_plan f spacing e = ap (replanned f) e

plan_on : (f : Planned) (spacing : Spacing) (tables more : ℕ) → more ≡ tables → IsPlan f tables → IsPlan (replanned f spacing) more
plan_on f spacing tables more e is = record {
  tables_are = λ x l. (let t = is.tables_are x l in omega arith);
  lens_are = is.lens_are;
  some = is.some;
  leads_are = is.leads_are;
  body_is = is.body_is;
  span_is = is.span_is;
}

pub record Sends (c new : Course) (x first last : ℕ) : Type 0 where
  pub left : left_of c ≡ at x first last ∷ left_of new
  pub is : IsCourse new

-- of a lead,
pub sends_lead : (c : Course) (new : Seen) (x first last end : ℕ) → IsCourse c → leads_on c ≡ true → x ≡ slice_index (lead_of c) c.led → end ≡ end_of c → IsSent c new x first last
    → Sends c (record { plan = replanned c.plan new.spacing; seen = new; lead = c.lead; led = c.led + 1; sent = c.sent; end = end; fresh = c.fresh }) x first last
sends_lead c new x first last end is on here e sent =
    let f = c.plan in
    let lead = lead_of c in
    let g = replanned f new.spacing in
    let left : left_of c ≡ at x first last ∷ left_with g c.lead (end_of c) c.fresh (body_left c) (place_of new) (drop (c.led + 1) lead) =
    lead_sent f g c.lead (end_of c) c.led c.fresh (body_left c) lead c.seen new x first last (same_plan f new.spacing sent.spacing) sent.puts (ltb-true c.led (length lead) on) here in
    let again : end_of c ≡ (if c.led + 1 == 0 then end_with g (place_of new) lead else end) = sym (end_past (c.led + 1) (end_with g (place_of new) lead) end (omega arith) ∙ e) in
    let whole = left ∙ ap (λ (m : ℕ). at x first last ∷ left_with g c.lead m c.fresh (body_left c) (place_of new) (drop (c.led + 1) lead)) again in
    record {
      left = whole;
      is = record { plan = plan_on f new.spacing (length c.seen.free) (length new.free) sent.tables is.plan; lead = is.lead; count = counts_on c.seen.packing.closed new.packing.closed (left_of c) _ (at x first last) is.count whole sent.most };
    }

-- and of the body
pub sends_body : (c : Course) (new : Seen) (x first last : ℕ) → IsCourse c → leads_on c ≡ false → goes c ≡ true → c.sent < length c.plan.body → x ≡ slice_index c.plan.body c.sent → IsSent c new x first last
    → Sends c (record { plan = replanned c.plan new.spacing; seen = new; lead = c.lead; led = c.led; sent = c.sent + 1; end = c.end; fresh = false }) x first last
sends_body c new x first last is off on l here sent =
    let f = c.plan in
    let lead = lead_of c in
    let g = replanned f new.spacing in
    let led = is_led c is off in
    let some = is.plan.some c.lead is.lead in
    let most = led.most in
    let left : left_of c ≡ at x first last ∷ left_with g c.lead c.end false (drop (c.sent + 1) f.body) (place_of new) (drop c.led lead) =
    ap (λ (m : ℕ). left_with f c.lead m c.fresh (body_left c) (place_of c.seen) (drop c.led lead)) led.end_is
    ∙ body_sent f g c.lead c.end c.led c.sent c.fresh f.body lead c.seen new x first last (same_plan f new.spacing sent.spacing) sent.puts led.most l here on in
    let again : c.end ≡ (if c.led == 0 then end_with g (place_of new) lead else c.end) = sym (end_past c.led (end_with g (place_of new) lead) c.end (omega arith)) in
    let whole = left ∙ ap (λ (m : ℕ). at x first last ∷ left_with g c.lead m false (drop (c.sent + 1) f.body) (place_of new) (drop c.led lead)) again in
    record {
      left = whole;
      is = record { plan = plan_on f new.spacing (length c.seen.free) (length new.free) sent.tables is.plan; lead = is.lead; count = counts_on c.seen.packing.closed new.packing.closed (left_of c) _ (at x first last) is.count whole sent.most };
    }

-- at the end nothing is left
pub over_none : (c : Course) → IsCourse c → leads_on c ≡ false → is_over c ≡ true → left_of c ≡ []
over_none c is off over =
    let l = is_led c is off in
    ap (left_with c.plan c.lead (end_of c) c.fresh (body_left c) (place_of c.seen)) (drop_all c.led (lead_of c) l.most)
    ∙ nothing_left c.plan c.lead (end_of c) (place_of c.seen) c.fresh (body_left c) over

-- the section that a lead sends first
pub end_first : (c : Course) (x first : ℕ) → leads_on c ≡ true → x ≡ slice_index (lead_of c) c.led → c.led ≡ 0 → first ≡ first_of (timed_of c.plan) (place_of c.seen) x → first + c.plan.span ≡ end_of c
end_first c x first on at zero_led e =
    let l = ltb-true c.led (length (lead_of c)) on in
    let some : 0 < length (lead_of c) = omega arith in
    let here : lead_of c ≡ x ∷ drop 1 (lead_of c) = drop_more (lead_of c) 0 0 some ∙ ap (λ (y : ℕ). y ∷ drop 1 (lead_of c)) (sym (at ∙ ap (slice_index (lead_of c)) zero_led)) in
    ap (λ (m : ℕ). m + c.plan.span) e
    ∙ sym (ap (end_with c.plan (place_of c.seen)) here)
    ∙ sym (ap (λ (m : ℕ). if m == 0 then end_with c.plan (place_of c.seen) (lead_of c) else c.end) zero_led)

-- ---- what the code finds

pub are_of : (f : Planned) (x : ℕ) (s : Paced) → s ≡ section_at f.sections x → AreOf (timed_of f) x s f.spacing
are_of f x s e = record {
  lane = ap lane_of (sym e);
  len = ap (λ (t : Paced). t.len) (sym e);
  table = ap (λ (t : Paced). t.table) (sym e);
  gap = refl;
  least = refl;
}

pub next_first : (leads : List (List ℕ)) (i n : ℕ) → n ≡ length leads → i + 1 ≡ n → next_lead leads i ≡ 0
next_first leads i n l e = ap (λ (b : Bool). if b then 0 else suc i) (eq-eqb (suc i) (length leads) (omega arith))

pub next_more : (leads : List (List ℕ)) (i n : ℕ) → n ≡ length leads → (i + 1 ≡ n → Prim.⊥) → next_lead leads i ≡ i + 1
next_more leads i n l ne = next_in leads i (ne_eqb (suc i) (length leads) (λ e. ne (omega arith))) ∙ (let h : suc i ≡ i + 1 = omega arith in h)

pub not_over : (c : Course) → c.sent < length c.plan.body → is_over c ≡ false
not_over c l = ap (is_last c.plan c.lead) (drop_more c.plan.body c.sent 0 l)

pub goes_is : (c : Course) (x last : ℕ) → c.sent < length c.plan.body → x ≡ slice_index c.plan.body c.sent → c.fresh ≡ false → last ≡ last_of (timed_of c.plan) (place_of c.seen) x → nat_lt last c.end ≡ goes c
goes_is c x last l at off e =
    ap (λ (n : ℕ). nat_lt n c.end) (e ∙ ap (last_of (timed_of c.plan) (place_of c.seen)) at)
    ∙ sym (ap₂ (goes_on c.plan c.end (place_of c.seen)) off (drop_more c.plan.body c.sent 0 l))

true_false : true ≡ false → Prim.⊥
true_false e = cc

pub goes_sent : (c : Course) → goes c ≡ true → c.sent < length c.plan.body
goes_sent c on = go (nat_lt c.sent (length c.plan.body)) refl
  where
    go : (b : Bool) → nat_lt c.sent (length c.plan.body) ≡ b → c.sent < length c.plan.body
    go true e = ltb-true c.sent (length c.plan.body) e
    go false e =
        let none = ap (goes_on c.plan c.end (place_of c.seen) c.fresh) (drop_all c.sent c.plan.body (ltb-false c.sent (length c.plan.body) e)) in
        absurd (true_false (sym on ∙ none))
