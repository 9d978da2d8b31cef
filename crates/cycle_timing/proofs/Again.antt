-- The sections of leads are sent again soon enough.
use Rattle.std.proofs.Common.{◌≡◌, ℕ, suc, ◌+◌, ◌-◌, ◌*◌, ◌/◌, ◌%◌, ◌<◌, ◌≤◌, ◌⊎◌, inl, inr, List, [], ◌∷◌, ◌++◌, Bool, true, false, Option, Some, None, length, map, refl, sym, ap, ◌∙◌, subst, arith, append_assoc}
use Rattle.std.specs.Prelude.{flat_map, filter, if◌then◌else◌, nat_lt, ◌==◌, slice_get}
use Rattle.std.specs.Int.{◌∣◌}
use Rattle.std.specs.List.{AllByRecursion, Contains, cons_option}
use Rattle.std.proofs.lemmas.Bool.{eq-eqb, eqb-true}
use Rattle.std.proofs.lemmas.Nat.{mod_below}
use Rattle.std.proofs.lemmas.List.{map-append}
use Rattle.std.proofs.lemmas.List.Elements.{Contains-append_right}
use Rattle.std.proofs.Math.Nat.{add-mod_right, mul-add-mod_self_right, mod-mod_of_dvd, dvd-mul_left}
use Rattle.si_lists.proofs.Lists.{all_append, all_at, all_map}
use Rattle.ts_packets.specs.Packets.{packets_of}
use Rattle.air_model.specs.Cycle.{Planned as Tiers, fast_of}
use Rattle.air_model.proofs.Lists.{all-numbers, packets-append}
use Rattle.air_model.proofs.Elements.{elements, of_element, first_of as front_of}
use Rattle.air_timing.specs.declared.pace.Paced.{Paced}
use Rattle.air_timing.specs.declared.timing.Timing.{Timing}
use Rattle.air_timing.specs.Pacing.{Timed, Place, first_of, paced_one, paced_all, timing_of, timings}
use Rattle.air_timing.specs.Frames.{Framed, Frame, begin_of, sections_of, order_of, place_after, Follow, packets, EndInTime, AreNear, LeadInTime, AreInTime}
use Rattle.air_timing.specs.Plan.{lead_at}
use Rattle.air_timing.specs.Rate.{gap_at}
use Rattle.air_timing.specs.Spreading.{NoneOf, AreGroups}
use Rattle.air_timing.specs.Turns.{often_of, turn_of}
use Rattle.cycle_timing.specs.Again.{moved}
use Rattle.cycle_timing.specs.Leads.{most_sections, in_turn, lead_from, leads_of, lead_packets, measure}
use Rattle.cycle_timing.specs.Planning.{table_at}
use Rattle.cycle_timing.proofs.Beats.{Beat, flat, AreClose, AreNumbered, in_part, Plays}
use Rattle.cycle_timing.proofs.Cycles.{got_within}
use Rattle.cycle_timing.proofs.PacedGroups.{are_groups, all_groups, own_group, in_own}
use Rattle.cycle_timing.proofs.PacedLeads.{lead_append, all_lead, turn_in}
use Rattle.cycle_timing.proofs.Plans.{in_numbers, in_some_lead, leads_length, lead_is}
use Rattle.cycle_timing.proofs.Rooms.{AreSizedOnce, framed, tables, begin, frames, room, in_time, follow, frame_timings, end_of, end_one, end_more}
use Rattle.cycle_timing.proofs.Sent.{timings-append}

-- ---- the timings of a frame

abbrev frame_part : Timed → ℕ → Place → List ℕ → List Timing
frame_part t n p xs = map (moved n) (timings t p xs)

record TimingAt (t : Timed) (n : ℕ) (p : Place) (xs : List ℕ) (one : Timing) : Type 0 where
  pub front : List ℕ
  pub rest : List ℕ
  pub are : xs ≡ front ++ one.section ∷ rest
  pub first : one.first ≡ n + first_of t (paced_all t p front) one.section

timing_at : (t : Timed) (n : ℕ) (p : Place) (xs : List ℕ) (front behind : List Timing) (one : Timing) → frame_part t n p xs ≡ front ++ one ∷ behind → TimingAt t n p xs one
timing_at t n p [] [] behind one e = absurd (let b : Prim.⊥ = cc in b)
timing_at t n p [] (f ∷ front) behind one e = absurd (let b : Prim.⊥ = cc in b)
timing_at t n p (x ∷ xs) [] behind one e =
    let head : moved n (timing_of t p x) ≡ one = cc in
    let s : x ≡ one.section = ap (λ (o : Timing). o.section) head in
    record { front = []; rest = xs; are = ap (λ (y : ℕ). y ∷ xs) s; first = sym (ap (λ (o : Timing). o.first) head) ∙ ap (λ (y : ℕ). n + first_of t p y) s }
timing_at t n p (x ∷ xs) (f ∷ front) behind one e =
    let tail : frame_part t n (paced_one t p x) xs ≡ front ++ one ∷ behind = cc in
    let r = timing_at t n (paced_one t p x) xs front behind one tail in
    record { front = x ∷ r.front; rest = r.rest; are = ap (λ (l : List ℕ). x ∷ l) r.are; first = r.first }

-- a section of it has a timing
part_has : (t : Timed) (n : ℕ) (p : Place) (front : List ℕ) (x : ℕ) (rest : List ℕ) → Contains (frame_part t n p (front ++ x ∷ rest)) (moved n (timing_of t (paced_all t p front) x))
part_has t n p front x rest =
    let q = paced_all t p front in
    let one = moved n (timing_of t q x) in
    let later = frame_part t n (paced_one t q x) rest in
    subst (λ (l : List Timing). Contains l one) (sym (ap (map (moved n)) (timings-append t p front (x ∷ rest)) ∙ map-append (moved n) (timings t p front) (timings t q (x ∷ rest))))
    (Contains-append_right (frame_part t n p front) (one ∷ later) one (front_of one later))

-- ---- turns

-- a sub-table that has a turn has one again after as many leads as there are from turn to turn
turn_again : (g : List ℕ) (often q i j : ℕ) → j % often ≡ i % often → 0 < length g → (y : ℕ) × (in_turn g (turn_of often q i (length g)) ≡ Some y) → (y : ℕ) × (in_turn g (turn_of often q j (length g)) ≡ Some y)
turn_again g often q i j same some h = go (nat_lt 4 m) h
  where
    m : ℕ
    m = length g

    got : (k : ℕ) → (y : ℕ) × (slice_get g (k % length g) ≡ Some y)
    got k = got_within g (k % length g) (mod_below k (length g) some)

    small : (b : Bool) → (i % often == q % often) ≡ b → (y : ℕ) × (in_turn g (if b then Some (i / often % length g) else None) ≡ Some y)
        → (y : ℕ) × (in_turn g (if j % often == q % often then Some (j / often % length g) else None) ≡ Some y)
    small false e h = absurd (let f = h.1 in let b : Prim.⊥ = cc in b)
    small true e h =
        let t : (j % often == q % often) ≡ true = eq-eqb (j % often) (q % often) (same ∙ eqb-true (i % often) (q % often) e) in
        let y = got (j / often) in
        (y.0, ap (λ (b : Bool). in_turn g (if b then Some (j / often % length g) else None)) t ∙ y.1)

    go : (b : Bool) → (y : ℕ) × (in_turn g (if b then Some (i % length g) else if i % often == q % often then Some (i / often % length g) else None) ≡ Some y)
        → (y : ℕ) × (in_turn g (if b then Some (j % length g) else if j % often == q % often then Some (j / often % length g) else None) ≡ Some y)
    go true h = got j
    go false h = small (i % often == q % often) refl h

-- the lead in which it has its turn
turn_split : (often i : ℕ) (before : List (List ℕ)) (g : List ℕ) (after : List (List ℕ)) (o : Option ℕ) → in_turn g (turn_of often (length before) i (length g)) ≡ o
    → lead_from often i 0 (before ++ g ∷ after) ≡ lead_from often i 0 before ++ cons_option o (lead_from often i (suc (length before)) after)
turn_split often i before g after o e =
    lead_append often i 0 before (g ∷ after)
    ∙ ap (λ (n : ℕ). lead_from often i 0 before ++ lead_from often i n (g ∷ after)) (let z : 0 + length before ≡ length before = omega arith in z)
    ∙ ap (λ (p : Option ℕ). lead_from often i 0 before ++ cons_option p (lead_from often i (suc (length before)) after)) e

-- sections of other sub-tables
groups_apart : (table : ℕ → ℕ) (before : List (List ℕ)) (g : List ℕ) (after : List (List ℕ)) (x : ℕ) → AreGroups table (before ++ g ∷ after) → Contains g x
    → AllByRecursion (NoneOf table (table x)) before × AllByRecursion (NoneOf table (table x)) after
groups_apart table [] g after x h has =
    let same : table x ≡ h.0.0 = of_element (λ (y : ℕ). table y ≡ h.0.0) g x h.0.1 has in
    (tt, subst (λ (k : ℕ). AllByRecursion (NoneOf table k) after) (sym same) h.0.2)
groups_apart table (b ∷ before) g after x h has =
    let r = groups_apart table before g after x h.1 has in
    let none = of_element (λ (y : ℕ). table y ≡ h.0.0 → Prim.⊥) g x (all_at (NoneOf table h.0.0) before g after h.0.2) has in
    ((all_map (λ (y : ℕ). table y ≡ h.0.0) (λ (y : ℕ). table y ≡ table x → Prim.⊥) (λ y e same. none (sym same ∙ e)) b h.0.1, r.0), r.1)

-- a sub-table of which a section stands in a lead has its turn there
has_turn : (table : ℕ → ℕ) (often i : ℕ) (before : List (List ℕ)) (g : List ℕ) (after : List (List ℕ)) (x : ℕ) → AreGroups table (before ++ g ∷ after) → Contains g x
    → Contains (lead_from often i 0 (before ++ g ∷ after)) x → (y : ℕ) × (in_turn g (turn_of often (length before) i (length g)) ≡ Some y)
has_turn table often i before g after x h has stands = go (in_turn g (turn_of often (length before) i (length g))) refl
  where
    go : (o : Option ℕ) → in_turn g (turn_of often (length before) i (length g)) ≡ o → (y : ℕ) × (o ≡ Some y)
    go (Some y) e = (y, refl)
    go None e =
        let n = groups_apart table before g after x h has in
        let Other : ℕ → Type 0 = λ (y : ℕ). table y ≡ table x → Prim.⊥ in
        let all = all_append Other (lead_from often i 0 before) (lead_from often i (suc (length before)) after) (all_lead Other often i 0 before n.0) (all_lead Other often i (suc (length before)) after n.1) in
        absurd (of_element Other (lead_from often i 0 before ++ lead_from often i (suc (length before)) after) x all (subst (λ (l : List ℕ). Contains l x) (turn_split often i before g after None e) stands) refl)

-- ---- the beats of a cycle

module _ (rate : ℕ) (ss : List Paced) (p : Tiers) (sized : AreSizedOnce ss p) (some : 0 < p.fasts) where
  abbrev pub F : Framed
  F = framed rate ss p sized

  abbrev pub groups : List (List ℕ)
  groups = tables rate ss p sized

  abbrev pub round : ℕ
  round = length (leads_of groups)

  abbrev pub often : ℕ
  often = often_of (most_sections groups)

  abbrev pub gap : ℕ
  gap = gap_at rate

  abbrev pub step : ℕ
  step = F.span + gap

  abbrev pub beat : ℕ → ℕ → Frame → Beat
  beat n j frame = record { at = n + begin_of F frame; turn = j + frame.number; part = frame_part F.timed n frame.place (sections_of F frame) }

  abbrev pub beats : ℕ → ℕ → List Beat
  beats n j = map (beat n j) (frames rate ss p sized)

  pub flat_beats : (n j : ℕ) → flat (beats n j) ≡ frame_part F.timed n (begin rate ss p sized) (order_of F (frames rate ss p sized))
  flat_beats n j = go (frames rate ss p sized) ∙ ap (map (moved n)) (sym (frame_timings F 0 (begin rate ss p sized) (frames rate ss p sized) (follow rate ss p sized)))
    where
      go : (fs : List Frame) → flat (map (beat n j) fs) ≡ map (moved n) (flat_map (λ (frame : Frame). timings F.timed frame.place (sections_of F frame)) fs)
      go [] = refl
      go (frame ∷ fs) =
          ap (λ (l : List Timing). frame_part F.timed n frame.place (sections_of F frame) ++ l) (go fs)
          ∙ sym (map-append (moved n) (timings F.timed frame.place (sections_of F frame)) (flat_map (λ (frame : Frame). timings F.timed frame.place (sections_of F frame)) fs))

  pub beats_numbered : (n j : ℕ) → AreNumbered j (beats n j)
  beats_numbered n j = subst (λ (k : ℕ). AreNumbered k (beats n j)) (let e : j + 0 ≡ j = omega arith in e) (go 0 (begin rate ss p sized) (frames rate ss p sized) (follow rate ss p sized))
    where
      go : (i : ℕ) (q : Place) (fs : List Frame) → Follow F i q fs → AreNumbered (j + i) (map (beat n j) fs)
      go i q [] h = tt
      go i q (frame ∷ fs) h = (ap (λ (k : ℕ). j + k) h.0, subst (λ (k : ℕ). AreNumbered k (map (beat n j) fs)) (let e : j + suc i ≡ suc (j + i) = omega arith in e) (go (suc i) (place_after F frame) fs h.2))

  abbrev pub end : ℕ
  end = end_of F (begin rate ss p sized) (frames rate ss p sized)

  pub beats_close : (n j : ℕ) → AreClose step (n + end + gap) (beats n j)
  beats_close n j = go 0 (begin rate ss p sized) (frames rate ss p sized) (follow rate ss p sized) times.near times.end
    where
      times : AreInTime F (frames rate ss p sized)
      times = in_time rate ss p sized

      go : (i : ℕ) (q : Place) (fs : List Frame) → Follow F i q fs → AreNear F fs → EndInTime F fs → AreClose step (n + end_of F q fs + gap) (map (beat n j) fs)
      go i q [] h near ends = tt
      go i q (frame ∷ []) h near ends =
          let e = end_one F i q frame h in
          let l = ends.0 in
          omega arith
      go i q (frame ∷ next ∷ fs) h near ends =
          let e = end_more F i q frame (next ∷ fs) h in
          let l = near.0 in
          (omega arith, subst (λ (m : ℕ). AreClose step (n + m + gap) (map (beat n j) (next ∷ fs))) (sym e) (go (suc i) (place_after F frame) (next ∷ fs) h.2 near.1 ends.1))

  -- ---- what stands in a lead

  abbrev pub InTime : Frame → Type 0
  InTime frame = (front : List ℕ) (x : ℕ) (rest : List ℕ) → F.lead frame.number ≡ front ++ x ∷ rest → LeadInTime F.timed frame.place (F.lead frame.number) front x

  abbrev pub IsSlow : Frame → Type 0
  IsSlow frame = AllByRecursion (λ (i : ℕ). p.fasts ≤ i) frame.part

  record InLead (n : ℕ) (frame : Frame) (one : Timing) : Type 0 where
    pub front : List ℕ
    pub rest : List ℕ
    pub are : F.lead frame.number ≡ front ++ one.section ∷ rest
    pub first : one.first ≡ n + first_of F.timed (paced_all F.timed frame.place front) one.section

  -- a Fast section stands in the lead of its frame
  in_lead : (n : ℕ) (frame : Frame) (front behind : List Timing) (one : Timing) → IsSlow frame → one.section < p.fasts → frame_part F.timed n frame.place (sections_of F frame) ≡ front ++ one ∷ behind → InLead n frame one
  in_lead n frame front behind one slow fast e =
      let t = timing_at F.timed n frame.place (sections_of F frame) front behind one e in
      go t (in_part (F.lead frame.number) frame.part t.front t.rest one.section t.are)
    where
      go : (t : TimingAt F.timed n frame.place (sections_of F frame) one)
          → ((behind : List ℕ) × (F.lead frame.number ≡ t.front ++ one.section ∷ behind) × (t.rest ≡ behind ++ frame.part)) ⊎ ((more : List ℕ) × (t.front ≡ F.lead frame.number ++ more) × (frame.part ≡ more ++ one.section ∷ t.rest))
          → InLead n frame one
      go t (inl (behind, are, rest)) = record { front = t.front; rest = behind; are = are; first = t.first }
      go t (inr (more, lead, part)) =
          let late = all_at (λ (i : ℕ). p.fasts ≤ i) more one.section t.rest (subst (AllByRecursion (λ (i : ℕ). p.fasts ≤ i)) part slow) in
          absurd (omega arith)

  -- its timing
  plays_in : (n j : ℕ) (frame : Frame) (front : List ℕ) (x : ℕ) (rest : List ℕ) → F.lead frame.number ≡ front ++ x ∷ rest → Contains (beat n j frame).part (moved n (timing_of F.timed (paced_all F.timed frame.place front) x))
  plays_in n j frame front x rest e =
      subst (λ (l : List ℕ). Contains (frame_part F.timed n frame.place l) (moved n (timing_of F.timed (paced_all F.timed frame.place front) x)))
      (sym (ap (λ (l : List ℕ). l ++ frame.part) e ∙ append_assoc front (x ∷ rest) frame.part)) (part_has F.timed n frame.place front x (rest ++ frame.part))

  -- ---- rounds

  pub some_round : 0 < round
  some_round =
      let has = in_numbers 0 0 p.fasts (omega arith) (omega arith) in
      let lead = in_some_lead groups (filter (λ (x : ℕ). table_at ss x == table_at ss 0) (fast_of p)) 0 (own_group (table_at ss) (fast_of p) 0 has) (in_own (table_at ss) (fast_of p) 0 has) in
      let l = lead.1 in
      omega arith

  lead_moved : (k many n : ℕ) → k ≡ many * round → F.lead (k + n) ≡ F.lead n
  lead_moved k many n e = ap (lead_at (leads_of groups)) (ap (λ (m : ℕ). (m + n) % round) e ∙ mul-add-mod_self_right many round n)

  lead_round : (n : ℕ) → F.lead (n + round) ≡ F.lead n
  lead_round n = ap (lead_at (leads_of groups)) (add-mod_right n round)

  all_fast_low : AllByRecursion (AllByRecursion (λ (i : ℕ). i < p.fasts)) groups
  all_fast_low = all_groups (λ (i : ℕ). i < p.fasts) (table_at ss) (fast_of p) (all-numbers (λ (i : ℕ). i < p.fasts) 0 p.fasts (λ i a b. omega arith))

  pub fast_low : (table : List ℕ) (x : ℕ) → Contains groups table → Contains table x → x < p.fasts
  fast_low table x has_table has = of_element (λ (i : ℕ). i < p.fasts) table x (of_element (AllByRecursion (λ (i : ℕ). i < p.fasts)) groups table all_fast_low has_table) has

  -- ---- a section, each round

  abbrev pub Stands : ℕ → ℕ → Type 0
  Stands x k = (front : List ℕ) × (rest : List ℕ) × (F.lead k ≡ front ++ x ∷ rest)

  abbrev pub most : ℕ
  most = (measure ss groups).most

  pub section_plays : (n j many x last : ℕ) (frame : Frame) → j ≡ many * round → x < p.fasts → InTime frame → IsSlow frame → Plays (λ (i : ℕ). i ≡ x) (Stands x) step round (1 + gap + most) last (beat n j frame)
  section_plays n j many x last frame is low times slow = record {
    least = λ front behind one e same. (
        let i = in_lead n frame front behind one slow (omega arith) e in
        let l = (times i.front one.section i.rest i.are).least in
        let f = i.first in
        omega arith);
    again = λ front behind one e same. (
        let i = in_lead n frame front behind one slow (omega arith) e in
        (i.front, i.rest, lead_round (j + frame.number) ∙ lead_moved j many frame.number is ∙ i.are ∙ ap (λ (y : ℕ). i.front ++ y ∷ i.rest) same));
    turn_plays = λ has. (
        let here : F.lead frame.number ≡ has.0 ++ x ∷ has.1 = sym (lead_moved j many frame.number is) ∙ has.2 in
        let l = (times has.0 x has.1 here).most in
        let few = (room rate ss p sized).few frame.number in
        let whole = ap (packets F.timed) here ∙ packets-append (λ (i : ℕ). packets_of (F.timed.len i)) has.0 (x ∷ has.1) in
        (moved n (timing_of F.timed (paced_all F.timed frame.place has.0) x), plays_in n j frame has.0 x has.1 here, refl, omega arith));
  }

  -- ---- a sub-table, in each so many leads

  module _ (before : List (List ℕ)) (table : List ℕ) (after : List (List ℕ)) (are : groups ≡ before ++ table ∷ after) where
    abbrev pub Turns : ℕ → Type 0
    Turns k = (y : ℕ) × (in_turn table (turn_of often (length before) (k % round) (length table)) ≡ Some y)

    lead_of_turn : (k : ℕ) → F.lead k ≡ lead_from often (k % round) 0 (before ++ table ∷ after)
    lead_of_turn k =
        lead_is groups (k % round) (subst (λ (m : ℕ). k % round < m) (leads_length groups) (mod_below k round some_round)) ∙ ap (lead_from often (k % round) 0) are

    -- a round has whole turns
    turns_in_round : (k : ℕ) → k % round % often ≡ k % often
    turns_in_round k = mod-mod_of_dvd often k (subst (λ (m : ℕ). often ∣ m) (sym (leads_length groups)) (dvd-mul_left often ((most_sections groups + often - 1) / often)))

    turns_on : (k x : ℕ) → Contains table x → Contains (F.lead k) x → Turns (k + often)
    turns_on k x has stands =
        let apart = subst (AreGroups (table_at ss)) are (are_groups (table_at ss) (fast_of p)) in
        let turn = has_turn (table_at ss) often (k % round) before table after x apart has (subst (λ (l : List ℕ). Contains l x) (lead_of_turn k) stands) in
        let same : (k + often) % round % often ≡ k % round % often = turns_in_round (k + often) ∙ add-mod_right k often ∙ sym (turns_in_round k) in
        turn_again table often (length before) (k % round) ((k + often) % round) same (some_of table x has) turn
      where
        some_of : (xs : List ℕ) (x : ℕ) → Contains xs x → 0 < length xs
        some_of xs x has = let l = has.1 in omega arith

    -- the packets of what is sent before it
    module _ (ahead : ℕ) (few : (i : ℕ) → i < round → lead_packets ss (lead_from often i 0 before) ≤ ahead) where
      pub table_plays : (n j many last : ℕ) (frame : Frame) → j ≡ many * round → ((x : ℕ) → Contains table x → x < p.fasts) → InTime frame → IsSlow frame
          → Plays (Contains table) Turns step often (1 + gap + ahead) last (beat n j frame)
      table_plays n j many last frame is low times slow = record {
        least = λ front behind one e has. (
            let i = in_lead n frame front behind one slow (low one.section has) e in
            let l = (times i.front one.section i.rest i.are).least in
            let f = i.first in
            omega arith);
        again = λ front behind one e has. (
            let i = in_lead n frame front behind one slow (low one.section has) e in
            let stands : Contains (F.lead (j + frame.number)) one.section =
            subst (λ (l : List ℕ). Contains l one.section) (sym (lead_moved j many frame.number is ∙ i.are)) (Contains-append_right i.front (one.section ∷ i.rest) one.section (front_of one.section i.rest)) in
            turns_on (j + frame.number) one.section has stands);
        turn_plays = λ has. (
            let k = j + frame.number in
            let i = k % round in
            let front = lead_from often i 0 before in
            let rest = lead_from often i (suc (length before)) after in
            let here : F.lead frame.number ≡ front ++ has.0 ∷ rest = sym (lead_moved j many frame.number is) ∙ lead_of_turn k ∙ turn_split often i before table after (Some has.0) has.1 in
            let l = (times front has.0 rest here).most in
            let m = few i (mod_below k round some_round) in (
              moved n (timing_of F.timed (paced_all F.timed frame.place front) has.0),
              plays_in n j frame front has.0 rest here,
              turn_in (Contains table) table (turn_of often (length before) i (length table)) has.0 (elements table) has.1,
              omega arith,
            ));
      }
