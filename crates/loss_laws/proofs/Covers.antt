-- The parts between breaks, as runs of packets that all came.
use Rattle.std.proofs.Common.{◌≡◌, ◌≢◌, ℕ, zero, suc, ◌+◌, ◌-◌, ◌%◌, ◌<◌, ◌≤◌, ◌⊎◌, inl, inr, List, [], ◌∷◌, ◌++◌, Bool, true, false, Some, length, map, refl, sym, ap, ap₂, ◌∙◌, subst, arith, append_assoc, length-append, eq-eqb, ne_eqb}
use Rattle.std.specs.Prelude.{if◌then◌else◌, not, ◌&&◌, bytes_eq}
use Rattle.std.specs.List.{AllByRecursion}
use Rattle.si_lists.proofs.Parts.{lt_or}
use Rattle.ts_packets.specs.Counting.{Load, Count}
use Rattle.ts_demux.specs.Arrivals.{Arrival}
use Rattle.ts_demux.specs.Keeping.{seen}
use Rattle.ts_demux.specs.Steps.{is_again}
use Rattle.ts_demux.specs.Breaks.{Before.Never, Before.Had, is_break, onto_first, parts}
use Rattle.ts_demux.proofs.Splitting.{first_part, later_parts, onto_first-is}
use Rattle.loss_laws.proofs.Lanes.{Slot, Lane, loads, kept, AllCame, Few, came_at, came_at-front, came_at-behind}

abbrev pub arrived : Lane → List Arrival
arrived slots = map (λ (s : Slot). Arrival.Came s.load) slots

-- what of a lane came
abbrev pub came_in : Lane → List Arrival
came_in slots = map Arrival.Came (kept slots)

abbrev AllMissed : Lane → Type 0
AllMissed slots = AllByRecursion (λ (s : Slot). s.came ≡ false) slots

abbrev StartsMissed : Lane → Type 0
StartsMissed [] = Unit {0}
StartsMissed (s ∷ ss) = s.came ≡ false

-- Parts cover a lane: each is a run of slots that came, up to one that did not, and what lies between did not come.
abbrev pub Covers : Lane → List (List Arrival) → Type 0
Covers slots [] = AllMissed slots
Covers slots (part ∷ ps) =
    (gap here rest : Lane) × (slots ≡ gap ++ (here ++ rest)) × AllMissed gap × AllCame here × (part ≡ arrived here) × StartsMissed rest × Covers rest ps

-- one more that did not come
missed_first : (s : Slot) (slots : Lane) (ps : List (List Arrival)) → s.came ≡ false → Covers slots ps → Covers (s ∷ slots) ps
missed_first s slots [] e h = (e, h)
missed_first s slots (part ∷ ps) e (gap, here, rest, cut, missed, came, is, starts, more) =
    (s ∷ gap, here, rest, ap (λ (l : Lane). s ∷ l) cut, (e, missed), came, is, starts, more)

-- ---- behind a load that came

-- the first part goes on with the slots, and the others cover the rest
record GoesOn (slots : Lane) (first : List Arrival) (later : List (List Arrival)) : Type 0 where
  here : Lane
  rest : Lane
  cut : slots ≡ here ++ rest
  came : AllCame here
  is : first ≡ arrived here
  starts : StartsMissed rest
  more : Covers rest later

-- With n missing since the load.
record Behind (n : ℕ) (slots : Lane) (first : List Arrival) (later : List (List Arrival)) : Type 0 where
  none : n ≡ 0 → GoesOn slots first later
  some : n ≢ 0 → (first ≡ []) × Covers slots later

-- between two that came at most 14 are missing, n being missing already
abbrev FewFrom : ℕ → Lane → Type 0
FewFrom n [] = Unit {0}
FewFrom n (s ∷ ss) = (s.came ≡ true → (n ≤ 14) × FewFrom 0 ss) × (s.came ≡ false → FewFrom (1 + n) ss)

abbrev FewBehind : Lane → Type 0
FewBehind [] = Unit {0}
FewBehind (s ∷ ss) = (s.came ≡ true → FewFrom 0 ss) × (s.came ≡ false → FewBehind ss)

kept-append : (xs ys : Lane) → kept (xs ++ ys) ≡ kept xs ++ kept ys
kept-append [] ys = refl
kept-append (x ∷ xs) ys = go x.came (kept-append xs ys)
  where
    go : (b : Bool) → kept (xs ++ ys) ≡ kept xs ++ kept ys → (if b then x.load ∷ kept (xs ++ ys) else kept (xs ++ ys)) ≡ (if b then x.load ∷ kept xs else kept xs) ++ kept ys
    go true e = ap (λ (l : List Load). x.load ∷ l) e
    go false e = e

kept-missed : (s : Slot) → s.came ≡ false → kept (s ∷ []) ≡ []
kept-missed s e = ap (λ (b : Bool). if b then s.load ∷ [] else []) e

few_from : (front : Lane) (s : Slot) (between slots : Lane) → Few (front ++ s ∷ (between ++ slots)) → s.came ≡ true → kept between ≡ [] → FewFrom (length between) slots
few_from front s between [] few a none = tt
few_from front s between (t ∷ slots) few a none = (
  λ e. (
    few front between slots s t refl a e none,
    few_from (front ++ s ∷ between) t [] slots (subst Few (sym (append_assoc front (s ∷ between) (t ∷ slots))) few) e refl,
  ),
  λ e. subst (λ (n : ℕ). FewFrom n slots) (let up : length (between ++ t ∷ []) ≡ 1 + length between = omega (arith, length-append between (t ∷ [])) in up)
      (few_from front s (between ++ t ∷ []) slots (subst (λ (l : Lane). Few (front ++ s ∷ l)) (sym (append_assoc between (t ∷ []) slots)) few) a
      (kept-append between (t ∷ []) ∙ ap₂ (λ (l m : List Load). l ++ m) none (kept-missed t e))),
)

few_behind : (front slots : Lane) → Few (front ++ slots) → FewBehind slots
few_behind front [] few = tt
few_behind front (s ∷ slots) few = (
  λ e. few_from front s [] slots few e refl,
  λ e. few_behind (front ++ s ∷ []) slots (subst Few (sym (append_assoc front (s ∷ []) slots)) few),
)

-- a load with none missing follows, and one behind some that are missing is a break
next_counter : (k m c : ℕ) → k ≡ c % 16 → m ≡ (1 + c) % 16 → m ≡ (k + 1) % 16
next_counter k m c e f = grind arith

no_next : (k m c n : ℕ) → k ≡ c % 16 → m ≡ (1 + c + suc n) % 16 → suc n ≤ 14 → m ≢ (k + 1) % 16
no_next k m c n e f le g = omega (arith, e, f, le, g)

no_again : (k m c n : ℕ) → k ≡ c % 16 → m ≡ (1 + c + suc n) % 16 → suc n ≤ 14 → k ≢ m
no_again k m c n e f le g = omega (arith, e, f, le, g)

pub follows : (k m : Load) (c : ℕ) → k.counter ≡ c % 16 → m.counter ≡ (1 + c) % 16 → is_break (Had (seen k)) (Arrival.Came m) ≡ false
follows k m c e f =
    ap (λ (b : Bool). not b && not (is_again (Some (seen k)) m)) (eq-eqb m.counter ((k.counter + 1) % 16) (next_counter k.counter m.counter c e f))

broken : (k m : Load) (c n : ℕ) → k.counter ≡ c % 16 → m.counter ≡ (1 + c + suc n) % 16 → suc n ≤ 14 → is_break (Had (seen k)) (Arrival.Came m) ≡ true
broken k m c n e f le =
    ap₂ (λ (a b : Bool). not a && not (b && bytes_eq k.piece.payload m.piece.payload))
    (ne_eqb m.counter ((k.counter + 1) % 16) (no_next k.counter m.counter c n e f le)) (ne_eqb k.counter m.counter (no_again k.counter m.counter c n e f le))

came_first : (s : Slot) (slots : Lane) → s.came ≡ true → came_in (s ∷ slots) ≡ Arrival.Came s.load ∷ came_in slots
came_first s slots e = ap (λ (b : Bool). map Arrival.Came (if b then s.load ∷ kept slots else kept slots)) e

came_not : (s : Slot) (slots : Lane) → s.came ≡ false → came_in (s ∷ slots) ≡ came_in slots
came_not s slots e = ap (λ (b : Bool). map Arrival.Came (if b then s.load ∷ kept slots else kept slots)) e

abbrev BehindOf : ℕ → Lane → List (List Arrival) → Type 0
BehindOf n slots ps = Behind n slots (first_part ps) (later_parts ps)

-- with none missing
on_with : (s : Slot) (rest : Lane) (first : List Arrival) (later : List (List Arrival)) → s.came ≡ true → GoesOn rest first later → GoesOn (s ∷ rest) (Arrival.Came s.load ∷ first) later
on_with s rest first later e h = record {
  here = s ∷ h.here;
  rest = h.rest;
  cut = ap (λ (l : Lane). s ∷ l) h.cut;
  came = (e, h.came);
  is = ap (λ (l : List Arrival). Arrival.Came s.load ∷ l) h.is;
  starts = h.starts;
  more = h.more;
}

-- a new part
begins_with : (s : Slot) (rest : Lane) (first : List Arrival) (later : List (List Arrival)) → s.came ≡ true → GoesOn rest first later → Covers (s ∷ rest) ((Arrival.Came s.load ∷ first) ∷ later)
begins_with s rest first later e h = (
  [],
  s ∷ h.here,
  h.rest,
  ap (λ (l : Lane). s ∷ l) h.cut,
  tt,
  (e, h.came),
  ap (λ (l : List Arrival). Arrival.Came s.load ∷ l) h.is,
  h.starts,
  h.more,
)

zero_or : (n : ℕ) → (n ≡ 0) ⊎ ((m : ℕ) × (n ≡ suc m))
zero_or zero = inl refl
zero_or (suc n) = inr (n, refl)

one_came : (n c : ℕ) (k : Load) (s : Slot) (rest : Lane) → k.counter ≡ c % 16 → s.load.counter ≡ (1 + c + n) % 16 → s.came ≡ true → n ≤ 14
    → (ps : List (List Arrival)) → GoesOn rest (first_part ps) (later_parts ps)
    → BehindOf n (s ∷ rest) (if is_break (Had (seen k)) (Arrival.Came s.load) then [] ∷ onto_first (Arrival.Came s.load) ps else onto_first (Arrival.Came s.load) ps)
one_came n c k s rest at counter came most ps on = go (zero_or n)
  where
    x : Arrival
    x = Arrival.Came s.load

    whole : Bool → List (List Arrival)
    whole b = if b then [] ∷ onto_first x ps else onto_first x ps

    go : (n ≡ 0) ⊎ ((m : ℕ) × (n ≡ suc m)) → BehindOf n (s ∷ rest) (if is_break (Had (seen k)) (Arrival.Came s.load) then [] ∷ onto_first (Arrival.Came s.load) ps else onto_first (Arrival.Came s.load) ps)
    go (inl none) =
        let next : s.load.counter ≡ (1 + c) % 16 = counter ∙ ap (λ (i : ℕ). i % 16) (let z : 1 + c + n ≡ 1 + c = omega (arith, none) in z) in
        subst (λ (b : Bool). BehindOf n (s ∷ rest) (if b then [] ∷ onto_first (Arrival.Came s.load) ps else onto_first (Arrival.Came s.load) ps)) (sym (follows k s.load c at next))
        (subst (BehindOf n (s ∷ rest)) (sym (onto_first-is (Arrival.Came s.load) ps))
        (record { none = λ e. on_with s rest (first_part ps) (later_parts ps) came on; some = λ ne. absurd (ne none) }))
    go (inr (m, e)) =
        let there : s.load.counter ≡ (1 + c + suc m) % 16 = counter ∙ ap (λ (i : ℕ). (1 + c + i) % 16) e in
        let few : suc m ≤ 14 = subst (λ (i : ℕ). i ≤ 14) e most in
        subst (λ (b : Bool). BehindOf n (s ∷ rest) (if b then [] ∷ onto_first (Arrival.Came s.load) ps else onto_first (Arrival.Came s.load) ps)) (sym (broken k s.load c m at there few))
        (subst (λ (l : List (List Arrival)). BehindOf n (s ∷ rest) ([] ∷ l)) (sym (onto_first-is (Arrival.Came s.load) ps))
        (record {
          none = λ z. absurd (let bad : Prim.⊥ = omega (arith, z, e) in bad);
          some = λ ne. (refl, begins_with s rest (first_part ps) (later_parts ps) came on);
        }))

-- the parts behind a load whose counter is c modulo 16, of slots of which n are missing already
parts_behind : (slots : Lane) (n c : ℕ) (k : Load) → k.counter ≡ c % 16 → Count (1 + c + n) (loads slots) → FewFrom n slots → BehindOf n slots (parts (Had (seen k)) (came_in slots))
parts_behind [] n c k at counts few = record {
  none = λ e. record { here = []; rest = []; cut = refl; came = tt; is = refl; starts = tt; more = tt };
  some = λ e. (refl, tt);
}
parts_behind (s ∷ rest) n c k at counts few =
    go s.came refl
    (λ e. parts_behind rest (1 + n) c k at (subst (λ (i : ℕ). Count i (loads rest)) (let z : 1 + (1 + c + n) ≡ 1 + c + (1 + n) = omega arith in z) counts.1) (few.1 e))
    (λ e. parts_behind rest 0 (1 + c + n) s.load counts.0 (subst (λ (i : ℕ). Count i (loads rest)) (let z : 1 + (1 + c + n) ≡ 1 + (1 + c + n) + 0 = omega arith in z) counts.1) (few.0 e).1)
  where
    go : (b : Bool) → s.came ≡ b → (s.came ≡ false → BehindOf (1 + n) rest (parts (Had (seen k)) (came_in rest))) → (s.came ≡ true → BehindOf 0 rest (parts (Had (seen s.load)) (came_in rest)))
        → BehindOf n (s ∷ rest) (parts (Had (seen k)) (came_in (s ∷ rest)))
    go false e missed came =
        let r = (missed e).some (λ z. let bad : Prim.⊥ = omega (arith, z) in bad) in
        let ps : List (List Arrival) = parts (Had (seen k)) (came_in rest) in
        subst (λ (l : List Arrival). BehindOf n (s ∷ rest) (parts (Had (seen k)) l)) (sym (came_not s rest e))
        (record {
          none = λ z. record { here = []; rest = s ∷ rest; cut = refl; came = tt; is = r.0; starts = e; more = missed_first s rest (later_parts ps) e r.1 };
          some = λ z. (r.0, missed_first s rest (later_parts ps) e r.1);
        })
    go true e missed came =
        subst (λ (l : List Arrival). BehindOf n (s ∷ rest) (parts (Had (seen k)) l)) (sym (came_first s rest e))
        (one_came n c k s rest at counts.0 e (few.0 e).0 (parts (Had (seen s.load)) (came_in rest)) ((came e).none refl))

-- ---- from the first

covers_from : (slots : Lane) (n : ℕ) → Count n (loads slots) → FewBehind slots → Covers slots (parts Never (came_in slots))
covers_from [] n counts few = ([], [], [], refl, tt, tt, refl, tt, tt)
covers_from (s ∷ rest) n counts few = go s.came refl (λ e. covers_from rest (1 + n) counts.1 (few.1 e))
  where
    go : (b : Bool) → s.came ≡ b → (s.came ≡ false → Covers rest (parts Never (came_in rest))) → Covers (s ∷ rest) (parts Never (came_in (s ∷ rest)))
    go false e missed =
        subst (λ (l : List Arrival). Covers (s ∷ rest) (parts Never l)) (sym (came_not s rest e)) (missed_first s rest (parts Never (came_in rest)) e (missed e))
    go true e missed =
        let ps : List (List Arrival) = parts (Had (seen s.load)) (came_in rest) in
        let on = parts_behind rest 0 n s.load counts.0 (subst (λ (i : ℕ). Count i (loads rest)) (let z : 1 + n ≡ 1 + n + 0 = omega arith in z) counts.1) (few.0 e) in
        subst (λ (l : List Arrival). Covers (s ∷ rest) (parts Never l)) (sym (came_first s rest e))
        (subst (Covers (s ∷ rest)) (sym (onto_first-is (Arrival.Came s.load) ps)) (begins_with s rest (first_part ps) (later_parts ps) e (on.none refl)))

pub covers : (slots : Lane) (n : ℕ) → Count n (loads slots) → Few slots → Covers slots (parts Never (came_in slots))
covers slots n counts few = covers_from slots n counts (few_behind [] slots few)

-- ---- runs

-- A part is a run of slots that all came, from the place low on or later.
pub record IsRunOf (all : Lane) (low : ℕ) (part : List Arrival) : Type 0 where
  pub before : Lane
  pub here : Lane
  pub after : Lane
  pub cut : all ≡ before ++ (here ++ after)
  pub came : AllCame here
  pub is : part ≡ arrived here
  pub late : low ≤ length before

pub cover_runs : (all : Lane) (low : ℕ) (before slots : Lane) (ps : List (List Arrival)) → all ≡ before ++ slots → low ≤ length before → Covers slots ps
    → AllByRecursion (IsRunOf all low) ps
cover_runs all low before slots [] e le h = tt
cover_runs all low before slots (part ∷ ps) e le (gap, here, rest, cut, missed, came, is, starts, more) =
    let front : Lane = before ++ gap in
    let whole : all ≡ front ++ (here ++ rest) = e ∙ ap (λ (l : Lane). before ++ l) cut ∙ sym (append_assoc before gap (here ++ rest)) in
    let up : low ≤ length front = omega (arith, le, length-append before gap) in
    let further : low ≤ length (front ++ here) = omega (arith, up, length-append front here) in (
      record { before = front; here = here; after = rest; cut = whole; came = came; is = is; late = up },
      cover_runs all low (front ++ here) rest ps (whole ∙ sym (append_assoc front here rest)) further more,
    )

-- ---- the part of places that all came

pub record Found (all : Lane) (ps : List (List Arrival)) (low high : ℕ) : Type 0 where
  pub earlier : List (List Arrival)
  pub part : List Arrival
  pub later : List (List Arrival)
  pub parts_are : ps ≡ earlier ++ part ∷ later
  pub before : Lane
  pub here : Lane
  pub after : Lane
  pub cut : all ≡ before ++ (here ++ after)
  pub came : AllCame here
  pub is : part ≡ arrived here
  pub from : length before ≤ low
  pub up_to : high ≤ length before + length here
  pub more : Covers after later

missed_at : (n : ℕ) (xs : Lane) → AllMissed xs → came_at n xs ≡ false
missed_at n [] all = refl
missed_at zero (x ∷ xs) all = all.0
missed_at (suc n) (x ∷ xs) all = missed_at n xs all.1

missed_start : (xs : Lane) → StartsMissed xs → came_at 0 xs ≡ false
missed_start [] h = refl
missed_start (x ∷ xs) h = h

never_both : (b : Bool) → b ≡ true → b ≡ false → Prim.⊥
never_both true e f = cc
never_both false e f = cc

-- the whole lane is what was passed and these slots
pub find : (all passed slots : Lane) (ps : List (List Arrival)) (low high : ℕ) → all ≡ passed ++ slots → Covers slots ps → length passed ≤ low → low < high
    → ((i : ℕ) → low ≤ i → i < high → came_at i all ≡ true) → Found all ps low high
find all passed slots [] low high e missed under lt came =
    let j : ℕ = low - length passed in
    let place : low ≡ length passed + j = omega (arith, under) in
    absurd (never_both (came_at low all) (came low (let le : low ≤ low = omega arith in le) lt)
    (ap₂ came_at place e ∙ came_at-behind j passed slots ∙ missed_at j slots missed))
find all passed slots (part ∷ ps) low high e (gap, here, rest, cut, missed, came_here, is, starts, more) under lt came =
    choose (lt_or low (length front)) (lt_or low (length front + length here)) (lt_or (length front + length here) high)
    (λ le. find all (front ++ here) rest ps low high (whole ∙ sym (append_assoc front here rest)) more (let z : length (front ++ here) ≤ low = omega (arith, le, length-append front here) in z) lt came)
  where
    front : Lane
    front = passed ++ gap

    whole : all ≡ front ++ (here ++ rest)
    whole = e ∙ ap (λ (l : Lane). passed ++ l) cut ∙ sym (append_assoc passed gap (here ++ rest))

    in_gap : low < length front → came_at low all ≡ false
    in_gap less =
        let j : ℕ = low - length passed in
        let place : low ≡ length passed + j = omega (arith, under) in
        let short : j < length gap = omega (arith, less, under, length-append passed gap) in
        ap₂ came_at place (e ∙ ap (λ (l : Lane). passed ++ l) cut) ∙ came_at-behind j passed (gap ++ (here ++ rest)) ∙ came_at-front j gap (here ++ rest) short ∙ missed_at j gap missed

    behind_here : came_at (length front + length here) all ≡ false
    behind_here =
        ap₂ came_at (let z : length front + length here ≡ length (front ++ here) + 0 = omega (arith, length-append front here) in z) (whole ∙ sym (append_assoc front here rest))
        ∙ came_at-behind 0 (front ++ here) rest ∙ missed_start rest starts

    choose : (low < length front) ⊎ (length front ≤ low) → (low < length front + length here) ⊎ (length front + length here ≤ low) → (length front + length here < high) ⊎ (high ≤ length front + length here)
        → (length front + length here ≤ low → Found all ps low high) → Found all (part ∷ ps) low high
    choose (inl less) b c rec = absurd (never_both (came_at low all) (came low (let le : low ≤ low = omega arith in le) lt) (in_gap less))
    choose (inr le) (inl less) (inl short) rec =
        absurd (never_both (came_at (length front + length here) all) (came (length front + length here) (let z : low ≤ length front + length here = omega (arith, less) in z) short) behind_here)
    choose (inr le) (inl less) (inr enough) rec = record {
      earlier = [];
      part = part;
      later = ps;
      parts_are = refl;
      before = front;
      here = here;
      after = rest;
      cut = whole;
      came = came_here;
      is = is;
      from = le;
      up_to = enough;
      more = more;
    }
    choose (inr le) (inr past) c rec =
        let r = rec past in
        record {
          earlier = part ∷ r.earlier;
          part = r.part;
          later = r.later;
          parts_are = ap (λ (l : List (List Arrival)). part ∷ l) r.parts_are;
          before = r.before;
          here = r.here;
          after = r.after;
          cut = r.cut;
          came = r.came;
          is = r.is;
          from = r.from;
          up_to = r.up_to;
          more = r.more;
        }
