-- The packets of one PID, with whether they came.
use Rattle.std.proofs.Common.{◌≡◌, ◌≢◌, ℕ, zero, suc, ◌+◌, ◌-◌, ◌<◌, ◌≤◌, List, [], ◌∷◌, ◌++◌, Bool, true, false, ◌==◌, Option, Some, None, length, map, take, drop, refl, sym, ap, ap₂, ◌∙◌, subst, arith, eqb-true}
use Rattle.std.specs.Prelude.{if◌then◌else◌, filter_map, option_map, slice_range}
use Rattle.std.specs.List.{AllByRecursion, cons_option}
use Rattle.std.proofs.lemmas.List.{take-map, drop_at, take-append-drop, length-map}
use Rattle.std.proofs.lemmas.List.Elements.{filter_map-append}
use Rattle.std.proofs.lemmas.List.Folds.{drop_split}
use Rattle.std.proofs.lemmas.List.Concat.{flat_map-append}
use Rattle.std.proofs.Math.Seq.{take-append_seam}
use Rattle.ts_packets.specs.Packets.{Piece}
use Rattle.ts_packets.specs.Bytes.{Packet, HasFields, bytes_of_packet}
use Rattle.ts_packets.specs.Counting.{Load, load_on, loads_on, of_pid}
use Rattle.ts_packets.proofs.Headers.{reads-written, pid_in-bytes}
use Rattle.ts_demux.specs.Arrivals.{Arrival, arrival_by, arrival_on, arrivals_on}
use Rattle.ts_demux.proofs.Adding.{elsewhere}
use Rattle.ts_demux.proofs.Written.{pieces_of_loads}
use Rattle.air_model.specs.Air.{Aired, air}
use Rattle.air_laws.proofs.Coherent.{part-map}
use Rattle.loss_laws.specs.Thinned.{Fate, sent_of, came_of, left, FewAreMissing, fates_at, SomeCame, DidCome}

-- the load of a packet, and whether it came
pub record Slot : Type 0 where
  pub load : Load
  pub came : Bool

abbrev pub Lane : Type 0
Lane = List Slot

abbrev pub slot_of : Bool → Load → Slot
slot_of came l = record { load = l; came = came }

abbrev pub slot_on : ℕ → Fate → Option Slot
slot_on pid f = option_map (slot_of f.came) (load_on pid f.packet)

abbrev pub lane : ℕ → List Fate → Lane
lane pid fates = filter_map (slot_on pid) fates

abbrev pub loads : Lane → List Load
loads slots = map (λ (s : Slot). s.load) slots

abbrev pub kept : Lane → List Load
kept [] = []
kept (s ∷ ss) = if s.came then s.load ∷ kept ss else kept ss

abbrev pub SlotCame : Slot → Type 0
SlotCame s = s.came ≡ true

abbrev pub AllCame : Lane → Type 0
AllCame slots = AllByRecursion SlotCame slots

-- ---- what a lane is

pub loads-lane : (pid : ℕ) (fates : List Fate) → loads (lane pid fates) ≡ loads_on pid (sent_of fates)
loads-lane pid [] = refl
loads-lane pid (f ∷ fs) = go (load_on pid f.packet) (loads-lane pid fs)
  where
    go : (o : Option Load) → loads (lane pid fs) ≡ loads_on pid (sent_of fs) → loads (cons_option (option_map (slot_of f.came) o) (lane pid fs)) ≡ cons_option o (loads_on pid (sent_of fs))
    go None e = e
    go (Some l) e = ap (λ (ls : List Load). l ∷ ls) e

pub kept-lane : (pid : ℕ) (fates : List Fate) → kept (lane pid fates) ≡ loads_on pid (came_of fates)
kept-lane pid [] = refl
kept-lane pid (f ∷ fs) = go f.came (load_on pid f.packet) refl (kept-lane pid fs)
  where
    go : (b : Bool) (o : Option Load) → load_on pid f.packet ≡ o → kept (lane pid fs) ≡ loads_on pid (came_of fs)
        → kept (cons_option (option_map (slot_of b) o) (lane pid fs)) ≡ loads_on pid (cons_option (if b then Some f.packet else None) (came_of fs))
    go true None e h = h ∙ ap (λ (p : Option Load). cons_option p (loads_on pid (came_of fs))) (sym e)
    go true (Some l) e h = ap (λ (ls : List Load). l ∷ ls) h ∙ ap (λ (p : Option Load). cons_option p (loads_on pid (came_of fs))) (sym e)
    go false None e h = h
    go false (Some l) e h = h

pub length-lane : (pid : ℕ) (fates : List Fate) → length (lane pid fates) ≡ length (of_pid pid (sent_of fates))
length-lane pid fates =
    sym (length-map (lane pid fates) (λ (s : Slot). s.load)) ∙ ap length (loads-lane pid fates)
    ∙ sym (length-map (loads_on pid (sent_of fates)) (λ (l : Load). l.piece)) ∙ ap length (pieces_of_loads pid (sent_of fates))

-- ---- packets that came

pub came-fields : (fates : List Fate) → AllByRecursion HasFields (sent_of fates) → AllByRecursion HasFields (came_of fates)
came-fields [] h = tt
came-fields (f ∷ fs) h = go f.came (came-fields fs h.1)
  where
    go : (b : Bool) → AllByRecursion HasFields (came_of fs) → AllByRecursion HasFields (cons_option (if b then Some f.packet else None) (came_of fs))
    go true rest = (h.0, rest)
    go false rest = rest

-- ---- at most 14 of a PID are missing

record CutAt (pid : ℕ) (fates : List Fate) (front : Lane) (s : Slot) (back : Lane) : Type 0 where
  before : List Fate
  fate : Fate
  after : List Fate
  whole : fates ≡ before ++ fate ∷ after
  is : slot_on pid fate ≡ Some s
  fronts : lane pid before ≡ front
  backs : lane pid after ≡ back

cut_at : (pid : ℕ) (fates : List Fate) (front : Lane) (s : Slot) (back : Lane) → lane pid fates ≡ front ++ s ∷ back → CutAt pid fates front s back
cut_at pid [] front s back e = absurd (none front e)
  where
    none : (front : Lane) → [] ≡ front ++ s ∷ back → Prim.⊥
    none [] e = cc
    none (x ∷ front) e = cc
cut_at pid (f ∷ fs) front s back e = go (slot_on pid f) refl front e (λ xs g. cut_at pid fs xs s back g)
  where
    go : (o : Option Slot) → slot_on pid f ≡ o → (front : Lane) → cons_option o (lane pid fs) ≡ front ++ s ∷ back
        → ((xs : Lane) → lane pid fs ≡ xs ++ s ∷ back → CutAt pid fs xs s back) → CutAt pid (f ∷ fs) front s back
    go None g front e rec =
        let r = rec front e in
        record {
          before = f ∷ r.before;
          fate = r.fate;
          after = r.after;
          whole = ap (λ (l : List Fate). f ∷ l) r.whole;
          is = r.is;
          fronts = ap (λ (o : Option Slot). cons_option o (lane pid r.before)) g ∙ r.fronts;
          backs = r.backs;
        }
    go (Some t) g [] e rec =
        let same : t ≡ s = cc in
        let rest : lane pid fs ≡ back = cc in
        record { before = []; fate = f; after = fs; whole = refl; is = g ∙ ap (λ (x : Slot). Some x) same; fronts = refl; backs = rest }
    go (Some t) g (x ∷ front) e rec =
        let same : t ≡ x = cc in
        let rest : lane pid fs ≡ front ++ s ∷ back = cc in
        let r = rec front rest in
        record {
          before = f ∷ r.before;
          fate = r.fate;
          after = r.after;
          whole = ap (λ (l : List Fate). f ∷ l) r.whole;
          is = r.is;
          fronts = ap (λ (o : Option Slot). cons_option o (lane pid r.before)) g ∙ ap₂ (λ (y : Slot) (l : Lane). y ∷ l) same r.fronts;
          backs = r.backs;
        }

-- a slot that came is of a packet that came, of the PID
slot_left : (pid : ℕ) (f : Fate) (s : Slot) → slot_on pid f ≡ Some s → s.came ≡ true → (f ≡ left f.packet) × (f.packet.pid ≡ pid)
slot_left pid f s e came = go (f.packet.pid == pid) refl e
  where
    go : (b : Bool) → (f.packet.pid == pid) ≡ b
        → option_map (slot_of f.came) (if b then Some (record { counter = f.packet.counter; piece = f.packet.piece }) else None) ≡ Some s → (f ≡ left f.packet) × (f.packet.pid ≡ pid)
    go false g h = cc
    go true g h =
        let l : Load = record { counter = f.packet.counter; piece = f.packet.piece } in
        let same : slot_of f.came l ≡ s = cc in
        let here : f.came ≡ true = ap (λ (x : Slot). x.came) same ∙ came in
        (ap (λ (b : Bool). let x : Fate = record { packet = f.packet; came = b } in x) here, eqb-true f.packet.pid pid g)

abbrev pub Few : Lane → Type 0
Few all = (front between back : Lane) (s t : Slot) → all ≡ front ++ s ∷ (between ++ t ∷ back) → s.came ≡ true → t.came ≡ true → kept between ≡ [] → length between ≤ 14

pub few_in : (pid : ℕ) (fates : List Fate) → FewAreMissing fates → Few (lane pid fates)
few_in pid fates few front between back s t e a b none =
    let one = cut_at pid fates front s (between ++ t ∷ back) e in
    let two = cut_at pid one.after between t back one.backs in
    let first = slot_left pid one.fate s one.is a in
    let second = slot_left pid two.fate t two.is b in
    let p : Packet = one.fate.packet in
    let cut : fates ≡ one.before ++ left p ∷ (two.before ++ left two.fate.packet ∷ two.after) =
    one.whole ∙ ap (λ (l : List Fate). one.before ++ one.fate ∷ l) two.whole
    ∙ ap₂ (λ (f g : Fate). one.before ++ f ∷ (two.before ++ g ∷ two.after)) first.0 second.0 in
    let gone : of_pid p.pid (came_of two.before) ≡ [] =
    ap (λ (n : ℕ). of_pid n (came_of two.before)) first.1 ∙ sym (pieces_of_loads pid (came_of two.before))
    ∙ ap (map (λ (l : Load). l.piece)) (sym (kept-lane pid two.before) ∙ ap kept two.fronts ∙ none) in
    let most : length (of_pid p.pid (sent_of two.before)) ≤ 14 = few one.before two.before two.after p two.fate.packet cut (second.1 ∙ sym first.1) gone in
    let size : length between ≡ length (of_pid p.pid (sent_of two.before)) =
    ap length (sym two.fronts) ∙ length-lane pid two.before ∙ ap (λ (n : ℕ). length (of_pid n (sent_of two.before))) (sym first.1) in
    subst (λ (n : ℕ). n ≤ 14) (sym size) most

-- ---- by places

abbrev pub came_at : ℕ → Lane → Bool
came_at n [] = false
came_at zero (s ∷ ss) = s.came
came_at (suc n) (s ∷ ss) = came_at n ss

pub came_at-front : (n : ℕ) (xs ys : Lane) → n < length xs → came_at n (xs ++ ys) ≡ came_at n xs
came_at-front n [] ys lt = absurd (let z : Prim.⊥ = omega (arith, lt) in z)
came_at-front zero (x ∷ xs) ys lt = refl
came_at-front (suc n) (x ∷ xs) ys lt = came_at-front n xs ys (let less : n < length xs = omega (arith, lt) in less)

pub came_at-behind : (n : ℕ) (xs ys : Lane) → came_at (length xs + n) (xs ++ ys) ≡ came_at n ys
came_at-behind n [] ys = ap (λ (i : ℕ). came_at i ys) (let e : 0 + n ≡ n = omega arith in e)
came_at-behind n (x ∷ xs) ys =
    ap (λ (i : ℕ). came_at i (x ∷ (xs ++ ys))) (let e : suc (length xs) + n ≡ suc (length xs + n) = omega arith in e) ∙ came_at-behind n xs ys

pub came_at-all : (n : ℕ) (xs : Lane) → AllCame xs → n < length xs → came_at n xs ≡ true
came_at-all n [] all lt = absurd (let z : Prim.⊥ = omega (arith, lt) in z)
came_at-all zero (x ∷ xs) all lt = all.0
came_at-all (suc n) (x ∷ xs) all lt = came_at-all n xs all.1 (let less : n < length xs = omega (arith, lt) in less)

-- where one came, one is kept
pub came_at-kept : (n : ℕ) (xs : Lane) → came_at n xs ≡ true → kept xs ≢ []
came_at-kept n [] e f = (let z : Prim.⊥ = cc in z)
came_at-kept zero (x ∷ xs) e f = go x.came e f
  where
    go : (b : Bool) → b ≡ true → (if b then x.load ∷ kept xs else kept xs) ≡ [] → Prim.⊥
    go true e f = cc
    go false e f = cc
came_at-kept (suc n) (x ∷ xs) e f = go x.came (came_at-kept n xs e) f
  where
    go : (b : Bool) → kept xs ≢ [] → (if b then x.load ∷ kept xs else kept xs) ≡ [] → Prim.⊥
    go true some f = cc
    go false some f = some f

-- ---- the packets of a cycle

pub all_in_lane : (pid : ℕ) (fates : List Fate) → AllByRecursion DidCome fates → AllCame (lane pid fates)
all_in_lane pid [] all = tt
all_in_lane pid (f ∷ fs) all = go (load_on pid f.packet) (all_in_lane pid fs all.1)
  where
    go : (o : Option Load) → AllCame (lane pid fs) → AllCame (cons_option (option_map (slot_of f.came) o) (lane pid fs))
    go None rest = rest
    go (Some l) rest = (all.0, rest)

pub record AtCycle (pid : ℕ) (fates : List Fate) (before : List Aired) (x : Aired) : Type 0 where
  pub front : Lane
  pub back : Lane
  pub whole : lane pid fates ≡ front ++ (lane pid (fates_at fates before x) ++ back)
  pub start : length front ≡ length (of_pid pid (air before))
  pub size : length (lane pid (fates_at fates before x)) ≡ length (of_pid pid x.packets)

pub at_cycle : (pid : ℕ) (fates : List Fate) (before : List Aired) (x : Aired) (after : List Aired) → sent_of fates ≡ air (before ++ x ∷ after) → AtCycle pid fates before x
at_cycle pid fates before x after e =
    let n : ℕ = length (air before) in
    let m : ℕ = n + length x.packets in
    let one : List Fate = take n fates in
    let two : List Fate = fates_at fates before x in
    let three : List Fate = drop m fates in
    let parts : air (before ++ x ∷ after) ≡ air before ++ (x.packets ++ air after) = flat_map-append (λ (y : Aired). y.packets) before (x ∷ after) in
    let up : n ≤ m = omega arith in
    let cut : one ++ (two ++ three) ≡ fates = ap (λ (l : List Fate). one ++ l) (sym (drop_split fates n m up)) ∙ take-append-drop n fates in
    let first : sent_of one ≡ air before =
    sym (take-map (λ (f : Fate). f.packet) n fates) ∙ ap (take n) (e ∙ parts) ∙ take-append_seam (air before) (x.packets ++ air after) in
    let count : m - n ≡ length x.packets = omega arith in
    let second : sent_of two ≡ x.packets =
    sym (part-map (λ (f : Fate). f.packet) n m fates) ∙ ap (λ (l : List Packet). slice_range l n m) (e ∙ parts)
    ∙ ap (λ (l : List Packet). take (m - n) l) (drop_at (air before) (x.packets ++ air after) n refl)
    ∙ ap (λ (k : ℕ). take k (x.packets ++ air after)) count ∙ take-append_seam x.packets (air after) in
    record {
      front = lane pid one;
      back = lane pid three;
      whole = ap (lane pid) (sym cut) ∙ filter_map-append (slot_on pid) one (two ++ three) ∙ ap (λ (l : Lane). lane pid one ++ l) (filter_map-append (slot_on pid) two three);
      start = length-lane pid one ∙ ap (λ (l : List Packet). length (of_pid pid l)) first;
      size = length-lane pid two ∙ ap (λ (l : List Packet). length (of_pid pid l)) second;
    }

-- a slot of a cycle that came is of a packet of the cycle that came
pub some_came : (pid : ℕ) (fates : List Fate) (before : List Aired) (x : Aired) (after : List Aired) → sent_of fates ≡ air (before ++ x ∷ after)
    → (i : ℕ) → length (of_pid pid (air before)) ≤ i → i < length (of_pid pid (air before)) + length (of_pid pid x.packets) → came_at i (lane pid fates) ≡ true → SomeCame fates before x
some_came pid fates before x after e i low high came none =
    let c = at_cycle pid fates before x after e in
    let own : Lane = lane pid (fates_at fates before x) in
    let j : ℕ = i - length c.front in
    let place : i ≡ length c.front + j = omega (arith, c.start, low) in
    let less : j < length own = omega (arith, c.start, c.size, low, high) in
    let there : came_at j own ≡ true =
    sym (came_at-front j own c.back less) ∙ sym (came_at-behind j c.front (own ++ c.back)) ∙ ap₂ came_at (sym place) (sym c.whole) ∙ came in
    came_at-kept j own there (kept-lane pid (fates_at fates before x) ∙ ap (loads_on pid) none)

-- where all packets of a cycle came, all its slots did
pub all_came : (pid : ℕ) (fates : List Fate) (before : List Aired) (x : Aired) (after : List Aired) → sent_of fates ≡ air (before ++ x ∷ after) → AllByRecursion DidCome (fates_at fates before x)
    → (i : ℕ) → length (of_pid pid (air before)) ≤ i → i < length (of_pid pid (air before)) + length (of_pid pid x.packets) → came_at i (lane pid fates) ≡ true
all_came pid fates before x after e all i low high =
    let c = at_cycle pid fates before x after e in
    let own : Lane = lane pid (fates_at fates before x) in
    let j : ℕ = i - length c.front in
    let place : i ≡ length c.front + j = omega (arith, c.start, low) in
    let less : j < length own = omega (arith, c.start, c.size, low, high) in
    ap₂ came_at place c.whole ∙ came_at-behind j c.front (own ++ c.back) ∙ came_at-front j own c.back less
    ∙ came_at-all j own (all_in_lane pid (fates_at fates before x) all) less
