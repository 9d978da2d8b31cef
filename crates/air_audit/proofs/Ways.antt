-- Lanes, by their PIDs.
use Rattle.std.proofs.Common.{◌≡◌, ℕ, suc, ◌+◌, ◌-◌, ◌<◌, ◌≤◌, inl, inr, List, [], ◌∷◌, Bool, true, false, cond, length, get_or, set, refl, sym, ap, ap₂, ◌∙◌, subst, arith, take, drop, eq-eqb, ne_eqb, get_or-set_same, get_or-set_other}
use Rattle.std.specs.Prelude.{◌==◌, ◌&&◌, ◌↔◌, not, count_by, IsTrue, Result, Ok, Err, Some, None}
use Rattle.std.specs.List.{All}
use Rattle.std.proofs.lemmas.Bool.{cases_lt, cases_eq, eqb-true, and_parts}
use Rattle.std.proofs.lemmas.List.{get_or-map, map-set, length-map, length-set}
use Rattle.std.proofs.lemmas.List.Sums.{sum_by-set, sum_by-cons, get_or-le-sum_by}
use Rattle.std.proofs.lemmas.List.Elements.{All-set}
use Rattle.std.proofs.Math.ListN.{get_or-eq_default}
use Rattle.air_model.specs.declared.placed.Placed.{Placed}
use Rattle.ts_packets.specs.Packets.{Piece}
use Rattle.air_model.specs.declared.rule.Rule.{Rule}
use Rattle.air_audit.specs.declared.lanes.Lane.{Lane}
use Rattle.air_audit.specs.Fronts.{ToCome, nothing, to_come_on}
use Rattle.air_audit.specs.Telling.{is_none, told}
use Rattle.air_audit.specs.Checking.{is_nothing}
use Rattle.air_audit.specs.Progress.{rest_of, to_come_of, all_shown, is_busy, IsWithin, AreWithin, IsMoved, HasMoved}
use Rattle.air_audit.proofs.Moving.{length-rest}
use Rattle.air_audit.proofs.Nexts.{none_waiting}

pub no_lane : Lane
no_lane = record { pid = 0; at = 0; end = 0; next = 0 }

-- what is to come on a PID that has a lane, and on one that has none
pub lane_told : (bytes : List ℕ) (placed : List Placed) (lanes : List Lane) (pid : ℕ) (d : Lane) → pid < length lanes → to_come_on (all_shown bytes placed lanes) pid ≡ to_come_of bytes placed (get_or lanes pid d)
lane_told bytes placed lanes pid d lt = get_or-map (to_come_of bytes placed) lanes pid d nothing lt

pub none_told : (bytes : List ℕ) (placed : List Placed) (lanes : List Lane) (pid : ℕ) → length lanes ≤ pid → to_come_on (all_shown bytes placed lanes) pid ≡ nothing
none_told bytes placed lanes pid le = get_or-eq_default (all_shown bytes placed lanes) nothing (let size = length-map lanes (to_come_of bytes placed) in omega (arith, size, le))

-- ---- busy lanes

-- a lane with nothing to come is not busy
pub busy_is : (bytes : List ℕ) (placed : List Placed) (l : Lane) → IsWithin (length bytes) placed l → is_nothing (to_come_of bytes placed l) ≡ not (is_busy (length placed) l)
busy_is bytes placed l h =
    let rest : is_none (rest_of bytes l) ≡ (l.at == l.end) = elim (cases_eq l.at l.end) [
      | inl same ↦ ap (λ (k : ℕ). is_none (take k (drop l.at bytes))) (let e : l.end - l.at ≡ 0 = omega (arith, same) in e) ∙ sym (eq-eqb l.at l.end same)
      | inr apart ↦ some (rest_of bytes l) (let size = length-rest bytes placed l h in let le = h.order in omega (arith, size, le, apart)) ∙ sym (ne_eqb l.at l.end apart)
    ] in
    ap₂ (λ (x y : Bool). x && y) rest (sym (none_waiting (length bytes) bytes placed l h)) ∙ twice (l.at == l.end && l.next == length placed)
  where
    some : (xs : List ℕ) → 0 < length xs → is_none xs ≡ false
    some [] lt = absurd (omega arith)
    some (x ∷ xs) lt = refl

    twice : (b : Bool) → b ≡ not (not b)
    twice true = refl
    twice false = refl

pub is_nothing-is : (t : ToCome) → is_nothing t ≡ true → t ≡ nothing
is_nothing-is t h =
    let both = and_parts (is_none t.rest) (is_none t.waiting) h in
    ap₂ (λ (r : List ℕ) (w : List (List ℕ)). let x : ToCome = record { rest = r; waiting = w } in x) (none_is t.rest both.0) (none_is t.waiting both.1)
  where
    none_is : {X : Type 0} (xs : List X) → is_none xs ≡ true → xs ≡ []
    none_is [] e = refl
    none_is (x ∷ xs) e = cc

abbrev one_if : Bool → ℕ
one_if b = cond b 1 0

-- none of a list passes where the count is 0, and the other way round
count_none : {X : Type 0} (p : X → Bool) (xs : List X) → count_by p xs ≡ 0 → (i : ℕ) (d : X) → i < length xs → p (get_or xs i d) ≡ false
count_none p xs e i d lt = no (p (get_or xs i d)) (let le = get_or-le-sum_by (λ (x : _). cond (p x) 1 0) xs i d lt in omega (arith, le, e))
  where
    no : (b : Bool) → cond b 1 0 ≤ 0 → b ≡ false
    no true le = absurd (omega (arith, le))
    no false le = refl

none_count : {X : Type 0} (p : X → Bool) (xs : List X) (d : X) → ((i : ℕ) → i < length xs → p (get_or xs i d) ≡ false) → count_by p xs ≡ 0
none_count p [] d h = refl
none_count p (x ∷ xs) d h =
    let rest : count_by p xs ≡ 0 = none_count p xs d (λ i lt. h (suc i) (omega arith)) in
    let first : one_if (p x) ≡ 0 = ap one_if (h 0 (omega arith)) in
    sum_by-cons (λ (y : _). cond (p y) 1 0) x xs ∙ (let e : one_if (p x) + count_by p xs ≡ 0 = omega (arith, first, rest) in e)

-- no lane is busy exactly where nothing is to come
pub idle_is_end : (bytes : List ℕ) (placed : List Placed) (lanes : List Lane) (busy : ℕ) → All (IsWithin (length bytes) placed) lanes → busy ≡ count_by (is_busy (length placed)) lanes
    → IsTrue (busy == 0) ↔ ((pid : ℕ) → to_come_on (all_shown bytes placed lanes) pid ≡ nothing)
idle_is_end bytes placed lanes busy within count = (
  λ e pid. elim (cases_lt pid (length lanes)) [
    | inl lt ↦
        let l = get_or lanes pid no_lane in
        let idle = count_none (is_busy (length placed)) lanes (sym count ∙ eqb-true busy 0 e) pid no_lane lt in
        lane_told bytes placed lanes pid no_lane lt ∙ is_nothing-is (to_come_of bytes placed l) (busy_is bytes placed l (within pid no_lane lt) ∙ ap not idle)
    | inr le ↦ none_told bytes placed lanes pid le
  ],
  λ none. eq-eqb busy 0 (count ∙ none_count (is_busy (length placed)) lanes no_lane (λ i lt.
      let l = get_or lanes i no_lane in
      negated (is_busy (length placed) l) (sym (busy_is bytes placed l (within i no_lane lt)) ∙ ap is_nothing (sym (lane_told bytes placed lanes i no_lane lt) ∙ none i)))),
)
  where
    negated : (b : Bool) → not b ≡ true → b ≡ false
    negated true e = cc
    negated false e = refl

-- one lane of many changes
pub count_changed : (places : ℕ) (lanes : List Lane) (i : ℕ) (old new : Lane) → i < length lanes → old ≡ get_or lanes i old → is_busy places old ≡ true → (after : ℕ) → after + 1 ≡ count_by (is_busy places) lanes + cond (is_busy places new) 1 0
    → after ≡ count_by (is_busy places) (set lanes i new)
count_changed places lanes i old new lt is busy after e =
    let moved = sum_by-set (λ (l : Lane). cond (is_busy places l) 1 0) lanes i new old lt in
    let one : one_if (is_busy places (get_or lanes i old)) ≡ 1 = ap (λ (l : Lane). one_if (is_busy places l)) (sym is) ∙ ap one_if busy in
    omega (arith, moved, one, e)

-- a busy lane is counted
pub busy_some : (places : ℕ) (lanes : List Lane) (i : ℕ) (old : Lane) → i < length lanes → old ≡ get_or lanes i old → is_busy places old ≡ true → 0 < count_by (is_busy places) lanes
busy_some places lanes i old lt is busy = elim (cases_lt 0 (count_by (is_busy places) lanes)) [
  | inl some ↦ some
  | inr none ↦
      let e : count_by (is_busy places) lanes ≡ 0 = omega (arith, none) in
      let idle = ap (is_busy places) is ∙ count_none (is_busy places) lanes e i old lt in
      absurd (let f : true ≡ false = sym busy ∙ idle in let b : ⊥ = cc in b)
]

-- ---- one lane moves

one_moves : (bytes : List ℕ) (placed : List Placed) (lanes : List Lane) (pid : ℕ) (new : Lane) → pid < length lanes →
    (to_come_on (all_shown bytes placed (set lanes pid new)) pid ≡ to_come_of bytes placed new)
    × ((q : ℕ) → (pid ≡ q → ⊥) → to_come_on (all_shown bytes placed (set lanes pid new)) q ≡ to_come_on (all_shown bytes placed lanes) q)
one_moves bytes placed lanes pid new lt =
    let shown = map-set (to_come_of bytes placed) lanes pid new in
    let size = length-map lanes (to_come_of bytes placed) in (
      ap (λ (l : List ToCome). to_come_on l pid) shown ∙ get_or-set_same (all_shown bytes placed lanes) pid (to_come_of bytes placed new) nothing (omega (arith, size, lt)),
      λ q apart. ap (λ (l : List ToCome). to_come_on l q) shown ∙ get_or-set_other (all_shown bytes placed lanes) pid q (to_come_of bytes placed new) nothing (λ e. apart (sym e)),
    )

-- what is to come on the lane of a PID, as the code reads it
pub lane_read : (bytes : List ℕ) (placed : List Placed) (lanes : List Lane) (pid : ℕ) (old : Lane) (os : List ToCome) → all_shown bytes placed lanes ≡ os → pid < length lanes → old ≡ get_or lanes pid old → to_come_on os pid ≡ to_come_of bytes placed old
lane_read bytes placed lanes pid old os view lt is =
    ap (λ (l : List ToCome). to_come_on l pid) (sym view) ∙ lane_told bytes placed lanes pid old lt ∙ ap (to_come_of bytes placed) (sym is)

-- where something is to come, there is a lane
pub lane_there : (bytes : List ℕ) (placed : List Placed) (lanes : List Lane) (pid : ℕ) (os : List ToCome) → all_shown bytes placed lanes ≡ os → is_nothing (to_come_on os pid) ≡ false → pid < length lanes
lane_there bytes placed lanes pid os view some = elim (cases_lt pid (length lanes)) [
  | inl lt ↦ lt
  | inr le ↦
      let none : is_nothing (to_come_on os pid) ≡ true = ap (λ (l : List ToCome). is_nothing (to_come_on l pid)) (sym view) ∙ ap is_nothing (none_told bytes placed lanes pid le) in
      absurd (let f : true ≡ false = sym none ∙ some in let b : ⊥ = cc in b)
]

pub lane_moved : (bytes : List ℕ) (placed : List Placed) (lanes : List Lane) (pid : ℕ) (old new : Lane) (piece : Piece) (os : List ToCome) → all_shown bytes placed lanes ≡ os → pid < length lanes → old ≡ get_or lanes pid old
    → IsMoved bytes placed old (told (to_come_of bytes placed old) piece) (Ok new) → HasMoved (told (to_come_on os pid) piece) pid os (all_shown bytes placed (set lanes pid new)) None
lane_moved bytes placed lanes pid old new piece os view lt is h =
    subst (λ (t : ToCome). HasMoved (told t piece) pid os (all_shown bytes placed (set lanes pid new)) None) (sym (lane_read bytes placed lanes pid old os view lt is)) (go (told (to_come_of bytes placed old) piece) h)
  where
    go : (r : Result ToCome Rule) → IsMoved bytes placed old r (Ok new) → HasMoved r pid os (all_shown bytes placed (set lanes pid new)) None
    go (Ok t) h =
        let moves = one_moves bytes placed lanes pid new lt in
        (moves.0 ∙ h.1, λ q apart. moves.1 q apart ∙ ap (λ (l : List ToCome). to_come_on l q) view)
    go (Err rule) h = h

pub lane_stays : (bytes : List ℕ) (placed : List Placed) (lanes : List Lane) (pid : ℕ) (old : Lane) (rule : Rule) (piece : Piece) (os : List ToCome) → all_shown bytes placed lanes ≡ os → pid < length lanes → old ≡ get_or lanes pid old
    → IsMoved bytes placed old (told (to_come_of bytes placed old) piece) (Err rule) → HasMoved (told (to_come_on os pid) piece) pid os os (Some rule)
lane_stays bytes placed lanes pid old rule piece os view lt is h =
    subst (λ (t : ToCome). HasMoved (told t piece) pid os os (Some rule)) (sym (lane_read bytes placed lanes pid old os view lt is)) (go (told (to_come_of bytes placed old) piece) h)
  where
    go : (r : Result ToCome Rule) → IsMoved bytes placed old r (Err rule) → HasMoved r pid os os (Some rule)
    go (Ok t) h = h
    go (Err told_rule) h = h

-- the moved lane is within, and of the same PID
pub moved_within : (bytes : List ℕ) (placed : List Placed) (old new : Lane) (r : Result ToCome Rule) → IsMoved bytes placed old r (Ok new) → (new.pid ≡ old.pid) × IsWithin (length bytes) placed new
moved_within bytes placed old new (Ok t) h = (h.0, h.2)
moved_within bytes placed old new (Err rule) h = absurd h

-- a lane on whose PID something is to come is busy
pub lane_busy : (bytes : List ℕ) (placed : List Placed) (lanes : List Lane) (pid : ℕ) (old : Lane) (os : List ToCome) → all_shown bytes placed lanes ≡ os → pid < length lanes → old ≡ get_or lanes pid old → All (IsWithin (length bytes) placed) lanes
    → is_nothing (to_come_on os pid) ≡ false → is_busy (length placed) old ≡ true
lane_busy bytes placed lanes pid old os view lt is within some =
    let here : IsWithin (length bytes) placed old = subst (IsWithin (length bytes) placed) (sym is) (within pid old lt) in
    negated (is_busy (length placed) old) (sym (busy_is bytes placed old here) ∙ ap is_nothing (sym (lane_read bytes placed lanes pid old os view lt is)) ∙ some)
  where
    negated : (b : Bool) → not b ≡ false → b ≡ true
    negated true e = refl
    negated false e = cc

-- lanes of which one moved are within
pub within_moved : (bytes : List ℕ) (placed : List Placed) (links : List ℕ) (lanes : List Lane) (busy i : ℕ) (new : Lane) (after : ℕ) → AreWithin bytes placed links lanes busy → i < length lanes → new.pid ≡ i → IsWithin (length bytes) placed new
    → after ≡ count_by (is_busy (length placed)) (set lanes i new) → AreWithin bytes placed links (set lanes i new) after
within_moved bytes placed links lanes busy i new after h lt own within count = record {
  sections = h.sections;
  linked = h.linked;
  each = All-set (IsWithin (length bytes) placed) lanes i new within h.each;
  own = λ k d k_lt. elim (cases_eq k i) [
    | inl same ↦ ap (λ (l : Lane). l.pid) (ap (λ (n : ℕ). get_or (set lanes i new) n d) same ∙ get_or-set_same lanes i new d lt) ∙ own ∙ sym same
    | inr apart ↦ ap (λ (l : Lane). l.pid) (get_or-set_other lanes i k new d apart) ∙ h.own k d (omega (arith, length-set lanes i new, k_lt))
  ];
  count = count;
}
