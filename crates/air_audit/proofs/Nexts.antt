-- The next section of a PID.
use Rattle.std.proofs.Common.{◌≡◌, ℕ, suc, ◌+◌, ◌<◌, ◌≤◌, inl, inr, List, [], ◌∷◌, Bool, true, false, Some, None, length, get_or, set, refl, sym, ap, ap₂, ◌∙◌, subst, arith, drop, map, length-drop, eq-eqb, ne_eqb, get_or-set_same, get_or-set_other}
use Rattle.std.specs.Prelude.{◌==◌, if◌then◌else◌, slice_index}
use Rattle.std.specs.List.{cons_option}
use Rattle.std.proofs.lemmas.Bool.{cases_lt, cases_eq}
use Rattle.std.proofs.lemmas.List.{drop-drop, drop_all, get_or_default}
use Rattle.air_model.specs.declared.placed.Placed.{Placed}
use Rattle.air_model.specs.Laying.{sent_at, IsPlaced}
use Rattle.air_model.proofs.Laid.{from_place}
use Rattle.air_audit.specs.declared.lanes.Lane.{Lane}
use Rattle.air_audit.specs.Telling.{is_none}
use Rattle.air_audit.specs.Audits.{on_pid}
use Rattle.air_audit.specs.Progress.{waiting_from, laid_at, before_on, next_on, IsWithin, AreLinked, AreFresh}

before_fits : (pid : ℕ) (ps : List Placed) → before_on pid ps ≤ length ps
before_fits pid [] = omega arith
before_fits pid (p ∷ ps) = go (p.pid == pid) (before_fits pid ps)
  where
    go : (b : Bool) → before_on pid ps ≤ length ps → (if b then 0 else suc (before_on pid ps)) ≤ length (p ∷ ps)
    go true h = omega arith
    go false h = omega (arith, h)

-- behind those before it, the first of a PID is the first
before_none : (pid : ℕ) (ps : List Placed) → before_on pid (drop (before_on pid ps) ps) ≡ 0
before_none pid [] = refl
before_none pid (p ∷ ps) = go (p.pid == pid) refl (before_none pid ps)
  where
    go : (b : Bool) → (p.pid == pid) ≡ b → before_on pid (drop (before_on pid ps) ps) ≡ 0 → before_on pid (drop (if b then 0 else suc (before_on pid ps)) (p ∷ ps)) ≡ 0
    go true e h = ap (λ (b : Bool). if b then 0 else suc (before_on pid ps)) e
    go false e h = h

before_waits : (pid : ℕ) (bytes : List ℕ) (ps : List Placed) → on_pid pid (map (sent_at bytes) (drop (before_on pid ps) ps)) ≡ on_pid pid (map (sent_at bytes) ps)
before_waits pid bytes [] = refl
before_waits pid bytes (p ∷ ps) = go (p.pid == pid) refl (before_waits pid bytes ps)
  where
    go : (b : Bool) → (p.pid == pid) ≡ b → on_pid pid (map (sent_at bytes) (drop (before_on pid ps) ps)) ≡ on_pid pid (map (sent_at bytes) ps)
        → on_pid pid (map (sent_at bytes) (drop (if b then 0 else suc (before_on pid ps)) (p ∷ ps))) ≡ on_pid pid (map (sent_at bytes) (p ∷ ps))
    go true e h = refl
    go false e h = h ∙ sym (ap (λ (b : Bool). cons_option (if b then Some (laid_at bytes p) else None) (on_pid pid (map (sent_at bytes) ps))) e)

-- ---- the next place

pub next-fits : (pid : ℕ) (placed : List Placed) (from : ℕ) → from ≤ length placed → next_on pid placed from ≤ length placed
next-fits pid placed from le = omega (arith, before_fits pid (drop from placed), length-drop from placed)

pub next-first : (pid : ℕ) (placed : List Placed) (from : ℕ) → next_on pid placed (next_on pid placed from) ≡ next_on pid placed from
next-first pid placed from =
    let n = before_on pid (drop from placed) in
    ap (λ (l : List Placed). from + n + before_on pid l) (sym (drop-drop n from placed)) ∙ ap (λ (k : ℕ). from + n + k) (before_none pid (drop from placed)) ∙ (let e : from + n + 0 ≡ from + n = omega arith in e)

pub waiting_next : (pid : ℕ) (bytes : List ℕ) (placed : List Placed) (from : ℕ) → waiting_from pid bytes placed (next_on pid placed from) ≡ waiting_from pid bytes placed from
waiting_next pid bytes placed from =
    ap (λ (l : List Placed). on_pid pid (map (sent_at bytes) l)) (sym (drop-drop (before_on pid (drop from placed)) from placed)) ∙ before_waits pid bytes (drop from placed)

pub next-end : (pid : ℕ) (placed : List Placed) → next_on pid placed (length placed) ≡ length placed
next-end pid placed =
    ap (λ (l : List Placed). length placed + before_on pid l) (drop_all (length placed) placed (let e : length placed ≤ length placed = omega arith in e)) ∙ (let e : length placed + 0 ≡ length placed = omega arith in e)

next-here : (pid : ℕ) (placed : List Placed) (at : ℕ) (p : Placed) → at < length placed → p ≡ get_or placed at p → p.pid ≡ pid → next_on pid placed at ≡ at
next-here pid placed at p lt is same =
    ap (λ (l : List Placed). at + before_on pid l) (from_place placed at p lt is)
    ∙ ap (λ (b : Bool). at + (if b then 0 else suc (before_on pid (drop (at + 1) placed)))) (eq-eqb p.pid pid same) ∙ (let e : at + 0 ≡ at = omega arith in e)

next-past : (pid : ℕ) (placed : List Placed) (at : ℕ) (p : Placed) → at < length placed → p ≡ get_or placed at p → (p.pid ≡ pid → ⊥) → next_on pid placed at ≡ next_on pid placed (at + 1)
next-past pid placed at p lt is apart =
    let k = before_on pid (drop (at + 1) placed) in
    ap (λ (l : List Placed). at + before_on pid l) (from_place placed at p lt is)
    ∙ ap (λ (b : Bool). at + (if b then 0 else suc k)) (ne_eqb p.pid pid apart) ∙ (let e : at + suc k ≡ at + 1 + k = omega arith in e)

own_section : (pid : ℕ) (placed : List Placed) (at : ℕ) (p : Placed) → at < length placed → p ≡ get_or placed at p → next_on pid placed at ≡ at → p.pid ≡ pid
own_section pid placed at p lt is first = elim (cases_eq p.pid pid) [
  | inl same ↦ same
  | inr apart ↦
      let later : next_on pid placed at ≡ next_on pid placed (at + 1) = next-past pid placed at p lt is apart in
      absurd (let k = before_on pid (drop (at + 1) placed) in let e : at ≡ at + 1 + k = sym first ∙ later in omega arith)
]

waiting_here : (pid : ℕ) (bytes : List ℕ) (placed : List Placed) (at : ℕ) (p : Placed) → at < length placed → p ≡ get_or placed at p → p.pid ≡ pid →
    waiting_from pid bytes placed at ≡ laid_at bytes p ∷ waiting_from pid bytes placed (at + 1)
waiting_here pid bytes placed at p lt is same =
    ap (λ (l : List Placed). on_pid pid (map (sent_at bytes) l)) (from_place placed at p lt is)
    ∙ ap (λ (b : Bool). cons_option (if b then Some (laid_at bytes p) else None) (waiting_from pid bytes placed (at + 1))) (eq-eqb p.pid pid same)

-- ---- lanes

-- the section that begins next on a lane, and those behind it
pub waits_at : (size : ℕ) (bytes : List ℕ) (placed : List Placed) (l : Lane) (p : Placed) → IsWithin size placed l → l.next < length placed → p ≡ get_or placed l.next p →
    waiting_from l.pid bytes placed l.next ≡ laid_at bytes p ∷ waiting_from l.pid bytes placed (next_on p.pid placed (l.next + 1))
waits_at size bytes placed l p h lt is =
    let same = own_section l.pid placed l.next p lt is h.first in
    waiting_here l.pid bytes placed l.next p lt is same
    ∙ ap (λ (ws : List (List ℕ)). laid_at bytes p ∷ ws) (sym (waiting_next l.pid bytes placed (l.next + 1)) ∙ ap (λ (q : ℕ). waiting_from l.pid bytes placed (next_on q placed (l.next + 1))) (sym same))

some_place : Placed
some_place = record { pid = 0; start = 0; len = 0 }

-- none waits where the next place is the end
pub none_waiting : (size : ℕ) (bytes : List ℕ) (placed : List Placed) (l : Lane) → IsWithin size placed l → (l.next == length placed) ≡ is_none (waiting_from l.pid bytes placed l.next)
none_waiting size bytes placed l h = elim (cases_lt l.next (length placed)) [
  | inl lt ↦
      let p : Placed = get_or placed l.next some_place in
      let is : p ≡ get_or placed l.next p = get_or_default placed l.next some_place p lt in
      ne_eqb l.next (length placed) (λ e. omega (arith, lt, e)) ∙ sym (ap is_none (waits_at size bytes placed l p h lt is))
  | inr le ↦
      let e : l.next ≡ length placed = omega (arith, h.next, le) in
      eq-eqb l.next (length placed) e ∙ sym (ap is_none (ap (λ (ps : List Placed). on_pid l.pid (map (sent_at bytes) ps)) (drop_all l.next placed le)))
]

-- a lane whose next section has begun is within
pub begun_within : (bytes : List ℕ) (placed : List Placed) (l : Lane) (p : Placed) (count link : ℕ) → IsWithin (length bytes) placed l → IsPlaced (length bytes) p → count ≤ p.len → l.next < length placed → p ≡ get_or placed l.next p
    → link ≡ next_on p.pid placed (l.next + 1) → IsWithin (length bytes) placed (record { pid = l.pid; at = p.start + count; end = p.start + p.len; next = link })
begun_within bytes placed l p count link h fits le lt is linked =
    let same = own_section l.pid placed l.next p lt is h.first in
    let next : link ≡ next_on l.pid placed (l.next + 1) = linked ∙ ap (λ (q : ℕ). next_on q placed (l.next + 1)) same in
    record {
      order = omega arith;
      end = fits.within;
      next = subst (λ (k : ℕ). k ≤ length placed) (sym next) (next-fits l.pid placed (l.next + 1) (omega arith));
      first = ap (next_on l.pid placed) next ∙ next-first l.pid placed (l.next + 1) ∙ sym next;
    }

-- where the next place is not the end, a section waits
pub still_waits : (next places : ℕ) (none : Bool) → next ≤ places → none ≡ (next == places) → none ≡ false → next < places
still_waits next places none le is e = elim (cases_eq next places) [
  | inl same ↦ absurd (let f : true ≡ false = sym (eq-eqb next places same) ∙ sym is ∙ e in let b : ⊥ = cc in b)
  | inr apart ↦ omega (arith, le, apart)
]

-- the next place is further on
pub link_further : (placed : List Placed) (pid at link : ℕ) → at < length placed → link ≡ next_on pid placed (at + 1) → (at < link) × (link ≤ length placed)
link_further placed pid at link lt is =
    let fits = next-fits pid placed (at + 1) (omega arith) in
    (omega (arith, is), omega (arith, is, fits))

-- ---- linking, from the last section back

pub record LinkedFrom (at : ℕ) (placed : List Placed) (links : List ℕ) : Type 0 where
  pub many : length links ≡ length placed
  pub each : (i : ℕ) (p : Placed) → at ≤ i → i < length placed → p ≡ get_or placed i p → slice_index links i ≡ next_on p.pid placed (i + 1)

pub linked_none : (placed : List Placed) (links : List ℕ) → length links ≡ length placed → LinkedFrom (length placed) placed links
linked_none placed links e = record { many = e; each = λ i p le lt is. absurd (omega (arith, le, lt)) }

pub linked_all : (placed : List Placed) (links : List ℕ) → LinkedFrom 0 placed links → AreLinked placed links
linked_all placed links h = record { many = h.many; each = λ i p lt is. h.each i p (omega arith) lt is }

pub linked_more : (at : ℕ) (placed : List Placed) (links : List ℕ) (q : Placed) (link : ℕ) → LinkedFrom (at + 1) placed links → at < length placed → q ≡ get_or placed at q → link ≡ next_on q.pid placed (at + 1) → length (set links at link) ≡ length links
    → LinkedFrom at placed (set links at link)
linked_more at placed links q link h lt is e size = record { many = size ∙ h.many; each = each }
  where
    each : (i : ℕ) (p : Placed) → at ≤ i → i < length placed → p ≡ get_or placed i p → slice_index (set links at link) i ≡ next_on p.pid placed (i + 1)
    each i p le i_lt p_is = elim (cases_eq i at) [
      | inl same ↦
          let one : p ≡ q = p_is ∙ ap (λ (k : ℕ). get_or placed k p) same ∙ get_or_default placed at p q lt ∙ sym is in
          ap (slice_index (set links at link)) same ∙ get_or-set_same links at link 0 (omega (arith, h.many, lt)) ∙ e ∙ ap₂ (λ (x : Placed) (k : ℕ). next_on x.pid placed (k + 1)) (sym one) (sym same)
      | inr apart ↦ get_or-set_other links at i link 0 apart ∙ h.each i p (let ne : i ≡ at → ⊥ = apart in omega (arith, le, ne)) i_lt p_is
    ]

-- no section waits on idle lanes
pub fresh_none : (placed : List Placed) (lanes : List Lane) → AreFresh (λ (pid : ℕ). length placed) lanes → AreFresh (λ (pid : ℕ). next_on pid placed (length placed)) lanes
fresh_none placed lanes h = record {
  many = h.many;
  each = λ pid d lt. h.each pid d lt ∙ ap (λ (k : ℕ). let l : Lane = record { pid = pid; at = 0; end = 0; next = k } in l) (sym (next-end pid placed));
}

abbrev fresh_lane : ℕ → ℕ → Lane
fresh_lane pid next = record { pid = pid; at = 0; end = 0; next = next }

pub fresh_more : (at : ℕ) (placed : List Placed) (lanes : List Lane) (q : Placed) → AreFresh (λ (pid : ℕ). next_on pid placed (at + 1)) lanes → at < length placed → q ≡ get_or placed at q → q.pid < 8192
    → length (set lanes q.pid (record { pid = q.pid; at = 0; end = 0; next = at })) ≡ length lanes
    → AreFresh (λ (pid : ℕ). next_on pid placed at) (set lanes q.pid (record { pid = q.pid; at = 0; end = 0; next = at }))
fresh_more at placed lanes q h lt is small size = record { many = size ∙ h.many; each = each }
  where
    each : (pid : ℕ) (d : Lane) → pid < 8192 → get_or (set lanes q.pid (record { pid = q.pid; at = 0; end = 0; next = at })) pid d ≡ record { pid = pid; at = 0; end = 0; next = next_on pid placed at }
    each pid d pid_lt = elim (cases_eq pid q.pid) [
      | inl same ↦
          ap (λ (k : ℕ). get_or (set lanes q.pid (fresh_lane q.pid at)) k d) same ∙ get_or-set_same lanes q.pid (fresh_lane q.pid at) d (omega (arith, h.many, small))
          ∙ ap₂ fresh_lane (sym same) (sym (next-here pid placed at q lt is (sym same)))
      | inr apart ↦
          get_or-set_other lanes q.pid pid (fresh_lane q.pid at) d apart ∙ h.each pid d pid_lt ∙ ap (fresh_lane pid) (sym (next-past pid placed at q lt is (λ e. apart (sym e))))
    ]
