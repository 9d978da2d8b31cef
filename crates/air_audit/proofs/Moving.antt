-- Lanes that move.
use Rattle.std.proofs.Common.{◌≡◌, ℕ, ◌+◌, ◌-◌, ◌≤◌, min, inl, inr, List, [], ◌∷◌, Bool, true, false, Option, Some, None, length, get_or, refl, sym, ap, ap₂, ◌∙◌, subst, arith, take, drop, length-take, length-drop}
use Rattle.std.specs.Prelude.{◌==◌, ◌&&◌, ◌||◌, not, if◌then◌else◌, Result, Ok, Err}
use Rattle.std.specs.Option.{ok_or}
use Rattle.std.proofs.lemmas.Bool.{cases_lt}
use Rattle.std.proofs.lemmas.List.{drop-take, drop-drop, drop_all}
use Rattle.air_model.specs.declared.placed.Placed.{Placed}
use Rattle.air_model.specs.declared.rule.Rule.{Rule}
use Rattle.air_model.specs.declared.rule.Rule.TheVariants.{Pointer, Bytes}
use Rattle.air_audit.specs.declared.lanes.Lane.{Lane}
use Rattle.air_audit.specs.Fronts.{ToCome}
use Rattle.air_audit.specs.Telling.{is_fill, is_front, is_none, is_at_fill, begun_in, begins_in, is_pointer, told_start, told_further}
use Rattle.air_audit.specs.Progress.{rest_of, waiting_from, laid_at, to_come_of, IsWithin, IsMoved, HasBegun}

pub length-rest : (bytes : List ℕ) (placed : List Placed) (l : Lane) → IsWithin (length bytes) placed l → length (rest_of bytes l) ≡ l.end - l.at
length-rest bytes placed l h = omega (arith, length-take (l.end - l.at) (drop l.at bytes), length-drop l.at bytes, h.order, h.end)

-- a range without its first bytes
range_behind : (bytes : List ℕ) (at end n count : ℕ) → at ≤ end → count ≡ min (end - at) n → take (end - (at + count)) (drop (at + count) bytes) ≡ drop n (take (end - at) (drop at bytes))
range_behind bytes at end n count le e = elim (cases_lt n (end - at)) [
  | inl lt ↦
      let same : count ≡ n = omega arith in
      ap (λ (k : ℕ). take (end - (at + k)) (drop (at + k) bytes)) same
      ∙ ap₂ (λ (k : ℕ) (l : List ℕ). take k l) (let f : end - (at + n) ≡ end - at - n = omega arith in f) (sym (drop-drop n at bytes))
      ∙ sym (drop-take n (end - at - n) (drop at bytes))
      ∙ ap (λ (k : ℕ). drop n (take k (drop at bytes))) (let f : n + (end - at - n) ≡ end - at = omega arith in f)
  | inr past ↦
      ap (λ (k : ℕ). take k (drop (at + count) bytes)) (let f : end - (at + count) ≡ 0 = omega arith in f)
      ∙ sym (drop_all n (take (end - at) (drop at bytes)) (omega (arith, length-take (end - at) (drop at bytes))))
]

-- a lane whose open section went on
pub moved_further : (bytes : List ℕ) (placed : List Placed) (l : Lane) (payload : List ℕ) (count : ℕ) → IsWithin (length bytes) placed l → (length (rest_of bytes l) == 0) ≡ false
    → is_front (rest_of bytes l) payload ≡ true → is_fill (drop (length (rest_of bytes l)) payload) ≡ true → count ≡ min (length (rest_of bytes l)) (length payload)
    → IsMoved bytes placed l (told_further (to_come_of bytes placed l) payload) (Ok (record { pid = l.pid; at = l.at + count; end = l.end; next = l.next }))
moved_further bytes placed l payload count h some front fill e =
    let rest = rest_of bytes l in
    let u : ToCome = record { rest = drop (length payload) rest; waiting = waiting_from l.pid bytes placed l.next } in
    let size = length-rest bytes placed l h in
    let told : told_further (to_come_of bytes placed l) payload ≡ Ok u =
    ap (λ (b : Bool). if b then Err Pointer else if is_front rest payload && is_fill (drop (length rest) payload) then Ok u else Err Bytes) (not_none rest some)
    ∙ ap₂ (λ (x y : Bool). if x && y then Ok u else Err Bytes) front fill in
    let range = range_behind bytes l.at l.end (length payload) count h.order (e ∙ ap (λ (k : ℕ). min k (length payload)) size) in
    let new : Lane = record { pid = l.pid; at = l.at + count; end = l.end; next = l.next } in
    subst (λ (r : Result ToCome Rule). IsMoved bytes placed l r (Ok new)) (sym told)
    (refl, ap (λ (r : List ℕ). let t : ToCome = record { rest = r; waiting = waiting_from l.pid bytes placed l.next } in t) range, record { order = omega (arith, h.order); end = h.end; next = h.next; first = h.first })
  where
    not_none : (xs : List ℕ) → (length xs == 0) ≡ false → is_none xs ≡ false
    not_none [] e = e
    not_none (x ∷ xs) e = refl

-- ---- sections that begin

-- the sections that begin end at fill
pub begun_fill : (bytes : List ℕ) (placed : List Placed) (l : Lane) (left : List ℕ) → IsWithin (length bytes) placed l → is_at_fill left ≡ true → is_fill left ≡ true
    → HasBegun bytes placed l (begun_in (rest_of bytes l) left (waiting_from l.pid bytes placed l.next)) (Some l)
begun_fill bytes placed l left h at fill = go left (waiting_from l.pid bytes placed l.next) refl at fill
  where
    go : (left : List ℕ) (ss : List (List ℕ)) → waiting_from l.pid bytes placed l.next ≡ ss → is_at_fill left ≡ true → is_fill left ≡ true → HasBegun bytes placed l (begun_in (rest_of bytes l) left ss) (Some l)
    go left ss e at fill =
        let u : ToCome = record { rest = rest_of bytes l; waiting = ss } in
        subst (λ (r : Result ToCome Rule). HasBegun bytes placed l r (Some l)) (sym (told left ss at fill))
        (refl, ap (λ (w : List (List ℕ)). let t : ToCome = record { rest = rest_of bytes l; waiting = w } in t) e, h)
      where
        told : (left : List ℕ) (ss : List (List ℕ)) → is_at_fill left ≡ true → is_fill left ≡ true → begun_in (rest_of bytes l) left ss ≡ Ok (record { rest = rest_of bytes l; waiting = ss })
        told left [] at fill = ap (λ (b : Bool). if b then Ok (record { rest = rest_of bytes l; waiting = [] }) else Err Bytes) fill
        told [] (s ∷ ss) at fill = refl
        told (b ∷ left) (s ∷ ss) at fill =
            let rest = rest_of bytes l in
            ap (λ (x : Bool). if x then (if is_fill (b ∷ left) then Ok (record { rest = rest; waiting = s ∷ ss }) else Err Bytes) else if is_front s (b ∷ left) then begun_in (drop (length (b ∷ left)) s) (drop (length s) (b ∷ left)) ss else Err Bytes) at
            ∙ ap (λ (x : Bool). if x then Ok (record { rest = rest; waiting = s ∷ ss }) else Err Bytes) fill

-- at what begins as fill and is none, no packet goes on
pub begun_wrong : (bytes : List ℕ) (placed : List Placed) (l : Lane) (left : List ℕ) → is_at_fill left ≡ true → is_fill left ≡ false
    → HasBegun bytes placed l (begun_in (rest_of bytes l) left (waiting_from l.pid bytes placed l.next)) None
begun_wrong bytes placed l left at fill = subst (λ (r : Result ToCome Rule). HasBegun bytes placed l r None) (sym (told left (waiting_from l.pid bytes placed l.next) at fill)) refl
  where
    told : (left : List ℕ) (ss : List (List ℕ)) → is_at_fill left ≡ true → is_fill left ≡ false → begun_in (rest_of bytes l) left ss ≡ Err Bytes
    told left [] at fill = ap (λ (b : Bool). if b then Ok (record { rest = rest_of bytes l; waiting = [] }) else Err Bytes) fill
    told [] (s ∷ ss) at fill = cc
    told (b ∷ left) (s ∷ ss) at fill =
        let rest = rest_of bytes l in
        ap (λ (x : Bool). if x then (if is_fill (b ∷ left) then Ok (record { rest = rest; waiting = s ∷ ss }) else Err Bytes) else if is_front s (b ∷ left) then begun_in (drop (length (b ∷ left)) s) (drop (length s) (b ∷ left)) ss else Err Bytes) at
        ∙ ap (λ (x : Bool). if x then Ok (record { rest = rest; waiting = s ∷ ss }) else Err Bytes) fill

-- one section more begins
pub begun_more : (bytes : List ℕ) (placed : List Placed) (l : Lane) (left : List ℕ) (p : Placed) (count link : ℕ) (r : Option Lane) → is_at_fill left ≡ false
    → waiting_from l.pid bytes placed l.next ≡ laid_at bytes p ∷ waiting_from l.pid bytes placed link → is_front (laid_at bytes p) left ≡ true → count ≡ min p.len (length left)
    → HasBegun bytes placed (record { pid = l.pid; at = p.start + count; end = p.start + p.len; next = link })
    (begun_in (rest_of bytes (record { pid = l.pid; at = p.start + count; end = p.start + p.len; next = link })) (drop (length (laid_at bytes p)) left) (waiting_from l.pid bytes placed link)) r
    → HasBegun bytes placed l (begun_in (rest_of bytes l) left (waiting_from l.pid bytes placed l.next)) r
begun_more bytes placed l left p count link r at waits front e h =
    subst (λ (x : Result ToCome Rule). HasBegun bytes placed l x r) (sym (ap (begun_in (rest_of bytes l) left) waits ∙ told left at front)) (same_pid bytes placed begun l (begun_in (drop (length left) s) (drop (length s) left) ss) r refl
    (subst (λ (x : List ℕ). HasBegun bytes placed begun (begun_in x (drop (length s) left) ss) r) rest h))
  where
    s : List ℕ
    s = laid_at bytes p

    ss : List (List ℕ)
    ss = waiting_from l.pid bytes placed link

    begun : Lane
    begun = record { pid = l.pid; at = p.start + count; end = p.start + p.len; next = link }

    rest : rest_of bytes begun ≡ drop (length left) s
    rest =
        let len : p.start + p.len - p.start ≡ p.len = omega arith in
        range_behind bytes p.start (p.start + p.len) (length left) count (omega arith) (e ∙ ap (λ (k : ℕ). min k (length left)) (sym len))
        ∙ ap (λ (k : ℕ). drop (length left) (take k (drop p.start bytes))) len

    told : (left : List ℕ) → is_at_fill left ≡ false → is_front s left ≡ true → begun_in (rest_of bytes l) left (s ∷ ss) ≡ begun_in (drop (length left) s) (drop (length s) left) ss
    told [] at front = cc
    told (b ∷ left) at front =
        let rest = rest_of bytes l in
        let next = begun_in (drop (length (b ∷ left)) s) (drop (length s) (b ∷ left)) ss in
        ap (λ (x : Bool). if x then (if is_fill (b ∷ left) then Ok (record { rest = rest; waiting = s ∷ ss }) else Err Bytes) else if is_front s (b ∷ left) then next else Err Bytes) at
        ∙ ap (λ (x : Bool). if x then next else Err Bytes) front

    same_pid : (bytes : List ℕ) (placed : List Placed) (a b : Lane) (x : Result ToCome Rule) (r : Option Lane) → a.pid ≡ b.pid → HasBegun bytes placed a x r → HasBegun bytes placed b x r
    same_pid bytes placed a b (Ok t) (Some new) e h = (h.0 ∙ e, h.1, h.2)
    same_pid bytes placed a b (Ok t) None e h = h
    same_pid bytes placed a b (Err rule) (Some new) e h = h
    same_pid bytes placed a b (Err rule) None e h = h

-- ---- a packet in which sections begin

-- a payload by its pointer and the bytes behind it
pub payload_is : (payload front body : List ℕ) (pointer : ℕ) → length payload ≡ 184 → front ≡ take 1 payload → body ≡ drop 1 payload → pointer ≡ get_or front 0 0 → payload ≡ pointer ∷ body
payload_is [] front body pointer size a b c = absurd (omega arith)
payload_is (p ∷ payload) front body pointer size a b c =
    ap₂ (λ (x : ℕ) (l : List ℕ). x ∷ l) (sym (c ∙ ap (λ (l : List ℕ). get_or l 0 0) a)) (sym b)

-- where none waits, no section begins
pub started_none : (bytes : List ℕ) (placed : List Placed) (l : Lane) (payload : List ℕ) → is_none (waiting_from l.pid bytes placed l.next) ≡ true → IsMoved bytes placed l (told_start (to_come_of bytes placed l) payload) (Err Pointer)
started_none bytes placed l [] none = refl
started_none bytes placed l (pointer ∷ body) none =
    let t = to_come_of bytes placed l in
    subst (λ (r : Result ToCome Rule). IsMoved bytes placed l r (Err Pointer))
    (sym (ap (λ (x : Bool). if x || not (is_pointer pointer t.rest) then Err Pointer else if is_front t.rest body then begins_in (drop (length t.rest) body) t.waiting else Err Bytes) none)) refl

-- at a wrong pointer, neither
pub started_wrong : (bytes : List ℕ) (placed : List Placed) (l : Lane) (pointer : ℕ) (body : List ℕ) → is_pointer pointer (rest_of bytes l) ≡ false → IsMoved bytes placed l (told_start (to_come_of bytes placed l) (pointer ∷ body)) (Err Pointer)
started_wrong bytes placed l pointer body wrong =
    let t = to_come_of bytes placed l in
    let goes : Result ToCome Rule = if is_front t.rest body then begins_in (drop (length t.rest) body) t.waiting else Err Bytes in
    subst (λ (r : Result ToCome Rule). IsMoved bytes placed l r (Err Pointer))
    (sym (ap (λ (x : Bool). if is_none t.waiting || not x then Err Pointer else goes) wrong ∙ either (is_none t.waiting) goes)) refl
  where
    either : (b : Bool) (r : Result ToCome Rule) → (if b || true then Err Pointer else r) ≡ Err Pointer
    either true r = refl
    either false r = refl

-- what a lane with sections to begin is told, once the pointer is right
start_is : (t : ToCome) (pointer : ℕ) (body : List ℕ) → is_none t.waiting ≡ false → is_pointer pointer t.rest ≡ true →
    told_start t (pointer ∷ body) ≡ (if is_front t.rest body then begins_in (drop (length t.rest) body) t.waiting else Err Bytes)
start_is t pointer body some right =
    ap₂ (λ (x y : Bool). if x || not y then Err Pointer else if is_front t.rest body then begins_in (drop (length t.rest) body) t.waiting else Err Bytes) some right

pub started_other : (bytes : List ℕ) (placed : List Placed) (l : Lane) (pointer : ℕ) (body : List ℕ) → is_none (waiting_from l.pid bytes placed l.next) ≡ false → is_pointer pointer (rest_of bytes l) ≡ true
    → is_front (rest_of bytes l) body ≡ false → IsMoved bytes placed l (told_start (to_come_of bytes placed l) (pointer ∷ body)) (Err Bytes)
started_other bytes placed l pointer body some right front =
    let goes = begins_in (drop (length (rest_of bytes l)) body) (waiting_from l.pid bytes placed l.next) in
    subst (λ (r : Result ToCome Rule). IsMoved bytes placed l r (Err Bytes)) (sym (start_is (to_come_of bytes placed l) pointer body some right ∙ ap (λ (x : Bool). if x then goes else Err Bytes) front)) refl

begins_fill : (bytes : List ℕ) (ss : List (List ℕ)) → is_at_fill bytes ≡ true → begins_in bytes ss ≡ Err Bytes
begins_fill [] ss at = refl
begins_fill (b ∷ bytes) ss at = ap (λ (x : Bool). if x then Err Bytes else begun_in [] (b ∷ bytes) ss) at

begins_on : (bytes : List ℕ) (ss : List (List ℕ)) → is_at_fill bytes ≡ false → begins_in bytes ss ≡ begun_in [] bytes ss
begins_on [] ss at = cc
begins_on (b ∷ bytes) ss at = ap (λ (x : Bool). if x then Err Bytes else begun_in [] (b ∷ bytes) ss) at

pub started_fill : (bytes : List ℕ) (placed : List Placed) (l : Lane) (pointer : ℕ) (body behind : List ℕ) → is_none (waiting_from l.pid bytes placed l.next) ≡ false → is_pointer pointer (rest_of bytes l) ≡ true
    → is_front (rest_of bytes l) body ≡ true → behind ≡ drop (length (rest_of bytes l)) body → is_at_fill behind ≡ true → IsMoved bytes placed l (told_start (to_come_of bytes placed l) (pointer ∷ body)) (Err Bytes)
started_fill bytes placed l pointer body behind some right front is at =
    let ss = waiting_from l.pid bytes placed l.next in
    let goes = begins_in (drop (length (rest_of bytes l)) body) ss in
    subst (λ (r : Result ToCome Rule). IsMoved bytes placed l r (Err Bytes))
    (sym (start_is (to_come_of bytes placed l) pointer body some right ∙ ap (λ (x : Bool). if x then goes else Err Bytes) front ∙ ap (λ (b : List ℕ). begins_in b ss) (sym is) ∙ begins_fill behind ss at)) refl

abbrev pub ok_or_bytes : Option Lane → Result Lane Rule
ok_or_bytes None = Err Bytes
ok_or_bytes (Some l) = Ok l

pub started : (bytes : List ℕ) (placed : List Placed) (l : Lane) (pointer : ℕ) (body behind : List ℕ) (o : Option Lane) → is_none (waiting_from l.pid bytes placed l.next) ≡ false → is_pointer pointer (rest_of bytes l) ≡ true
    → is_front (rest_of bytes l) body ≡ true → behind ≡ drop (length (rest_of bytes l)) body → is_at_fill behind ≡ false
    → HasBegun bytes placed l (begun_in [] behind (waiting_from l.pid bytes placed l.next)) o → IsMoved bytes placed l (told_start (to_come_of bytes placed l) (pointer ∷ body)) (ok_or_bytes o)
started bytes placed l pointer body behind o some right front is at h =
    let ss = waiting_from l.pid bytes placed l.next in
    let goes = begins_in (drop (length (rest_of bytes l)) body) ss in
    subst (λ (r : Result ToCome Rule). IsMoved bytes placed l r (ok_or_bytes o))
    (sym (start_is (to_come_of bytes placed l) pointer body some right ∙ ap (λ (x : Bool). if x then goes else Err Bytes) front ∙ ap (λ (b : List ℕ). begins_in b ss) (sym is) ∙ begins_on behind ss at))
    (moved (begun_in [] behind ss) o h)
  where
    moved : (x : Result ToCome Rule) (o : Option Lane) → HasBegun bytes placed l x o → IsMoved bytes placed l x (ok_or_bytes o)
    moved (Ok t) (Some new) h = h
    moved (Ok t) None h = h
    moved (Err rule) (Some new) h = h
    moved (Err rule) None h = sym h

-- as `begun_more`, by the section and what is behind it
pub begun_section : (bytes : List ℕ) (placed : List Placed) (l : Lane) (left : List ℕ) (p : Placed) (count link : ℕ) (section behind : List ℕ) (r : Option Lane) → is_at_fill left ≡ false
    → waiting_from l.pid bytes placed l.next ≡ laid_at bytes p ∷ waiting_from l.pid bytes placed link → section ≡ laid_at bytes p → is_front section left ≡ true → behind ≡ drop (length section) left → count ≡ min p.len (length left)
    → HasBegun bytes placed (record { pid = l.pid; at = p.start + count; end = p.start + p.len; next = link })
    (begun_in (rest_of bytes (record { pid = l.pid; at = p.start + count; end = p.start + p.len; next = link })) behind (waiting_from l.pid bytes placed link)) r
    → HasBegun bytes placed l (begun_in (rest_of bytes l) left (waiting_from l.pid bytes placed l.next)) r
begun_section bytes placed l left p count link section behind r at waits here front is_behind e h =
    let begun : Lane = record { pid = l.pid; at = p.start + count; end = p.start + p.len; next = link } in
    begun_more bytes placed l left p count link r at waits (subst (λ (s : List ℕ). is_front s left ≡ true) here front) e
    (subst (λ (x : List ℕ). HasBegun bytes placed begun (begun_in (rest_of bytes begun) x (waiting_from l.pid bytes placed link)) r) (is_behind ∙ ap (λ (s : List ℕ). drop (length s) left) here) h)

-- where none waits, no section begins
pub begun_past : (bytes : List ℕ) (placed : List Placed) (l : Lane) (left : List ℕ) → is_at_fill left ≡ false → is_none (waiting_from l.pid bytes placed l.next) ≡ true
    → HasBegun bytes placed l (begun_in (rest_of bytes l) left (waiting_from l.pid bytes placed l.next)) None
begun_past bytes placed l left at none = go left (waiting_from l.pid bytes placed l.next) at none
  where
    go : (left : List ℕ) (ss : List (List ℕ)) → is_at_fill left ≡ false → is_none ss ≡ true → HasBegun bytes placed l (begun_in (rest_of bytes l) left ss) None
    go [] ss at none = cc
    go (b ∷ left) (s ∷ ss) at none = cc
    go (b ∷ left) [] at none = subst (λ (r : Result ToCome Rule). HasBegun bytes placed l r None) (sym (ap (λ (x : Bool). if x && is_fill left then Ok (record { rest = rest_of bytes l; waiting = [] }) else Err Bytes) at)) refl

pub section_at : (bytes : List ℕ) (p : Placed) → take (p.start + p.len - p.start) (drop p.start bytes) ≡ laid_at bytes p
section_at bytes p = ap (λ (k : ℕ). take k (drop p.start bytes)) (let e : p.start + p.len - p.start ≡ p.len = omega arith in e)

-- the answer where there is no lane
pub ok_or_is : (o : Option Lane) → ok_or o Bytes ≡ ok_or_bytes o
ok_or_is None = refl
ok_or_is (Some l) = refl
