-- Packed sections: how many packets they take, and which packings go on alike.
use Rattle.std.proofs.Common.{◌≡◌, ℕ, zero, suc, ◌+◌, ◌-◌, ◌/◌, ◌%◌, ◌<◌, ◌≤◌, ◌⊎◌, inl, inr, List, [], ◌∷◌, ◌++◌, Bool, true, false, refl, sym, ap, ap₂, ◌∙◌, subst, arith}
use Rattle.std.specs.List.{AllByRecursion}
use Rattle.std.specs.Prelude.{if◌then◌else◌, nat_lt, ◌==◌, ◌&&◌}
use Rattle.std.proofs.lemmas.Bool.{ltb-true, ltb-false, eq-eqb, ne_eqb}
use Rattle.si_lists.proofs.Truths.{second_true}
use Rattle.ts_packets.specs.Packets.{packets_of}
use Rattle.air_model.specs.Cutting.{packets_in}
use Rattle.air_model.specs.Packing.{Packing, has_room_needing, begins_needing, taken_needing, packed_needing, has_room, begins, taken, used_at_end, packed_one, packed_all, packets_so_far, PackingIsDense}

-- ---- the packet in which a section begins that needs so many bytes of room

pub record Starts (need : ℕ) (packing : Packing) (pid : ℕ) : Type 0 where
  pub at_total : begins_needing need packing pid ≤ packets_so_far packing
  pub near_total : packets_so_far packing ≤ begins_needing need packing pid + 1
  pub inside : taken_needing need packing pid ≤ 183 - need
  pub fresh : 0 < taken_needing need packing pid → begins_needing need packing pid + 1 ≡ packets_so_far packing

starts_by : (b c : Bool) (closed used most : ℕ) → (c ≡ true → used ≤ most) →
    ((if b then closed else if c then closed else closed + 1) ≤ (if b then closed else closed + 1))
    × ((if b then closed else closed + 1) ≤ (if b then closed else if c then closed else closed + 1) + 1)
    × ((if b then 0 else if c then used else 0) ≤ most)
    × (0 < (if b then 0 else if c then used else 0) → (if b then closed else if c then closed else closed + 1) + 1 ≡ (if b then closed else closed + 1))
starts_by true c closed used most h = (omega arith, omega arith, omega arith, λ z. omega arith)
starts_by false true closed used most h = let l = h refl in (omega arith, omega arith, l, λ z. refl)
starts_by false false closed used most h = (omega arith, omega arith, omega arith, λ z. omega arith)

pub starts_needing : (need : ℕ) (packing : Packing) (pid : ℕ) → Starts need packing pid
starts_needing need packing pid =
    let r = starts_by (packing.used == 0) (has_room_needing need packing pid) packing.closed packing.used (183 - need)
    (λ h. let l = ltb-true packing.used (184 - need) (second_true (packing.pid == pid) (nat_lt packing.used (184 - need)) h) in omega arith) in
    record { at_total = r.0; near_total = r.1; inside = r.2; fresh = r.3 }

pub starts : (packing : Packing) (pid : ℕ) → Starts 1 packing pid
starts packing pid = starts_needing 1 packing pid

-- ---- no more packets than alone

-- at the end of a section a packet is begun
pub used_some : (bytes : ℕ) → 0 < bytes → 0 < used_at_end bytes
used_some bytes h = go (nat_lt bytes 184)
  where
    go : (b : Bool) → 0 < (if b then bytes else bytes % 184 + 1)
    go true = h
    go false = omega arith

pub so_far-begun : (packing : Packing) → 0 < packing.used → packets_so_far packing ≡ packing.closed + 1
so_far-begun packing h = ap (λ (b : Bool). if b then packing.closed else packing.closed + 1) (ne_eqb packing.used 0 (λ e. omega arith))

pub one-more-needing : (need : ℕ) (packing : Packing) (pid len : ℕ) → 0 < len → packets_so_far (packed_needing need packing pid len) ≤ packets_so_far packing + packets_of len
one-more-needing need packing pid len h =
    let s = starts_needing need packing pid in
    let i = s.inside in
    let u = so_far-begun (packed_needing need packing pid len) (used_some (taken_needing need packing pid + len) (omega arith)) in
    go (taken_needing need packing pid) (begins_needing need packing pid) (packets_so_far packing) s.at_total (omega arith) s.fresh u
  where
    go : (t b n : ℕ) → b ≤ n → t ≤ 183 → (0 < t → b + 1 ≡ n) → packets_so_far (packed_needing need packing pid len) ≡ b + (t + len) / 184 + 1
        → packets_so_far (packed_needing need packing pid len) ≤ n + (len + 1 + 183) / 184
    go zero b n l m f u = omega arith
    go (suc t) b n l m f u = let e = f (omega arith) in omega arith

one-more : (packing : Packing) (pid len : ℕ) → 0 < len → packets_so_far (packed_one packing pid len) ≤ packets_so_far packing + packets_of len
one-more packing pid len h = one-more-needing 1 packing pid len h

pub all-more : (pid len : ℕ → ℕ) (packing : Packing) (xs : List ℕ) → AllByRecursion (λ (i : ℕ). 0 < len i) xs → packets_so_far (packed_all pid len packing xs) ≤ packets_so_far packing + packets_in (λ i. packets_of (len i)) xs
all-more pid len packing [] h = omega arith
all-more pid len packing (x ∷ xs) h =
    let i = all-more pid len (packed_one packing (pid x) (len x)) xs h.1 in
    let o = one-more packing (pid x) (len x) h.0 in
    omega arith

full_at_end : (t l : ℕ) → t ≤ 182 → 0 < l → 183 ≤ used_at_end (t + l) → (t + l) / 184 + 1 ≤ (l + 1 + 183) / 184
full_at_end t l h s k = go (nat_lt (t + l) 184) refl k
  where
    go : (b : Bool) → nat_lt (t + l) 184 ≡ b → 183 ≤ (if b then t + l else (t + l) % 184 + 1) → (t + l) / 184 + 1 ≤ (l + 1 + 183) / 184
    go true e m = let n = ltb-true (t + l) 184 e in omega arith
    go false e m = omega arith

to-neighbour : (packing : Packing) (pid next len : ℕ) → 0 < len → next ≡ pid → begins (packed_one packing pid len) next ≤ begins packing pid + packets_of len
to-neighbour packing pid next len h e =
    let s = starts packing pid in
    go ((packed_one packing pid len).used == 0) (nat_lt (packed_one packing pid len).used 183) refl (eq-eqb pid next (sym e)) s.inside
  where
    go : (b c : Bool) → nat_lt (packed_one packing pid len).used 183 ≡ c → (pid == next) ≡ true → taken packing pid ≤ 182 →
        (if b then (packed_one packing pid len).closed else if (pid == next) && c then (packed_one packing pid len).closed else (packed_one packing pid len).closed + 1) ≤ begins packing pid + packets_of len
    go true c f g i = omega arith
    go false true f g i = subst (λ (d : Bool). (if d && true then (packed_one packing pid len).closed else (packed_one packing pid len).closed + 1) ≤ begins packing pid + packets_of len) (sym g) (omega arith)
    go false false f g i =
        let l = ltb-false (packed_one packing pid len).used 183 f in
        let k = full_at_end (taken packing pid) len i h l in
        subst (λ (d : Bool). (if d && false then (packed_one packing pid len).closed else (packed_one packing pid len).closed + 1) ≤ begins packing pid + packets_of len) (sym g) (omega arith)

pub packing_is_dense : PackingIsDense
packing_is_dense pid len packing = record {
  whole = λ xs h. all-more pid len packing xs h;
  from_start = λ x xs h. (let a = all-more pid len packing (x ∷ xs) h in let s = starts packing (pid x) in let n = s.near_total in omega arith);
  neighbour = λ x y h e. to-neighbour packing (pid x) (pid y) (len x) h e;
}

-- ---- packings that go on alike

-- equal but for packets that are closed
pub record Later (d : ℕ) (a b : Packing) : Type 0 where
  pub closed : b.closed ≡ d + a.closed
  pub pid : b.pid ≡ a.pid
  pub used : b.used ≡ a.used

pub later-begins : (d : ℕ) (a b : Packing) → Later d a b → (pid : ℕ) → begins b pid ≡ d + begins a pid
later-begins d a b l pid =
    ap₂ (λ (used q : ℕ). if used == 0 then b.closed else if (q == pid) && nat_lt used 183 then b.closed else b.closed + 1) l.used l.pid
    ∙ ap (λ (closed : ℕ). if a.used == 0 then closed else if has_room a pid then closed else closed + 1) l.closed
    ∙ go (a.used == 0) (has_room a pid)
  where
    go : (x y : Bool) → (if x then d + a.closed else if y then d + a.closed else d + a.closed + 1) ≡ d + (if x then a.closed else if y then a.closed else a.closed + 1)
    go true y = refl
    go false true = refl
    go false false = omega arith

later-taken : (d : ℕ) (a b : Packing) → Later d a b → (pid : ℕ) → taken b pid ≡ taken a pid
later-taken d a b l pid = ap₂ (λ (used q : ℕ). if used == 0 then 0 else if (q == pid) && nat_lt used 183 then used else 0) l.used l.pid

pub later-one : (d : ℕ) (a b : Packing) → Later d a b → (pid len : ℕ) → Later d (packed_one a pid len) (packed_one b pid len)
later-one d a b l pid len =
    let t = later-taken d a b l pid in
    let e = later-begins d a b l pid in
    let f = ap (λ (n : ℕ). (n + len) / 184) t in
    record { closed = omega arith; pid = refl; used = ap (λ (n : ℕ). used_at_end (n + len)) t }

later-all : (pid len : ℕ → ℕ) (d : ℕ) (a b : Packing) → Later d a b → (xs : List ℕ) → Later d (packed_all pid len a xs) (packed_all pid len b xs)
later-all pid len d a b l [] = l
later-all pid len d a b l (x ∷ xs) = later-all pid len d (packed_one a (pid x) (len x)) (packed_one b (pid x) (len x)) (later-one d a b l (pid x) (len x)) xs

pub packed_all-append : (pid len : ℕ → ℕ) (packing : Packing) (a b : List ℕ) → packed_all pid len packing (a ++ b) ≡ packed_all pid len (packed_all pid len packing a) b
packed_all-append pid len packing [] b = refl
packed_all-append pid len packing (x ∷ a) b = packed_all-append pid len (packed_one packing (pid x) (len x)) a b

-- a section of this PID begins in a packet of its own
abbrev pub IsFresh : ℕ → Packing → Type 0
IsFresh pid packing = (packing.used ≡ 0) ⊎ (packing.pid ≡ pid → Prim.⊥)

pub fresh-begins : (pid : ℕ) (packing : Packing) → IsFresh pid packing → (begins packing pid ≡ packets_so_far packing) × (taken packing pid ≡ 0)
fresh-begins pid packing (inl e) = go (packing.used == 0) (has_room packing pid) (eq-eqb packing.used 0 e)
  where
    go : (b c : Bool) → b ≡ true → ((if b then packing.closed else if c then packing.closed else packing.closed + 1) ≡ (if b then packing.closed else packing.closed + 1)) × ((if b then 0 else if c then packing.used else 0) ≡ 0)
    go true c e = (refl, refl)
    go false c e = cc
fresh-begins pid packing (inr n) = go (packing.used == 0) (packing.pid == pid) (nat_lt packing.used 183) (ne_eqb packing.pid pid n)
  where
    go : (b c d : Bool) → c ≡ false → ((if b then packing.closed else if c && d then packing.closed else packing.closed + 1) ≡ (if b then packing.closed else packing.closed + 1)) × ((if b then 0 else if c && d then packing.used else 0) ≡ 0)
    go true c d e = (refl, refl)
    go false true d e = cc
    go false false d e = (refl, refl)

-- from two such packings on, sections are packed alike
pub fresh-one : (pid len : ℕ) (a b : Packing) → IsFresh pid a → IsFresh pid b → (d : ℕ) → packets_so_far b ≡ d + packets_so_far a → Later d (packed_one a pid len) (packed_one b pid len)
fresh-one pid len a b h k d e =
    let x = fresh-begins pid a h in
    let y = fresh-begins pid b k in
    let xb = x.0 in
    let yb = y.0 in
    let t : taken b pid ≡ taken a pid = y.1 ∙ sym x.1 in
    let f = ap (λ (n : ℕ). (n + len) / 184) t in
    record { closed = omega arith; pid = refl; used = ap (λ (n : ℕ). used_at_end (n + len)) t }

pub fresh-place : (pid len : ℕ → ℕ) (a b : Packing) (y : ℕ) (ys : List ℕ) (x : ℕ) (xs : List ℕ) → y ∷ ys ≡ xs ++ x ∷ [] → IsFresh (pid y) a → IsFresh (pid y) b → (d : ℕ) → packets_so_far b ≡ d + packets_so_far a →
    begins (packed_all pid len b xs) (pid x) ≡ d + begins (packed_all pid len a xs) (pid x)
fresh-place pid len a b y ys x [] q h k d e =
    let s : y ≡ x = cc in
    let m = (fresh-begins (pid y) a h).0 in
    let n = (fresh-begins (pid y) b k).0 in
    let r : begins b (pid y) ≡ d + begins a (pid y) = omega arith in
    subst (λ (z : ℕ). begins b (pid z) ≡ d + begins a (pid z)) s r
fresh-place pid len a b y ys x (z ∷ xs) q h k d e =
    let s : y ≡ z = cc in
    let fa = subst (λ (w : ℕ). IsFresh (pid w) a) s h in
    let fb = subst (λ (w : ℕ). IsFresh (pid w) b) s k in
    later-begins d (packed_all pid len a (z ∷ xs)) (packed_all pid len b (z ∷ xs)) (later-all pid len d (packed_one a (pid z) (len z)) (packed_one b (pid z) (len z)) (fresh-one (pid z) (len z) a b fa fb d e) xs) (pid x)
