-- The bounds over packed sections.
use Rattle.std.proofs.Common.{◌≡◌, ℕ, zero, suc, ◌+◌, ◌<◌, ◌≤◌, ◌⊎◌, inl, inr, List, [], ◌∷◌, ◌++◌, refl, sym, ap, ap₂, ◌∙◌, subst, arith, append_assoc, append-nil}
use Rattle.std.specs.List.{AllByRecursion}
use Rattle.std.proofs.lemmas.List.{map-append}
use Rattle.si_lists.proofs.Lists.{all_append, all_front, all_behind, all_at}
use Rattle.section_codec.specs.Contents.{numbers_from}
use Rattle.air_model.specs.Cutting.{packets_in, cut, AreParts, IsPart}
use Rattle.air_model.specs.Cycle.{Planned, at_least_one, led, fast_of, body_of, runs_of, cycle_of}
use Rattle.air_model.specs.Packing.{Start, Packing, begun_at, begins, packed_one, packed_all, packets_so_far, starts_dense, starts_of_cycles, IsCounted, IsPacked}
use Rattle.air_model.specs.Spacing.{Lacks, Spaced, fast_bound, near_bound, AreSpaced, IsWithinLimits, CyclesAreSpaced, NearIsSpaced}
use Rattle.air_model.proofs.Lists.{packets-append, all-numbers}
use Rattle.air_model.proofs.Cuts.{is_cut}
use Rattle.air_model.proofs.Tiers.{tiers}
use Rattle.air_model.proofs.Order.{cycles_are_whole}
use Rattle.air_model.proofs.Gaps.{FastGap, fast_gap, fast_gap-packets, near_gap}
use Rattle.air_model.proofs.Packings.{Later, later-begins, later-one, IsFresh, fresh-begins, fresh-one, fresh-place, packed_all-append}
use Rattle.air_model.proofs.Places.{sections, same_sections, lacks_sections, spaced_by, starts_dense-append, spaced-front, AllPlanned, planned-more, Tracked, tracked-append, tracked-dense, tracked-apart}

-- ---- by a total: a section whose gaps have a packet to spare

by_total : (p : Planned) (pid len : ℕ → ℕ) → IsCounted p len → (n bound x : ℕ) →
    ((before gap after : List ℕ) → cycle_of p ++ cycle_of p ≡ before ++ x ∷ (gap ++ x ∷ after) → Lacks x gap → p.size x + packets_in p.size gap < bound) →
    Spaced bound x (starts_of_cycles pid len n (cycle_of p ∷ cycle_of p ∷ []))
by_total p pid len counted n bound x few before between after one two e i j h =
    let c = cycle_of p in
    let k = packets_so_far (packed_all pid len (begun_at n) c) in
    let first = starts_dense pid len (begun_at n) c in
    let second = starts_dense pid len (begun_at k) c in
    let end = packets_so_far (packed_all pid len (begun_at k) c) in
    let known : AllPlanned p c = (cycles_are_whole p).known in
    let last : Tracked p.size k (second ++ []) end = subst (λ (t : List Start). Tracked p.size k t end) (sym (append-nil second)) (tracked-dense p pid len counted (begun_at k) c known) in
    let all : Tracked p.size n (first ++ (second ++ [])) end = tracked-append p.size n k end first (second ++ []) (tracked-dense p pid len counted (begun_at n) c known) last in
    let apart = tracked-apart p.size n end before between after one two (subst (λ (t : List Start). Tracked p.size n t end) e all) in
    let f : c ++ c ≡ sections before ++ x ∷ (sections between ++ x ∷ sections after) =
    ap₂ (λ (a b : List ℕ). a ++ b) (sym (same_sections pid len (begun_at n) c)) (sym (same_sections pid len (begun_at k) c))
    ∙ ap (λ (t : List Start). sections first ++ sections t) (sym (append-nil second)) ∙ sym (map-append (λ (t : Start). t.section) first (second ++ [])) ∙ ap sections e
    ∙ map-append (λ (t : Start). t.section) before (one ∷ (between ++ two ∷ after))
    ∙ ap₂ (λ (y : ℕ) (t : List ℕ). sections before ++ y ∷ t) i (map-append (λ (t : Start). t.section) between (two ∷ after) ∙ ap (λ (y : ℕ). sections between ++ y ∷ sections after) j) in
    let g = few (sections before) (sections between) (sections after) f (lacks_sections x between h) in
    let q : p.size one.section ≡ p.size x = ap p.size i in
    omega arith

pub near_is_spaced : NearIsSpaced
near_is_spaced p is pid len counted n x l m = by_total p pid len counted n (near_bound p) x (near_gap p is x l m)

-- ---- by runs: where each ends on another PID than the first section has, each begins with a packet of its own

record EndsOff (pid : ℕ → ℕ) (c : List ℕ) : Type 0 where
  pub front : List ℕ
  pub last : ℕ
  pub are : c ≡ front ++ last ∷ []
  pub off : pid last ≡ pid 0 → Prim.⊥

abbrev AllOff : (ℕ → ℕ) → List ℕ → Type 0
AllOff pid c = AllByRecursion (λ (i : ℕ). pid i ≡ pid 0 → Prim.⊥) c

ends_off : (pid : ℕ → ℕ) (size : ℕ → ℕ) (wanted : ℕ) (c : List ℕ) → IsPart size wanted c → AllOff pid c → EndsOff pid c
ends_off pid size wanted c is h = record {
  front = is.front;
  last = is.last;
  are = is.are;
  off = (all_behind (λ (i : ℕ). pid i ≡ pid 0 → Prim.⊥) is.front (is.last ∷ []) (subst (AllOff pid) is.are h)).0;
}

all_end_off : (pid : ℕ → ℕ) (size : ℕ → ℕ) (least : ℕ) (parts : List (List ℕ)) → AreParts size least least parts → AllByRecursion (AllOff pid) parts → AllByRecursion (EndsOff pid) parts
all_end_off pid size least [] is h = tt
all_end_off pid size least (c ∷ []) is h = (ends_off pid size least c is.0 h.0, tt)
all_end_off pid size least (c ∷ d ∷ parts) is h = (ends_off pid size least c is.0 h.0, all_end_off pid size least (d ∷ parts) is.2 h.1)

-- there is no body, or so it is of all runs
runs_end_off : (p : Planned) → IsWithinLimits p → (pid len : ℕ → ℕ) → IsPacked p pid len → (runs_of p ≡ [] ∷ []) ⊎ AllByRecursion (EndsOff pid) (runs_of p)
runs_end_off p is pid len packed = go (cut p.size p.quota (body_of p)) (is_cut p.size p.quota (body_of p) is.some_quota).each (tiers (λ (i : ℕ). pid i ≡ pid 0 → Prim.⊥) p packed.ends).runs
  where
    go : (parts : List (List ℕ)) → AreParts p.size p.quota p.quota parts → AllByRecursion (AllOff pid) (at_least_one parts) → (at_least_one parts ≡ [] ∷ []) ⊎ AllByRecursion (EndsOff pid) (at_least_one parts)
    go [] are h = inl refl
    go (c ∷ parts) are h = inr (all_end_off pid p.size p.quota (c ∷ parts) are h)

fresh-part : (pid len : ℕ → ℕ) (packing : Packing) (lead c : List ℕ) → EndsOff pid c → IsFresh (pid 0) (packed_all pid len packing (lead ++ c))
fresh-part pid len packing lead c o =
    let e : packed_all pid len packing (lead ++ c) ≡ packed_one (packed_all pid len packing (lead ++ o.front)) (pid o.last) (len o.last) =
    ap (λ (s : List ℕ). packed_all pid len packing (lead ++ s)) o.are ∙ ap (packed_all pid len packing) (sym (append_assoc lead o.front (o.last ∷ []))) ∙ packed_all-append pid len packing (lead ++ o.front) (o.last ∷ []) in
    subst (IsFresh (pid 0)) (sym e) (inr o.off)

fresh-led : (pid len : ℕ → ℕ) (packing : Packing) (lead : List ℕ) (parts : List (List ℕ)) → AllByRecursion (EndsOff pid) parts → IsFresh (pid 0) packing → IsFresh (pid 0) (packed_all pid len packing (led lead parts))
fresh-led pid len packing lead [] h f = f
fresh-led pid len packing lead (c ∷ parts) h f =
    subst (IsFresh (pid 0)) (sym (packed_all-append pid len packing (lead ++ c) (led lead parts)))
    (fresh-led pid len (packed_all pid len packing (lead ++ c)) lead parts h.1 (fresh-part pid len packing lead c h.0))

first_number : (n : ℕ) → 0 < n → (more : List ℕ) × (numbers_from 0 n ≡ 0 ∷ more)
first_number zero h = absurd (omega arith)
first_number (suc n) h = (numbers_from 1 n, refl)

head_of : (front : List ℕ) (x : ℕ) (rest more : List ℕ) → 0 ∷ more ≡ front ++ x ∷ rest → (ys : List ℕ) × (0 ∷ ys ≡ front ++ x ∷ [])
head_of [] x rest more e = let s : 0 ≡ x = cc in ([], ap (λ (n : ℕ). n ∷ []) s)
head_of (z ∷ front) x rest more e = let s : 0 ≡ z = cc in (front ++ x ∷ [], ap (λ (n : ℕ). n ∷ (front ++ x ∷ [])) s)

-- a Fast section begins as far into a run as into the first one
in_run : (pid len : ℕ → ℕ) (packing : Packing) (front : List ℕ) (x : ℕ) (ys : List ℕ) → 0 ∷ ys ≡ front ++ x ∷ [] → IsFresh (pid 0) packing →
    begins (packed_all pid len packing front) (pid x) ≡ packets_so_far packing + begins (packed_all pid len (begun_at 0) front) (pid x)
in_run pid len packing front x ys e f = fresh-place pid len (begun_at 0) packing 0 ys x front e (inl refl) f (packets_so_far packing) (omega arith)

by_runs : (p : Planned) → IsWithinLimits p → (pid len : ℕ → ℕ) → IsCounted p len → AllByRecursion (EndsOff pid) (runs_of p) → (n x : ℕ) → x < p.fasts → (before gap : List ℕ) → FastGap p x before gap →
    begins (packed_all pid len (begun_at n) (before ++ x ∷ gap)) (pid x) ≤ begins (packed_all pid len (begun_at n) before) (pid x) + fast_bound p
by_runs p is pid len counted off n x some before gap g =
    let runs = runs_of p in
    let offs : AllByRecursion (EndsOff pid) (g.is.past ++ g.is.part ∷ g.is.more) = subst (AllByRecursion (EndsOff pid)) g.is.are (all_append (EndsOff pid) runs runs off off) in
    let lead : List ℕ = g.front ++ x ∷ g.rest in
    let one : Packing = packed_all pid len (begun_at n) (led lead g.is.past) in
    let two : Packing = packed_all pid len one (lead ++ g.is.part) in
    let f1 : IsFresh (pid 0) one = fresh-led pid len (begun_at n) lead g.is.past (all_front (EndsOff pid) g.is.past (g.is.part ∷ g.is.more) offs) (inl refl) in
    let f2 : IsFresh (pid 0) two = fresh-part pid len one lead g.is.part (all_at (EndsOff pid) g.is.past g.is.part g.is.more offs) in
    let i = first_number p.fasts (omega arith) in
    let h = head_of g.front x g.rest i.0 (sym i.1 ∙ g.fast) in
    let a : begins (packed_all pid len (begun_at n) before) (pid x) ≡ begins (packed_all pid len one g.front) (pid x) =
    ap (λ (s : List ℕ). begins (packed_all pid len (begun_at n) s) (pid x)) g.is.before_is ∙ ap (λ (s : Packing). begins s (pid x)) (packed_all-append pid len (begun_at n) (led lead g.is.past) g.front) in
    let e : before ++ x ∷ gap ≡ (led lead g.is.past ++ (lead ++ g.is.part)) ++ g.front =
    ap₂ (λ (s t : List ℕ). s ++ x ∷ t) g.is.before_is g.is.between_is ∙ regroup (led lead g.is.past) g.front g.rest g.is.part in
    let b : begins (packed_all pid len (begun_at n) (before ++ x ∷ gap)) (pid x) ≡ begins (packed_all pid len two g.front) (pid x) =
    ap (λ (s : List ℕ). begins (packed_all pid len (begun_at n) s) (pid x)) e
    ∙ ap (λ (s : Packing). begins s (pid x)) (packed_all-append pid len (begun_at n) (led lead g.is.past ++ (lead ++ g.is.part)) g.front ∙ ap (λ (s : Packing). packed_all pid len s g.front) (packed_all-append pid len (begun_at n) (led lead g.is.past) (lead ++ g.is.part))) in
    let r1 = in_run pid len one g.front x h.0 h.1 f1 in
    let r2 = in_run pid len two g.front x h.0 h.1 f2 in
    let P : ℕ → Type 0 = λ i. i < p.fasts + p.nears + p.fars in
    let in_runs : AllByRecursion (AllPlanned p) runs = (tiers P p (λ i l m. m)).runs in
    let known : AllPlanned p (lead ++ g.is.part) = all_append P lead g.is.part (subst (AllPlanned p) g.fast (all-numbers P 0 p.fasts (λ i l m. omega arith)))
    (all_at (AllPlanned p) g.is.past g.is.part g.is.more (subst (AllByRecursion (AllPlanned p)) g.is.are (all_append (AllPlanned p) runs runs in_runs in_runs))) in
    let m : packets_so_far two ≤ packets_so_far one + packets_in p.size (lead ++ g.is.part) = planned-more p pid len counted one (lead ++ g.is.part) known in
    let c : packets_in p.size (lead ++ g.is.part) ≡ packets_in p.size lead + packets_in p.size g.is.part = packets-append p.size lead g.is.part in
    let q : packets_in p.size (fast_of p) ≡ packets_in p.size lead = ap (packets_in p.size) g.fast in
    sum_up (begins (packed_all pid len (begun_at n) before) (pid x)) (begins (packed_all pid len (begun_at n) (before ++ x ∷ gap)) (pid x)) (begins (packed_all pid len one g.front) (pid x)) (begins (packed_all pid len two g.front) (pid x)) (packets_so_far one) (packets_so_far two) (begins (packed_all pid len (begun_at 0) g.front) (pid x))
    (packets_in p.size (lead ++ g.is.part)) (packets_in p.size lead) (packets_in p.size g.is.part) (packets_in p.size (fast_of p)) p.quota a b r1 r2 m g.small c q
  where
    regroup : (u front rest part : List ℕ) → (u ++ front) ++ x ∷ ((rest ++ part) ++ front) ≡ (u ++ ((front ++ x ∷ rest) ++ part)) ++ front
    regroup u front rest part = simp append_assoc

    sum_up : (pl pl' b1 b2 s1 s2 k lp l pt f quota : ℕ) → pl ≡ b1 → pl' ≡ b2 → b1 ≡ s1 + k → b2 ≡ s2 + k → s2 ≤ s1 + lp → pt ≤ quota + 22 → lp ≡ l + pt → f ≡ l → pl' ≤ pl + (f + quota + 22)
    sum_up pl pl' b1 b2 s1 s2 k lp l pt f quota e1 e2 e3 e4 e5 e6 e7 e8 = omega arith

-- ---- the packet begun at the end of a cycle is not shared anyway

alike : (pid len : ℕ → ℕ) (a b : Packing) → Later 0 a b → (xs : List ℕ) → starts_dense pid len a xs ≡ starts_dense pid len b xs
alike pid len a b l [] = refl
alike pid len a b l (x ∷ xs) =
    let e = later-begins 0 a b l (pid x) in
    ap₂ (λ (n : ℕ) (t : List Start). record { packet = n; section = x } ∷ t) (let h : begins a (pid x) ≡ begins b (pid x) = omega arith in h)
    (alike pid len (packed_one a (pid x) (len x)) (packed_one b (pid x) (len x)) (later-one 0 a b l (pid x) (len x)) xs)

alike-fresh : (pid len : ℕ → ℕ) (a b : Packing) (y : ℕ) (ys : List ℕ) → IsFresh (pid y) a → IsFresh (pid y) b → packets_so_far a ≡ packets_so_far b → starts_dense pid len a (y ∷ ys) ≡ starts_dense pid len b (y ∷ ys)
alike-fresh pid len a b y ys f g e =
    let m = (fresh-begins (pid y) a f).0 in
    let n = (fresh-begins (pid y) b g).0 in
    ap₂ (λ (k : ℕ) (t : List Start). record { packet = k; section = y } ∷ t) (m ∙ e ∙ sym n)
    (alike pid len (packed_one a (pid y) (len y)) (packed_one b (pid y) (len y)) (fresh-one (pid y) (len y) a b f g 0 (let h : packets_so_far b ≡ 0 + packets_so_far a = omega arith in h)) ys)

begins_first : (fast : List ℕ) (more : List ℕ) (parts : List (List ℕ)) → fast ≡ 0 ∷ more → (led fast parts ≡ []) ⊎ ((ys : List ℕ) × (led fast parts ≡ 0 ∷ ys))
begins_first fast more [] e = inl refl
begins_first fast more (c ∷ parts) e = inr ((more ++ c) ++ led fast parts, ap (λ (f : List ℕ). (f ++ c) ++ led fast parts) e)

joined_cycles : (p : Planned) (pid len : ℕ → ℕ) → AllByRecursion (EndsOff pid) (runs_of p) → 0 < p.fasts → (n : ℕ) → starts_of_cycles pid len n (cycle_of p ∷ cycle_of p ∷ []) ≡ starts_dense pid len (begun_at n) (cycle_of p ++ cycle_of p)
joined_cycles p pid len off some n =
    let c = cycle_of p in
    let one = packed_all pid len (begun_at n) c in
    let i = first_number p.fasts some in
    let f : IsFresh (pid 0) one = fresh-led pid len (begun_at n) (fast_of p) (runs_of p) off (inl refl) in
    let same : starts_dense pid len (begun_at (packets_so_far one)) c ≡ starts_dense pid len one c = elim (begins_first (fast_of p) i.0 (runs_of p) i.1) [
      | inl e ↦ ap (starts_dense pid len (begun_at (packets_so_far one))) e ∙ sym (ap (starts_dense pid len one) e)
      | inr e ↦ ap (starts_dense pid len (begun_at (packets_so_far one))) e.1 ∙ alike-fresh pid len (begun_at (packets_so_far one)) one 0 e.0 (inl refl) f refl ∙ sym (ap (starts_dense pid len one) e.1)
    ] in
    ap (λ (t : List Start). starts_dense pid len (begun_at n) c ++ t) (append-nil (starts_dense pid len (begun_at (packets_so_far one)) c) ∙ same) ∙ sym (starts_dense-append pid len (begun_at n) c c)

fast_is_spaced : (p : Planned) → IsWithinLimits p → (pid len : ℕ → ℕ) → IsPacked p pid len → (n x : ℕ) → x < p.fasts → Spaced (fast_bound p) x (starts_of_cycles pid len n (cycle_of p ∷ cycle_of p ∷ []))
fast_is_spaced p is pid len packed n x l = go (runs_end_off p is pid len packed)
  where
    -- without a body a gap has Fast alone
    no_body : (runs_of p ≡ [] ∷ []) → (before gap : List ℕ) → FastGap p x before gap → p.size x + packets_in p.size gap < fast_bound p
    no_body e before gap g =
        let P : List ℕ → Type 0 = λ c. packets_in p.size c ≡ 0 in
        let none : AllByRecursion P (runs_of p) = subst (AllByRecursion P) (sym e) (refl, tt) in
        let nil : packets_in p.size g.is.part ≡ 0 = all_at P g.is.past g.is.part g.is.more (subst (AllByRecursion P) g.is.are (all_append P (runs_of p) (runs_of p) none none)) in
        let k = fast_gap-packets p x before gap g in
        omega arith

    go : (runs_of p ≡ [] ∷ []) ⊎ AllByRecursion (EndsOff pid) (runs_of p) → Spaced (fast_bound p) x (starts_of_cycles pid len n (cycle_of p ∷ cycle_of p ∷ []))
    go (inl e) = by_total p pid len packed.counted n (fast_bound p) x (λ before gap after f h. no_body e before gap (fast_gap p is x l before gap after f h))
    go (inr off) = subst (Spaced (fast_bound p) x) (sym (joined_cycles p pid len off (omega arith) n))
        (spaced_by pid len (begun_at n) (fast_bound p) x (cycle_of p ++ cycle_of p) (λ before gap after f h. by_runs p is pid len packed.counted off n x l before gap (fast_gap p is x l before gap after f h)))

pub cycles_are_spaced : CyclesAreSpaced
cycles_are_spaced p is pid len packed n = record { fast = fast_is_spaced p is pid len packed n; near = near_is_spaced p is pid len packed.counted n }

-- ---- one cycle

pub one_cycle_is_spaced : (p : Planned) → IsWithinLimits p → (pid len : ℕ → ℕ) → IsPacked p pid len → (n : ℕ) → AreSpaced p (starts_of_cycles pid len n (cycle_of p ∷ []))
one_cycle_is_spaced p is pid len packed n =
    let c = cycle_of p in
    let two = cycles_are_spaced p is pid len packed n in
    let first : List Start = starts_dense pid len (begun_at n) c in
    let second : List Start = starts_of_cycles pid len (packets_so_far (packed_all pid len (begun_at n) c)) (c ∷ []) in
    subst (AreSpaced p) (sym (append-nil first)) (record { fast = λ x l. spaced-front (fast_bound p) x first second (two.fast x l); near = λ x l m. spaced-front (near_bound p) x first second (two.near x l m) })
