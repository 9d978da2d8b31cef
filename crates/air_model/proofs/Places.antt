-- Starts of packed sections as places in a list of sections, and as a total of packets.
use Rattle.std.proofs.Common.{◌≡◌, ℕ, ◌+◌, ◌<◌, ◌≤◌, List, [], ◌∷◌, ◌++◌, map, refl, sym, ap, ap₂, ◌∙◌, subst, arith, append_assoc}
use Rattle.std.specs.List.{AllByRecursion}
use Rattle.std.proofs.lemmas.List.{map-append}
use Rattle.si_lists.proofs.Lists.{all_map}
use Rattle.ts_packets.specs.Packets.{packets_of}
use Rattle.air_model.specs.Cutting.{packets_in}
use Rattle.air_model.specs.Cycle.{Planned}
use Rattle.air_model.specs.Packing.{Start, Packing, begins, packed_one, packed_all, packets_so_far, starts_dense, IsCounted}
use Rattle.air_model.specs.Spacing.{Lacks, Spaced}
use Rattle.air_model.proofs.Packings.{starts, all-more}

abbrev pub sections : List Start → List ℕ
sections starts = map (λ (t : Start). t.section) starts

-- where starts are cut at one of them, so are the sections
record CutAt (pid len : ℕ → ℕ) (packing : Packing) (xs : List ℕ) (before : List Start) (s : Start) (after : List Start) : Type 0 where
  pub are : xs ≡ sections before ++ s.section ∷ sections after
  pub packet : s.packet ≡ begins (packed_all pid len packing (sections before)) (pid s.section)

pub same_sections : (pid len : ℕ → ℕ) (packing : Packing) (xs : List ℕ) → sections (starts_dense pid len packing xs) ≡ xs
same_sections pid len packing [] = refl
same_sections pid len packing (x ∷ xs) = ap (λ (t : List ℕ). x ∷ t) (same_sections pid len (packed_one packing (pid x) (len x)) xs)

cut_at : (pid len : ℕ → ℕ) (packing : Packing) (xs : List ℕ) (before : List Start) (s : Start) (after : List Start) → starts_dense pid len packing xs ≡ before ++ s ∷ after → CutAt pid len packing xs before s after
cut_at pid len packing [] [] s after e = absurd (let b : Prim.⊥ = cc in b)
cut_at pid len packing [] (t ∷ before) s after e = absurd (let b : Prim.⊥ = cc in b)
cut_at pid len packing (x ∷ xs) [] s after e =
    let h : record { packet = begins packing (pid x); section = x } ≡ s = cc in
    let t : starts_dense pid len (packed_one packing (pid x) (len x)) xs ≡ after = cc in
    let a : x ≡ s.section = ap (λ (r : Start). r.section) h in
    record {
      are = ap₂ (λ (m : ℕ) (ms : List ℕ). m ∷ ms) a (sym (same_sections pid len (packed_one packing (pid x) (len x)) xs) ∙ ap sections t);
      packet = sym (ap (λ (r : Start). r.packet) h) ∙ ap (λ (m : ℕ). begins packing (pid m)) a;
    }
cut_at pid len packing (x ∷ xs) (t ∷ before) s after e =
    let h : record { packet = begins packing (pid x); section = x } ≡ t = cc in
    let r : starts_dense pid len (packed_one packing (pid x) (len x)) xs ≡ before ++ s ∷ after = cc in
    let a : x ≡ t.section = ap (λ (r : Start). r.section) h in
    let c = cut_at pid len (packed_one packing (pid x) (len x)) xs before s after r in
    record {
      are = ap₂ (λ (m : ℕ) (ms : List ℕ). m ∷ ms) a c.are;
      packet = c.packet ∙ ap (λ (m : ℕ). begins (packed_all pid len (packed_one packing (pid m) (len m)) (sections before)) (pid s.section)) a;
    }

pub lacks_sections : (x : ℕ) (starts : List Start) → AllByRecursion (λ (s : Start). s.section ≡ x → Prim.⊥) starts → Lacks x (sections starts)
lacks_sections x [] h = tt
lacks_sections x (s ∷ starts) h = (h.0, lacks_sections x starts h.1)

-- a bound on the packets from where one x begins to where the next does is one on the starts
pub spaced_by : (pid len : ℕ → ℕ) (packing : Packing) (bound x : ℕ) (xs : List ℕ) →
    ((before gap after : List ℕ) → xs ≡ before ++ x ∷ (gap ++ x ∷ after) → Lacks x gap → begins (packed_all pid len packing (before ++ x ∷ gap)) (pid x) ≤ begins (packed_all pid len packing before) (pid x) + bound) →
    Spaced bound x (starts_dense pid len packing xs)
spaced_by pid len packing bound x xs h before between after one two e i j l =
    let c = cut_at pid len packing xs before one (between ++ two ∷ after) e in
    let d = cut_at pid len packing xs (before ++ one ∷ between) two after (e ∙ sym (append_assoc before (one ∷ between) (two ∷ after))) in
    let f : sections (before ++ one ∷ between) ≡ sections before ++ x ∷ sections between = map-append (λ (t : Start). t.section) before (one ∷ between) ∙ ap (λ (m : ℕ). sections before ++ m ∷ sections between) i in
    let g : xs ≡ sections before ++ x ∷ (sections between ++ x ∷ sections after) =
    c.are ∙ ap₂ (λ (m : ℕ) (ms : List ℕ). sections before ++ m ∷ ms) i (map-append (λ (t : Start). t.section) between (two ∷ after) ∙ ap (λ (m : ℕ). sections between ++ m ∷ sections after) j) in
    let k = h (sections before) (sections between) (sections after) g (lacks_sections x between l) in
    let p : two.packet ≡ begins (packed_all pid len packing (sections before ++ x ∷ sections between)) (pid x) = d.packet ∙ ap₂ (λ (m : List ℕ) (y : ℕ). begins (packed_all pid len packing m) (pid y)) f j in
    let q : one.packet ≡ begins (packed_all pid len packing (sections before)) (pid x) = c.packet ∙ ap (λ (y : ℕ). begins (packed_all pid len packing (sections before)) (pid y)) i in
    omega arith

pub starts_dense-append : (pid len : ℕ → ℕ) (packing : Packing) (a b : List ℕ) → starts_dense pid len packing (a ++ b) ≡ starts_dense pid len packing a ++ starts_dense pid len (packed_all pid len packing a) b
starts_dense-append pid len packing [] b = refl
starts_dense-append pid len packing (x ∷ a) b = ap (λ (t : List Start). record { packet = begins packing (pid x); section = x } ∷ t) (starts_dense-append pid len (packed_one packing (pid x) (len x)) a b)

-- what holds of starts holds of their front
pub spaced-front : (bound x : ℕ) (a b : List Start) → Spaced bound x (a ++ b) → Spaced bound x a
spaced-front bound x a b h before between after one two e =
    h before between (after ++ b) one two (ap (λ (t : List Start). t ++ b) e ∙ append_assoc before (one ∷ (between ++ two ∷ after)) b ∙ ap (λ (t : List Start). before ++ one ∷ t) (append_assoc between (two ∷ after) b))

-- ---- sections take no more packets than are planned

same_packets : (f g : ℕ → ℕ) (xs : List ℕ) → AllByRecursion (λ (i : ℕ). f i ≡ g i) xs → packets_in f xs ≡ packets_in g xs
same_packets f g [] h = refl
same_packets f g (x ∷ xs) h = ap₂ (λ (a b : ℕ). a + b) h.0 (same_packets f g xs h.1)

abbrev pub AllPlanned : Planned → List ℕ → Type 0
AllPlanned p xs = AllByRecursion (λ (i : ℕ). i < p.fasts + p.nears + p.fars) xs

pub planned-more : (p : Planned) (pid len : ℕ → ℕ) → IsCounted p len → (packing : Packing) (xs : List ℕ) → AllPlanned p xs → packets_so_far (packed_all pid len packing xs) ≤ packets_so_far packing + packets_in p.size xs
planned-more p pid len counted packing xs h =
    let a = all-more pid len packing xs (all_map (λ (i : ℕ). i < p.fasts + p.nears + p.fars) (λ (i : ℕ). 0 < len i) counted.some xs h) in
    let e = same_packets p.size (λ i. packets_of (len i)) xs (all_map (λ (i : ℕ). i < p.fasts + p.nears + p.fars) (λ (i : ℕ). p.size i ≡ packets_of (len i)) counted.size xs h) in
    omega arith

-- ---- starts that keep to a total: each lies at most one packet below it, and its section adds no more than its packets

abbrev pub Tracked : (ℕ → ℕ) → ℕ → List Start → ℕ → Type 0
Tracked size t [] end = t ≡ end
Tracked size t (s ∷ starts) end = (s.packet ≤ t) × (t ≤ s.packet + 1) × ((u : ℕ) × (u ≤ t + size s.section) × Tracked size u starts end)

pub tracked-append : (size : ℕ → ℕ) (t u v : ℕ) (a b : List Start) → Tracked size t a u → Tracked size u b v → Tracked size t (a ++ b) v
tracked-append size t u v [] b h k = subst (λ (w : ℕ). Tracked size w b v) (sym h) k
tracked-append size t u v (s ∷ a) b h k = (h.0, h.1, (h.2.0, h.2.1, tracked-append size h.2.0 u v a b h.2.2 k))

pub tracked-dense : (p : Planned) (pid len : ℕ → ℕ) → IsCounted p len → (packing : Packing) (xs : List ℕ) → AllPlanned p xs → Tracked p.size (packets_so_far packing) (starts_dense pid len packing xs) (packets_so_far (packed_all pid len packing xs))
tracked-dense p pid len counted packing [] h = refl
tracked-dense p pid len counted packing (x ∷ xs) h =
    let s = starts packing (pid x) in
    let o = planned-more p pid len counted packing (x ∷ []) (h.0, tt) in (
      s.at_total,
      s.near_total,
      (
        packets_so_far (packed_one packing (pid x) (len x)),
        (let l : packets_so_far (packed_one packing (pid x) (len x)) ≤ packets_so_far packing + p.size x = omega arith in l),
        tracked-dense p pid len counted (packed_one packing (pid x) (len x)) xs h.1,
      ),
    )

-- so two starts are at most the packets between them, and one more, apart
tracked-on : (size : ℕ → ℕ) (t end : ℕ) (between after : List Start) (two : Start) → Tracked size t (between ++ two ∷ after) end → two.packet ≤ t + packets_in size (sections between)
tracked-on size t end [] after two h = let l = h.0 in omega arith
tracked-on size t end (s ∷ between) after two h =
    let i = tracked-on size h.2.0 end between after two h.2.2 in
    let l = h.2.1 in
    omega arith

pub tracked-apart : (size : ℕ → ℕ) (t end : ℕ) (before between after : List Start) (one two : Start) → Tracked size t (before ++ one ∷ (between ++ two ∷ after)) end → two.packet ≤ one.packet + 1 + (size one.section + packets_in size (sections between))
tracked-apart size t end [] between after one two h =
    let i = tracked-on size h.2.0 end between after two h.2.2 in
    let l = h.1 in
    let m = h.2.1 in
    omega arith
tracked-apart size t end (s ∷ before) between after one two h = tracked-apart size h.2.0 end before between after one two h.2.2
