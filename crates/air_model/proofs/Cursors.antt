-- The steps of cursors through a cycle, and where they begin.
use Rattle.std.proofs.Common.{◌≡◌, ℕ, zero, suc, ◌+◌, ◌-◌, ◌<◌, ◌≤◌, List, [], ◌∷◌, ◌++◌, Bool, true, false, cond, length, map, refl, sym, ap, ap₂, ◌∙◌, arith, append_assoc, append-nil}
use Rattle.std.specs.Prelude.{if◌then◌else◌, nat_le, slice_index, count_by}
use Rattle.std.proofs.lemmas.List.{length-map}
use Rattle.std.proofs.lemmas.List.Sums.{sum_by-cons}
use Rattle.section_codec.specs.declared.table.Tier3.{Tier3}
use Rattle.section_codec.specs.declared.table.Tier3.TheVariants.{Fast, Near, Far}
use Rattle.section_codec.specs.Contents.{numbers_from}
use Rattle.air_model.specs.Cutting.{packets_in, in_front, cut_from, cut}
use Rattle.air_model.specs.Cycle.{Planned, at_least_one, led, fast_of, near_of, far_of, body_of, cycle_of}
use Rattle.air_model.specs.Sections.{is_fast, is_near, planned}
use Rattle.air_model.specs.Cursor.{upto, threaded}
use Rattle.std.proofs.lemmas.Bool.{le-leb, lt-leb}

-- ---- steps

pub upto-step : (a b : ℕ) → a < b → upto a b ≡ a ∷ upto (a + 1) b
upto-step a b h = ap (numbers_from a) (let e : b - a ≡ suc (b - (a + 1)) = omega arith in e) ∙ ap (λ (n : ℕ). a ∷ numbers_from n (b - (a + 1))) (let e : 1 + a ≡ a + 1 = omega arith in e)

pub upto-none : (a b : ℕ) → b ≤ a → upto a b ≡ []
upto-none a b h = ap (numbers_from a) (let e : b - a ≡ 0 = omega arith in e)

threaded-less : (size : ℕ → ℕ) (lead : List ℕ) (least wanted x : ℕ) (xs : List ℕ) → size x < wanted → threaded size lead least wanted (x ∷ xs) ≡ x ∷ threaded size lead least (wanted - size x) xs
threaded-less size lead least wanted x [] h = refl
threaded-less size lead least wanted x (y ∷ xs) h =
    ap (λ (b : Bool). x ∷ (if b then lead ++ threaded size lead least least (y ∷ xs) else threaded size lead least (wanted - size x) (y ∷ xs))) (lt-leb wanted (size x) h)

threaded-full : (size : ℕ → ℕ) (lead : List ℕ) (least wanted x y : ℕ) (xs : List ℕ) → wanted ≤ size x → threaded size lead least wanted (x ∷ y ∷ xs) ≡ x ∷ (lead ++ threaded size lead least least (y ∷ xs))
threaded-full size lead least wanted x y xs h =
    ap (λ (b : Bool). x ∷ (if b then lead ++ threaded size lead least least (y ∷ xs) else threaded size lead least (wanted - size x) (y ∷ xs))) (le-leb wanted (size x) h)

-- a section of the lead
pub lead-step : (r : List ℕ) (a b : ℕ) (t : List ℕ) → r ≡ upto a b ++ t → a < b → r ≡ a ∷ (upto (a + 1) b ++ t)
lead-step r a b t e h = e ∙ ap (λ (s : List ℕ). s ++ t) (upto-step a b h)

-- a section behind it that is not enough,
pub part-less : (r : List ℕ) (size : ℕ → ℕ) (lead : List ℕ) (least wanted lead_at lead_end at end k : ℕ) → r ≡ upto lead_at lead_end ++ threaded size lead least wanted (upto at end) → lead_end ≤ lead_at → at < end → k ≡ size at → k < wanted →
    r ≡ at ∷ (upto lead_at lead_end ++ threaded size lead least (wanted - k) (upto (at + 1) end))
part-less r size lead least wanted lead_at lead_end at end k e n h s l =
    e ∙ ap₂ (λ (u v : List ℕ). u ++ threaded size lead least wanted v) (upto-none lead_at lead_end n) (upto-step at end h)
    ∙ threaded-less size lead least wanted at (upto (at + 1) end) (let t : size at < wanted = omega arith in t)
    ∙ ap₂ (λ (u : List ℕ) (m : ℕ). at ∷ (u ++ threaded size lead least (wanted - m) (upto (at + 1) end))) (sym (upto-none lead_at lead_end n)) (sym s)

-- and one that is, where more sections follow
pub part-full : (r : List ℕ) (size : ℕ → ℕ) (lead : List ℕ) (least wanted lead_at lead_end at end k : ℕ) → r ≡ upto lead_at lead_end ++ threaded size lead least wanted (upto at end) → lead_end ≤ lead_at → at + 1 < end → k ≡ size at → wanted ≤ k →
    r ≡ at ∷ (lead ++ threaded size lead least least (upto (at + 1) end))
part-full r size lead least wanted lead_at lead_end at end k e n h s l =
    let d : upto at end ≡ at ∷ (at + 1) ∷ upto (at + 1 + 1) end = upto-step at end (omega arith) ∙ ap (λ (t : List ℕ). at ∷ t) (upto-step (at + 1) end h) in
    e ∙ ap₂ (λ (u v : List ℕ). u ++ threaded size lead least wanted v) (upto-none lead_at lead_end n) d
    ∙ threaded-full size lead least wanted at (at + 1) (upto (at + 1 + 1) end) (let t : wanted ≤ size at = omega arith in t)
    ∙ ap (λ (v : List ℕ). at ∷ (lead ++ threaded size lead least least v)) (sym (upto-step (at + 1) end h))

-- ---- the cursor's form of a cut with leads

-- the parts of a cut with what leads each, but what leads the first
abbrev untied : List ℕ → List (List ℕ) → List ℕ
untied lead [] = []
untied lead (c ∷ parts) = c ++ led lead parts

led-one : (lead : List ℕ) (parts : List (List ℕ)) → led lead (at_least_one parts) ≡ lead ++ untied lead parts
led-one lead [] = append-nil (lead ++ [])
led-one lead (c ∷ parts) = append_assoc lead c (led lead parts)

led-cut : (size : ℕ → ℕ) (lead : List ℕ) (least wanted x : ℕ) (xs : List ℕ) → led lead (cut_from size least wanted (x ∷ xs)) ≡ lead ++ untied lead (cut_from size least wanted (x ∷ xs))
led-cut size lead least wanted x xs = go (nat_le wanted (size x))
  where
    joins : (parts : List (List ℕ)) → led lead (in_front x parts) ≡ lead ++ untied lead (in_front x parts)
    joins [] = append_assoc lead (x ∷ []) []
    joins (c ∷ parts) = append_assoc lead (x ∷ c) (led lead parts)

    go : (b : Bool) → led lead (if b then (x ∷ []) ∷ cut_from size least least xs else in_front x (cut_from size least (wanted - size x) xs)) ≡ lead ++ untied lead (if b then (x ∷ []) ∷ cut_from size least least xs else in_front x (cut_from size least (wanted - size x) xs))
    go true = append_assoc lead (x ∷ []) (led lead (cut_from size least least xs))
    go false = joins (cut_from size least (wanted - size x) xs)

untied-in_front : (lead : List ℕ) (x : ℕ) (parts : List (List ℕ)) → untied lead (in_front x parts) ≡ x ∷ untied lead parts
untied-in_front lead x [] = refl
untied-in_front lead x (c ∷ parts) = refl

untied-cut : (size : ℕ → ℕ) (lead : List ℕ) (least wanted : ℕ) (xs : List ℕ) → untied lead (cut_from size least wanted xs) ≡ threaded size lead least wanted xs
untied-cut size lead least wanted [] = refl
untied-cut size lead least wanted (x ∷ []) = go (nat_le wanted (size x))
  where
    go : (b : Bool) → untied lead (if b then (x ∷ []) ∷ [] else (x ∷ []) ∷ []) ≡ x ∷ []
    go true = refl
    go false = refl
untied-cut size lead least wanted (x ∷ y ∷ xs) = go (nat_le wanted (size x)) (untied-cut size lead least least (y ∷ xs)) (untied-cut size lead least (wanted - size x) (y ∷ xs))
  where
    go : (b : Bool) → untied lead (cut_from size least least (y ∷ xs)) ≡ threaded size lead least least (y ∷ xs) → untied lead (cut_from size least (wanted - size x) (y ∷ xs)) ≡ threaded size lead least (wanted - size x) (y ∷ xs) →
        untied lead (if b then (x ∷ []) ∷ cut_from size least least (y ∷ xs) else in_front x (cut_from size least (wanted - size x) (y ∷ xs)))
        ≡ x ∷ (if b then lead ++ threaded size lead least least (y ∷ xs) else threaded size lead least (wanted - size x) (y ∷ xs))
    go true e f = ap (λ (t : List ℕ). x ∷ t) (led-cut size lead least least y xs ∙ ap (λ (t : List ℕ). lead ++ t) e)
    go false e f = untied-in_front lead x (cut_from size least (wanted - size x) (y ∷ xs)) ∙ ap (λ (t : List ℕ). x ∷ t) f

led-threaded : (size : ℕ → ℕ) (lead : List ℕ) (least : ℕ) (xs : List ℕ) → led lead (at_least_one (cut size least xs)) ≡ lead ++ threaded size lead least least xs
led-threaded size lead least xs = led-one lead (cut size least xs) ∙ ap (λ (t : List ℕ). lead ++ t) (untied-cut size lead least least xs)

-- where the cursors begin, the cycle is still to come
whole : (p : Planned) → (end : ℕ) → end ≡ p.fasts + p.nears + p.fars → (least : ℕ) → least ≡ packets_in p.size (near_of p) →
    upto 0 p.fasts ++ threaded p.size (upto 0 p.fasts) p.quota p.quota (upto p.fasts (p.fasts + p.nears) ++ threaded p.size (upto p.fasts (p.fasts + p.nears)) least least (upto (p.fasts + p.nears) end)) ≡ cycle_of p
whole p end ends least leasts =
    ap₂ (λ (f n : List ℕ). f ++ threaded p.size f p.quota p.quota (n ++ threaded p.size n least least (upto (p.fasts + p.nears) end)))
    (ap (numbers_from 0) (let e : p.fasts - 0 ≡ p.fasts = omega arith in e)) (ap (numbers_from p.fasts) (let e : (p.fasts + p.nears) - p.fasts ≡ p.nears = omega arith in e))
    ∙ ap₂ (λ (f : List ℕ) (l : ℕ). fast_of p ++ threaded p.size (fast_of p) p.quota p.quota (near_of p ++ threaded p.size (near_of p) l l f))
    (ap (numbers_from (p.fasts + p.nears)) (let e : end - (p.fasts + p.nears) ≡ p.fars = omega arith in e)) leasts
    ∙ ap (λ (b : List ℕ). fast_of p ++ threaded p.size (fast_of p) p.quota p.quota b) (sym (led-threaded p.size (near_of p) (packets_in p.size (near_of p)) (far_of p)))
    ∙ sym (led-threaded p.size (fast_of p) p.quota (body_of p))

-- ---- what a planner is given

pub packets-more : (size : ℕ → ℕ) (a k : ℕ) → packets_in size (numbers_from a (k + 1)) ≡ packets_in size (numbers_from a k) + size (a + k)
packets-more size a zero = ap (λ (n : ℕ). size n + 0) (let e : a ≡ a + 0 = omega arith in e) ∙ (let e : size (a + 0) + 0 ≡ 0 + size (a + 0) = omega arith in e)
packets-more size a (suc k) =
    ap (λ (n : ℕ). packets_in size (numbers_from a n)) (let e : suc k + 1 ≡ suc (k + 1) = omega arith in e)
    ∙ ap (λ (n : ℕ). size a + n) (packets-more size (1 + a) k) ∙ ap (λ (m : ℕ). size a + (packets_in size (numbers_from (1 + a) k) + size m)) (let e : 1 + a + k ≡ a + suc k = omega arith in e)
    ∙ (let e : size a + (packets_in size (numbers_from (1 + a) k) + size (a + suc k)) ≡ size a + packets_in size (numbers_from (1 + a) k) + size (a + suc k) = omega arith in e)

one_tier : (t : Tier3) → (cond (is_fast t) 1 0) + (cond (is_near t) 1 0) ≤ 1
one_tier Fast = omega arith
one_tier Near = omega arith
one_tier Far = omega arith

counts_fit : (xs : List (Tier3 × ℕ)) → count_by (λ s. is_fast s.0) xs + count_by (λ s. is_near s.0) xs ≤ length xs
counts_fit [] = omega arith
counts_fit (x ∷ xs) =
    let i = counts_fit xs in
    let f : count_by (λ (s : Tier3 × ℕ). is_fast s.0) (x ∷ xs) ≡ cond (is_fast x.0) 1 0 + count_by (λ (s : Tier3 × ℕ). is_fast s.0) xs = sum_by-cons (λ (s : Tier3 × ℕ). cond (is_fast s.0) 1 0) x xs in
    let n : count_by (λ (s : Tier3 × ℕ). is_near s.0) (x ∷ xs) ≡ cond (is_near x.0) 1 0 + count_by (λ (s : Tier3 × ℕ). is_near s.0) xs = sum_by-cons (λ (s : Tier3 × ℕ). cond (is_near s.0) 1 0) x xs in
    let o = one_tier x.0 in
    sum_up (count_by (λ (s : Tier3 × ℕ). is_fast s.0) (x ∷ xs)) (count_by (λ (s : Tier3 × ℕ). is_near s.0) (x ∷ xs)) (count_by (λ (s : Tier3 × ℕ). is_fast s.0) xs) (count_by (λ (s : Tier3 × ℕ). is_near s.0) xs) (cond (is_fast x.0) 1 0) (cond (is_near x.0) 1 0) (length xs) f n i o
  where
    sum_up : (a b c d e f l : ℕ) → a ≡ e + c → b ≡ f + d → c + d ≤ l → e + f ≤ 1 → a + b ≤ suc l
    sum_up a b c d e f l h i j k = omega arith

-- each section has a tier
pub planned_all : (sections : List (Tier3 × ℕ)) (quota : ℕ) → let p = planned sections quota in p.fasts + p.nears + p.fars ≡ length sections
planned_all sections quota = let fit = counts_fit sections in omega arith

-- the tiers stand within the sections
pub tiers_fit : (sections : List (Tier3 × ℕ)) (fasts nears : ℕ) (sizes : List ℕ) →
    fasts ≡ count_by (λ s. is_fast s.0) sections → nears ≡ count_by (λ s. is_near s.0) sections → sizes ≡ map (λ s. s.1) sections → fasts + nears ≤ length sizes
tiers_fit sections fasts nears sizes ef en es =
    let fit = counts_fit sections in
    let l = ap length es ∙ length-map sections (λ (s : Tier3 × ℕ). s.1) in
    omega arith

pub begins-whole : (sections : List (Tier3 × ℕ)) (quota fasts nears near_packets : ℕ) (sizes : List ℕ) →
    fasts ≡ count_by (λ s. is_fast s.0) sections → nears ≡ count_by (λ s. is_near s.0) sections → sizes ≡ map (λ s. s.1) sections →
    near_packets ≡ packets_in (slice_index sizes) (numbers_from fasts ((fasts + nears) - fasts)) →
    upto 0 fasts ++ threaded (slice_index sizes) (upto 0 fasts) quota quota (upto fasts (fasts + nears) ++ threaded (slice_index sizes) (upto fasts (fasts + nears)) near_packets near_packets (upto (fasts + nears) (length sizes))) ≡ cycle_of (planned sections quota)
begins-whole sections quota fasts nears near_packets sizes ef en es ep =
    let p = planned sections quota in
    let fit = counts_fit sections in
    let end : length sizes ≡ p.fasts + p.nears + p.fars = ap length es ∙ length-map sections (λ (s : Tier3 × ℕ). s.1) ∙ (let e : length sections ≡ p.fasts + p.nears + (length sections - (p.fasts + p.nears)) = omega arith in e) in
    let least : near_packets ≡ packets_in p.size (near_of p) = ep ∙ ap₂ (λ (s : List ℕ) (f : ℕ). packets_in (slice_index s) (numbers_from f ((f + nears) - f))) es ef
    ∙ ap (λ (n : ℕ). packets_in p.size (numbers_from p.fasts ((p.fasts + n) - p.fasts))) en ∙ ap (λ (n : ℕ). packets_in p.size (numbers_from p.fasts n)) (let e : (p.fasts + p.nears) - p.fasts ≡ p.nears = omega arith in e) in
    ap₂ (λ (f n : ℕ). upto 0 f ++ threaded (slice_index sizes) (upto 0 f) quota quota (upto f (f + n) ++ threaded (slice_index sizes) (upto f (f + n)) near_packets near_packets (upto (f + n) (length sizes)))) ef en
    ∙ ap (λ (s : List ℕ). upto 0 p.fasts ++ threaded (slice_index s) (upto 0 p.fasts) quota quota (upto p.fasts (p.fasts + p.nears) ++ threaded (slice_index s) (upto p.fasts (p.fasts + p.nears)) near_packets near_packets (upto (p.fasts + p.nears) (length sizes)))) es
    ∙ whole p (length sizes) end near_packets least
