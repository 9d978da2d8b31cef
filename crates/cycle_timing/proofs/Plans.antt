-- Plans: each section is sent in a cycle, and no other.
use Rattle.std.proofs.Common.{◌≡◌, ℕ, suc, ◌+◌, ◌<◌, ◌≤◌, ◌⊎◌, inl, inr, List, [], ◌∷◌, ◌++◌, Some, length, map, refl, sym, ap, ◌∙◌, subst, arith, length-append}
use Rattle.std.specs.Prelude.{slice_get, flat_map, filter, ◌==◌}
use Rattle.std.specs.List.{AllByRecursion, Contains}
use Rattle.std.proofs.lemmas.List.{length-map}
use Rattle.std.proofs.lemmas.List.Elements.{Contains-append_left, Contains-append_right, Contains-append_cases}
use Rattle.si_lists.proofs.Lists.{all_append, all_front, all_behind, all_flat, all_to_map}
use Rattle.si_lists.proofs.Parts.{lt_or}
use Rattle.section_codec.specs.Contents.{numbers_from}
use Rattle.air_model.specs.Cutting.{joined as joined_parts, cut, packets_in}
use Rattle.air_model.specs.Cycle.{Planned as Tiers, at_least_one, fast_of, near_of, far_of, chunks_of}
use Rattle.air_model.proofs.Lists.{all-numbers, once}
use Rattle.air_model.proofs.Tiers.{chunks_joined}
use Rattle.air_model.proofs.Elements.{of_element, first_of, around, mapped}
use Rattle.air_timing.specs.declared.pace.Paced.{Paced}
use Rattle.air_timing.specs.Pacing.{Place}
use Rattle.air_timing.specs.Plan.{lead_at, order_in}
use Rattle.air_timing.specs.Turns.{often_of, round_of}
use Rattle.air_timing.proofs.EachTurn.{each_has_turn}
use Rattle.cycle_timing.specs.SubTables.{groups}
use Rattle.cycle_timing.specs.Leads.{largest, most_sections, lead_from, leads_of}
use Rattle.cycle_timing.specs.Planning.{table_at, in_turns, body_of, fast_groups, plan_at}
use Rattle.cycle_timing.proofs.PacedGroups.{own_group, in_own, all_groups, in_spread, all_spread}
use Rattle.cycle_timing.proofs.PacedLeads.{largest_least, at_number, length_numbers, all_lead, lead_split}
use Rattle.cycle_timing.proofs.Order.{all_in, body_in, lead_in}

-- ---- elements and their places

pub in_numbers : (x a n : ℕ) → a ≤ x → x < a + n → Contains (numbers_from a n) x
in_numbers x a n l m =
    let o = once a n x l m in
    subst (λ (xs : List ℕ). Contains xs x) (sym o.are) (Contains-append_right o.before (x ∷ o.after) x (first_of x o.after))

got_there : {X : Type 0} (before : List X) (x : X) (after : List X) → slice_get (before ++ x ∷ after) (length before) ≡ Some x
got_there [] x after = refl
got_there (y ∷ before) x after = got_there before x after

pub got_of : {X : Type 0} (xs : List X) (x : X) → Contains xs x → (k : ℕ) × (k < length xs) × (slice_get xs k ≡ Some x)
got_of xs x has =
    let w = around xs x has in
    (length w.0, omega (arith, ap length w.2, length-append w.0 (x ∷ w.1)), ap (λ (l : List _). slice_get l (length w.0)) w.2 ∙ got_there w.0 x w.1)

-- ---- leads

pub most_of : (gs : List (List ℕ)) (g : List ℕ) → Contains gs g → length g ≤ most_sections gs
most_of gs g has =
    let lens = map (λ (group : List ℕ). length group) gs in
    of_element (λ (n : ℕ). n ≤ largest lens) lens (length g) (largest_least lens) (mapped (λ (group : List ℕ). length group) gs g has)

pub leads_length : (gs : List (List ℕ)) → length (leads_of gs) ≡ round_of (most_sections gs)
leads_length gs =
    let n = most_sections gs in
    length-map (numbers_from 0 (round_of n)) (λ (i : ℕ). lead_from (often_of n) i 0 gs) ∙ length_numbers 0 (round_of n)

pub lead_is : (gs : List (List ℕ)) (i : ℕ) → i < round_of (most_sections gs) → lead_at (leads_of gs) i ≡ lead_from (often_of (most_sections gs)) i 0 gs
lead_is gs i l = at_number (λ (i : ℕ). lead_from (often_of (most_sections gs)) i 0 gs) [] 0 (round_of (most_sections gs)) i l ∙ ap (λ (n : ℕ). lead_from (often_of (most_sections gs)) n 0 gs) (let e : 0 + i ≡ i = omega arith in e)

-- a section of a group stands in a lead
pub in_some_lead : (gs : List (List ℕ)) (g : List ℕ) (x : ℕ) → Contains gs g → Contains g x → (i : ℕ) × (i < length (leads_of gs)) × Contains (lead_at (leads_of gs) i) x
in_some_lead gs g x has_g has_x =
    let w = around gs g has_g in
    let k = got_of g x has_x in
    let n = most_sections gs in
    let t = each_has_turn n (length w.0) (length g) k.0 (most_of gs g has_g) k.1 in
    let split = ap (lead_from (often_of n) t.lead 0) w.2 ∙ lead_split (often_of n) t.lead w.0 g w.1 k.0 x t.turn k.2 in
    let front = lead_from (often_of n) t.lead 0 w.0 in
    let rest = lead_from (often_of n) t.lead (suc (length w.0)) w.1 in (
      t.lead,
      subst (λ (m : ℕ). t.lead < m) (sym (leads_length gs)) t.in_round,
      subst (λ l. Contains l x) (sym (lead_is gs t.lead t.in_round ∙ split)) (Contains-append_right front (x ∷ rest) x (first_of x rest)),
    )

pub all_leads : (P : ℕ → Type 0) (gs : List (List ℕ)) → AllByRecursion (AllByRecursion P) gs → AllByRecursion (AllByRecursion P) (leads_of gs)
all_leads P gs all =
    let n = most_sections gs in
    all_to_map (AllByRecursion P) (λ (i : ℕ). lead_from (often_of n) i 0 gs) (numbers_from 0 (round_of n)) (all-numbers (λ (i : ℕ). AllByRecursion P (lead_from (often_of n) i 0 gs)) 0 (round_of n) (λ i a b. all_lead P (often_of n) i 0 gs all))

-- ---- the body

-- what is sent for a chunk
abbrev for_chunk : List Paced → List ℕ → List ℕ → List ℕ
for_chunk ss near chunk = in_turns ss near ++ in_turns ss chunk

abbrev with_chunks : List Paced → List ℕ → List (List ℕ) → List ℕ
with_chunks ss near chunks = flat_map (for_chunk ss near) chunks

near_in : (ss : List Paced) (near : List ℕ) (parts : List (List ℕ)) (x : ℕ) → Contains (in_turns ss near) x → Contains (with_chunks ss near (at_least_one parts)) x
near_in ss near [] x has = Contains-append_left (in_turns ss near ++ in_turns ss []) [] x (Contains-append_left (in_turns ss near) (in_turns ss []) x has)
near_in ss near (c ∷ parts) x has = Contains-append_left (in_turns ss near ++ in_turns ss c) (with_chunks ss near parts) x (Contains-append_left (in_turns ss near) (in_turns ss c) x has)

chunk_in : (ss : List Paced) (near : List ℕ) (chunks : List (List ℕ)) (x : ℕ) → Contains (joined_parts chunks) x → Contains (with_chunks ss near chunks) x
chunk_in ss near [] x has = has
chunk_in ss near (c ∷ chunks) x has = go (Contains-append_cases c (joined_parts chunks) x has) (chunk_in ss near chunks x)
  where
    go : Contains c x ⊎ Contains (joined_parts chunks) x → (Contains (joined_parts chunks) x → Contains (with_chunks ss near chunks) x) → Contains (with_chunks ss near (c ∷ chunks)) x
    go (inl h) again = Contains-append_left (for_chunk ss near c) (with_chunks ss near chunks) x (Contains-append_right (in_turns ss near) (in_turns ss c) x (in_spread (table_at ss) c x h))
    go (inr h) again = Contains-append_right (for_chunk ss near c) (with_chunks ss near chunks) x (again h)

all_parts : (P : ℕ → Type 0) (parts : List (List ℕ)) → AllByRecursion P (joined_parts parts) → AllByRecursion (AllByRecursion P) parts
all_parts P [] h = tt
all_parts P (c ∷ parts) h = (all_front P c (joined_parts parts) h, all_parts P parts (all_behind P c (joined_parts parts) h))

all_turns : (P : ℕ → Type 0) (ss : List Paced) (xs : List ℕ) → AllByRecursion P xs → AllByRecursion P (in_turns ss xs)
all_turns P ss xs all = all_spread P (length xs) (groups (table_at ss) xs) (all_groups P (table_at ss) xs all)

-- ---- plans

abbrev pub total : Tiers → ℕ
total p = p.fasts + p.nears + p.fars

pub all_body : (P : ℕ → Type 0) (ss : List Paced) (p : Tiers) → ((i : ℕ) → p.fasts ≤ i → i < total p → P i) → AllByRecursion P (body_of ss p)
all_body P ss p each =
    let near = all-numbers P p.fasts p.nears (λ i a b. each i a (omega arith)) in
    let far = all-numbers P (p.fasts + p.nears) p.fars (λ i a b. each i (omega arith) (omega arith)) in
    all_flat (AllByRecursion P) P (for_chunk ss (near_of p))
    (λ chunk h. all_append P (in_turns ss (near_of p)) (in_turns ss chunk) (all_turns P ss (near_of p) near) (all_turns P ss chunk h))
    (chunks_of p) (all_parts P (chunks_of p) (subst (AllByRecursion P) (sym (chunks_joined p)) far))

pub all_fast : (P : ℕ → Type 0) (ss : List Paced) (p : Tiers) → ((i : ℕ) → i < total p → P i) → AllByRecursion (AllByRecursion P) (fast_groups ss p)
all_fast P ss p each = all_groups P (table_at ss) (fast_of p) (all-numbers P 0 p.fasts (λ i a b. each i (omega arith)))

pub all_planned : (P : ℕ → Type 0) (rate : ℕ) (ss : List Paced) (p : Tiers) (place : Place) → ((i : ℕ) → i < total p → P i) → AllByRecursion P (order_in (plan_at rate ss p) place)
all_planned P rate ss p place each = all_in P (plan_at rate ss p) (all_leads P (fast_groups ss p) (all_fast P ss p each)) (all_body P ss p (λ i a l. each i l)) place

pub each_planned : (rate : ℕ) (ss : List Paced) (p : Tiers) (place : Place) (i : ℕ) → i < total p → Contains (order_in (plan_at rate ss p) place) i
each_planned rate ss p place i l = fast (lt_or i p.fasts)
  where
    cut_far : List (List ℕ)
    cut_far = cut p.size (packets_in p.size (near_of p)) (far_of p)

    slow : (p.fasts ≤ i) → (i < p.fasts + p.nears) ⊎ (p.fasts + p.nears ≤ i) → Contains (body_of ss p) i
    slow h (inl u) = near_in ss (near_of p) cut_far i (in_spread (table_at ss) (near_of p) i (in_numbers i p.fasts p.nears h u))
    slow h (inr u) = chunk_in ss (near_of p) (chunks_of p) i (subst (λ l. Contains l i) (sym (chunks_joined p)) (in_numbers i (p.fasts + p.nears) p.fars u l))

    fast : (i < p.fasts) ⊎ (p.fasts ≤ i) → Contains (order_in (plan_at rate ss p) place) i
    fast (inl u) =
        let has = in_numbers i 0 p.fasts (omega arith) (omega arith) in
        let lead = in_some_lead (fast_groups ss p) (filter (λ (x : ℕ). table_at ss x == table_at ss i) (fast_of p)) i (own_group (table_at ss) (fast_of p) i has) (in_own (table_at ss) (fast_of p) i has) in
        lead_in (plan_at rate ss p) place lead.0 i lead.1 lead.2
    fast (inr u) = body_in (plan_at rate ss p) place i (slow u (lt_or i (p.fasts + p.nears)))
