-- What the order of a cycle keeps.
use Rattle.std.proofs.Common.{◌≡◌, ℕ, ◌+◌, ◌<◌, ◌≤◌, ◌⊎◌, inl, inr, List, [], ◌∷◌, ◌++◌, Bool, true, false, length, refl, sym, ap, ◌∙◌, subst, arith}
use Rattle.std.specs.Prelude.{nat_le}
use Rattle.std.specs.List.{Contains, filter}
use Rattle.std.proofs.lemmas.List.Elements.{Contains-append_left, Contains-append_right, Contains-append_cases}
use Rattle.section_codec.specs.Contents.{numbers_from}
use Rattle.air_model.specs.Cutting.{joined, cut}
use Rattle.air_model.specs.Cycle.{Planned, at_least_one, led, fast_of, near_of, far_of, chunks_of, body_of, runs_of, cycle_of}
use Rattle.air_model.specs.Order.{CyclesAreWhole}
use Rattle.air_model.proofs.Lists.{all-numbers, once}
use Rattle.air_model.proofs.Leads.{AllAre, filter-all, filter-led, all-led}
use Rattle.std.proofs.lemmas.Bool.{le-leb, lt-leb}
use Rattle.air_model.proofs.Tiers.{tiers, chunks_joined, runs_joined}

-- ---- each section stands in the cycle

-- what stands in a part stands behind its lead
in_parts : (lead : List ℕ) (parts : List (List ℕ)) (x : ℕ) → Contains (joined parts) x → Contains (led lead parts) x
in_parts lead [] x has = has
in_parts lead (c ∷ parts) x has = go (Contains-append_cases c (joined parts) x has) (in_parts lead parts x)
  where
    go : Contains c x ⊎ Contains (joined parts) x → (Contains (joined parts) x → Contains (led lead parts) x) → Contains ((lead ++ c) ++ led lead parts) x
    go (inl h) again = Contains-append_left (lead ++ c) (led lead parts) x (Contains-append_right lead c x h)
    go (inr h) again = Contains-append_right (lead ++ c) (led lead parts) x (again h)

-- what stands in the lead stands in front of the first part
in_lead : (lead : List ℕ) (parts : List (List ℕ)) (x : ℕ) → Contains lead x → Contains (led lead (at_least_one parts)) x
in_lead lead [] x has = Contains-append_left (lead ++ []) [] x (Contains-append_left lead [] x has)
in_lead lead (c ∷ parts) x has = Contains-append_left (lead ++ c) (led lead parts) x (Contains-append_left lead c x has)

one_of : (x a n : ℕ) → a ≤ x → x < a + n → Contains (numbers_from a n) x
one_of x a n l m =
    let o = once a n x l m in
    subst (λ (xs : List ℕ). Contains xs x) (sym o.are) (Contains-append_right o.before (x ∷ o.after) x (Contains-append_left (x ∷ []) o.after x (0, let some : 0 < length (x ∷ []) = omega arith in some, refl)))

each : (p : Planned) (x : ℕ) → x < p.fasts + p.nears + p.fars → Contains (cycle_of p) x
each p x l =
    let of_body : Contains (body_of p) x → Contains (cycle_of p) x = λ has. in_parts (fast_of p) (runs_of p) x (subst (λ (xs : List ℕ). Contains xs x) (sym (runs_joined p)) has) in
    elim (below_or x p.fasts) [
      | inl u ↦ in_lead (fast_of p) (cut p.size p.quota (body_of p)) x (one_of x 0 p.fasts (omega arith) (omega arith))
      | inr u ↦ elim (below_or x (p.fasts + p.nears)) [
        | inl v ↦ of_body (in_near p x (one_of x p.fasts p.nears u v))
        | inr v ↦ of_body (in_parts (near_of p) (chunks_of p) x (subst (λ (xs : List ℕ). Contains xs x) (sym (chunks_joined p)) (one_of x (p.fasts + p.nears) p.fars v l)))
      ]
    ]
  where
    below_or : (a b : ℕ) → (a < b) ⊎ (b ≤ a)
    below_or a b = grind arith

    in_near : (p : Planned) (x : ℕ) → Contains (near_of p) x → Contains (body_of p) x
    in_near p x has = in_lead (near_of p) _ x has

-- ---- and no other; and where its sections are left out

pub cycles_are_whole : CyclesAreWhole
cycles_are_whole p =
    let n = p.fasts + p.nears in
    let far : ℕ → Bool = λ i. nat_le n i in
    let slow : ℕ → Bool = λ i. nat_le p.fasts i in
    let fast_low : AllAre far false (fast_of p) = all-numbers (λ (i : ℕ). far i ≡ false) 0 p.fasts (λ i l m. lt-leb n i (omega arith)) in
    let near_low : AllAre far false (near_of p) = all-numbers (λ (i : ℕ). far i ≡ false) p.fasts p.nears (λ i l m. lt-leb n i m) in
    let far_far : AllAre far true (far_of p) = all-numbers (λ (i : ℕ). far i ≡ true) n p.fars (λ i l m. le-leb n i l) in
    let fast_slow : AllAre slow false (fast_of p) = all-numbers (λ (i : ℕ). slow i ≡ false) 0 p.fasts (λ i l m. lt-leb p.fasts i (omega arith)) in
    let body_slow : AllAre slow true (body_of p) = (tiers (λ (i : ℕ). slow i ≡ true) p (λ i l m. le-leb p.fasts i l)).whole in
    let known : ℕ → Type 0 = λ i. i < p.fasts + p.nears + p.fars in
    record {
      each = each p;
      known = all-led known (fast_of p) (runs_of p) (all-numbers known 0 p.fasts (λ i l m. omega arith)) (tiers known p (λ i l m. m)).runs;
      body = filter-led slow (fast_of p) (runs_of p) fast_slow ∙ ap (filter slow) (runs_joined p) ∙ filter-all slow (body_of p) body_slow;
      far = filter-led far (fast_of p) (runs_of p) fast_low ∙ ap (filter far) (runs_joined p) ∙ filter-led far (near_of p) (chunks_of p) near_low ∙ ap (filter far) (chunks_joined p) ∙ filter-all far (far_of p) far_far;
    }
