-- The leads of a round, one more at a time.
use Rattle.std.proofs.Common.{◌≡◌, ℕ, suc, ◌+◌, ◌<◌, List, [], ◌∷◌, ◌++◌, length, map, take, get_or, max, sym, ap, ap₂, ◌∙◌, arith}
use Rattle.std.specs.List.{cons_option}
use Rattle.std.proofs.lemmas.List.{take_more, map_more, map_push, length-take-le}
use Rattle.ts_packets.specs.Packets.{packets_of}
use Rattle.section_codec.specs.Contents.{numbers_from}
use Rattle.air_model.specs.Cutting.{packets_in}
use Rattle.air_model.proofs.Lists.{packets-append}
use Rattle.air_timing.specs.declared.pace.Paced.{Paced}
use Rattle.air_timing.specs.Plan.{section_at}
use Rattle.air_timing.specs.Turns.{often_of, turn_of}
use Rattle.cycle_timing.specs.Leads.{largest, in_turn, lead_from, lead_packets}
use Rattle.cycle_timing.proofs.PacedLeads.{lead_append}
use Rattle.cycle_timing.proofs.Grouping.{numbers_more}

largest_push : (ns : List ℕ) (n : ℕ) → largest (ns ++ n ∷ []) ≡ max (largest ns) n
largest_push [] n = omega arith
largest_push (m ∷ ns) n = let i = largest_push ns n in omega arith

-- the largest of what is measured, and one more
pub largest_more : {X : Type 0} (f : X → ℕ) (xs : List X) (i : ℕ) (d : X) (old n : ℕ) → i < length xs → old ≡ largest (map f (take i xs)) → n ≡ f (get_or xs i d)
    → max old n ≡ largest (map f (take (i + 1) xs))
largest_more f xs i d old n less old_is n_is =
    ap₂ max old_is n_is ∙ sym (largest_push (map f (take i xs)) (f (get_or xs i d))) ∙ ap largest (sym (map_more f xs i d less))

-- a sub-table more in a lead
pub lead_more : (often place at : ℕ) (gs : List (List ℕ)) (i : ℕ) (d lead new : List ℕ) → i < length gs → at ≡ i → lead ≡ lead_from often place 0 (take i gs)
    → new ≡ lead ++ cons_option (in_turn (get_or gs i d) (turn_of often at place (length (get_or gs i d)))) []
    → new ≡ lead_from often place 0 (take (i + 1) gs)
lead_more often place at gs i d lead new less at_is so_far next =
    let g = get_or gs i d in
    let same : at ≡ 0 + length (take i gs) = (let e = length-take-le i gs (omega arith) in omega arith) in
    next ∙ ap₂ (λ (l : List ℕ) (q : ℕ). l ++ cons_option (in_turn g (turn_of often q place (length g))) []) so_far same
    ∙ sym (lead_append often place 0 (take i gs) (g ∷ [])) ∙ ap (lead_from often place 0) (sym (take_more gs i d less))

-- a section more of a lead
pub packets_more : (ss : List Paced) (lead : List ℕ) (i d old new : ℕ) → i < length lead → old ≡ lead_packets ss (take i lead)
    → new ≡ old + packets_of (section_at ss (get_or lead i d)).len → new ≡ lead_packets ss (take (i + 1) lead)
packets_more ss lead i d old new less so_far next =
    let x = get_or lead i d in
    let size : ℕ → ℕ = λ y. packets_of (section_at ss y).len in
    let all = ap (packets_in size) (take_more lead i d less) ∙ packets-append size (take i lead) (x ∷ []) in
    omega arith

-- a lead more of a round
pub leads_more : (largest often place : ℕ) (gs : List (List ℕ)) (old new : List (List ℕ)) (lead : List ℕ) → often ≡ often_of largest
    → old ≡ map (λ (i : ℕ). lead_from (often_of largest) i 0 gs) (numbers_from 0 place) → lead ≡ lead_from often place 0 gs → new ≡ old ++ lead ∷ []
    → new ≡ map (λ (i : ℕ). lead_from (often_of largest) i 0 gs) (numbers_from 0 (place + 1))
leads_more largest often place gs old new lead often_is so_far lead_is next =
    let f : ℕ → List ℕ = λ i. lead_from (often_of largest) i 0 gs in
    next ∙ ap₂ (λ (l : List (List ℕ)) (x : List ℕ). l ++ x ∷ []) so_far (lead_is ∙ ap (λ (n : ℕ). lead_from n place 0 gs) often_is)
    ∙ sym (map_push f (numbers_from 0 place) place)
    ∙ ap (map f) (sym (ap (numbers_from 0) (let e : place + 1 ≡ suc place = omega arith in e) ∙ numbers_more 0 place ∙ ap (λ (n : ℕ). numbers_from 0 place ++ n ∷ []) (let e : 0 + place ≡ place = omega arith in e)))
