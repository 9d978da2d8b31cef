-- Groups in turns: what is left of them after each round.
use Rattle.std.proofs.Common.{◌≡◌, ℕ, zero, suc, ◌+◌, ◌<◌, length, map, take, get_or, List, [], ◌∷◌, ◌++◌, refl, sym, ap, ap₂, ◌∙◌, append_assoc}
use Rattle.std.proofs.lemmas.List.{map_more}
use Rattle.air_timing.specs.Spreading.{firsts, rests, spread}
use Rattle.cycle_timing.specs.Turns.{with_more}

firsts-append : (cs bs : List (List ℕ)) → firsts (cs ++ bs) ≡ firsts cs ++ firsts bs
firsts-append [] bs = refl
firsts-append ([] ∷ cs) bs = firsts-append cs bs
firsts-append ((x ∷ xs) ∷ cs) bs = ap (λ (l : List ℕ). x ∷ l) (firsts-append cs bs)

left-append : (cs bs : List (List ℕ)) → with_more (rests (cs ++ bs)) ≡ with_more (rests cs) ++ with_more (rests bs)
left-append [] bs = refl
left-append ([] ∷ cs) bs = left-append cs bs
left-append ((x ∷ []) ∷ cs) bs = left-append cs bs
left-append ((x ∷ y ∷ xs) ∷ cs) bs = ap (λ (l : List (List ℕ)). (y ∷ xs) ∷ l) (left-append cs bs)

-- a group more in a round
pub first_more : {Z : Type 0} (now : Z → List ℕ) (gs : List Z) (i : ℕ) (d : Z) (start order new : List ℕ) → i < length gs
    → order ≡ start ++ firsts (map now (take i gs)) → new ≡ order ++ firsts (now (get_or gs i d) ∷ []) → new ≡ start ++ firsts (map now (take (i + 1) gs))
first_more now gs i d start order new less so_far next =
    let before = map now (take i gs) in
    let group = now (get_or gs i d) in
    next ∙ ap (λ (l : List ℕ). l ++ firsts (group ∷ [])) so_far ∙ append_assoc start (firsts before) (firsts (group ∷ []))
    ∙ ap (λ (l : List ℕ). start ++ l) (sym (firsts-append before (group ∷ [])))
    ∙ ap (λ (l : List (List ℕ)). start ++ firsts l) (sym (map_more now gs i d less))

pub left_more : {Z : Type 0} (now : Z → List ℕ) (gs : List Z) (i : ℕ) (d : Z) (left new : List (List ℕ)) → i < length gs
    → left ≡ with_more (rests (map now (take i gs))) → new ≡ left ++ with_more (rests (now (get_or gs i d) ∷ [])) → new ≡ with_more (rests (map now (take (i + 1) gs)))
left_more now gs i d left new less so_far next =
    let before = map now (take i gs) in
    let group = now (get_or gs i d) in
    next ∙ ap (λ (l : List (List ℕ)). l ++ with_more (rests (group ∷ []))) so_far
    ∙ sym (left-append before (group ∷ []))
    ∙ ap (λ (l : List (List ℕ)). with_more (rests l)) (sym (map_more now gs i d less))

-- ---- groups without a section have no turn

more_firsts : (gs : List (List ℕ)) → firsts (with_more gs) ≡ firsts gs
more_firsts [] = refl
more_firsts ([] ∷ gs) = more_firsts gs
more_firsts ((x ∷ xs) ∷ gs) = ap (λ (l : List ℕ). x ∷ l) (more_firsts gs)

more_rests : (gs : List (List ℕ)) → with_more (rests (with_more gs)) ≡ with_more (rests gs)
more_rests [] = refl
more_rests ([] ∷ gs) = more_rests gs
more_rests ((x ∷ []) ∷ gs) = more_rests gs
more_rests ((x ∷ y ∷ xs) ∷ gs) = ap (λ (l : List (List ℕ)). (y ∷ xs) ∷ l) (more_rests gs)

spread_more : (n : ℕ) (gs : List (List ℕ)) → spread n (with_more gs) ≡ spread n gs
spread_more zero gs = refl
spread_more (suc n) gs =
    ap₂ (λ (a b : List ℕ). a ++ b) (more_firsts gs)
    (sym (spread_more n (rests (with_more gs))) ∙ ap (spread n) (more_rests gs) ∙ spread_more n (rests gs))

-- a round more
pub round_more : (start order new all : List ℕ) (groups left : List (List ℕ)) (n m : ℕ) → n ≡ suc m
    → order ++ spread n groups ≡ start ++ all → new ≡ order ++ firsts groups → left ≡ with_more (rests groups)
    → new ++ spread m left ≡ start ++ all
round_more start order new all groups left n m n_is so_far new_is left_is =
    ap₂ (λ (a : List ℕ) (b : List (List ℕ)). a ++ spread m b) new_is left_is
    ∙ append_assoc order (firsts groups) (spread m (with_more (rests groups)))
    ∙ ap (λ (l : List ℕ). order ++ (firsts groups ++ l)) (spread_more m (rests groups))
    ∙ ap (λ (k : ℕ). order ++ spread k groups) (sym n_is) ∙ so_far
