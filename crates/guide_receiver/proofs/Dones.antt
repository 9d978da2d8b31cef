-- The completions of one packet more.
use Rattle.std.proofs.Common.{◌≡◌, ℕ, List, [], ◌∷◌, ◌++◌, length, map, sym, ap, ◌∙◌, append-nil, append_assoc}
use Rattle.guide_receiver.specs.Dones.{at_packet, dones_by, dones_behind}

pub dones_push : (past xs : List (List ℕ)) (p : List ℕ) → dones_behind past (xs ++ p ∷ []) ≡ dones_behind past xs ++ map (at_packet (length (past ++ xs))) (dones_by (past ++ xs) p)
dones_push past [] p =
    append-nil (map (at_packet (length past)) (dones_by past p)) ∙ ap (λ (q : List (List ℕ)). map (at_packet (length q)) (dones_by q p)) (sym (append-nil past))
dones_push past (x ∷ xs) p =
    let here = map (at_packet (length past)) (dones_by past x) in
    let rest = dones_behind (past ++ x ∷ []) xs in
    ap (λ t. here ++ t) (dones_push (past ++ x ∷ []) xs p)
    ∙ ap (λ (q : List (List ℕ)). here ++ (rest ++ map (at_packet (length q)) (dones_by q p))) (append_assoc past (x ∷ []) xs)
    ∙ sym (append_assoc here rest (map (at_packet (length (past ++ x ∷ xs))) (dones_by (past ++ x ∷ xs) p)))
