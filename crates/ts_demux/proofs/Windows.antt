-- Packets and sections, cut into parts.
use Rattle.std.proofs.Common.{◌≡◌, ℕ, suc, List, [], ◌∷◌, ◌++◌, length, refl, sym, ap, ◌∙◌}
use Rattle.std.specs.List.{AllByRecursion}
use Rattle.si_lists.proofs.Lists.{same_parts, all_front, all_behind}
use Rattle.ts_demux.specs.Laws.{ended}
use Rattle.ts_packets.specs.Packets.{Piece, piece_of, left_by, pieces, left, HaveSectionBytes, all_of}
use Rattle.ts_demux.specs.Hearing.{IsSection, heard}
use Rattle.ts_demux.proofs.Heard.{AllSections, heard-pieces}

pub pieces-append : (rest : List ℕ) (gs hs : List (List (List ℕ))) → pieces rest (gs ++ hs) ≡ pieces rest gs ++ pieces (left rest gs) hs
pieces-append rest [] hs = refl
pieces-append rest (g ∷ gs) hs = ap (λ (x : List Piece). piece_of rest g ∷ x) (pieces-append (left_by rest g) gs hs)

pub left-append : (rest : List ℕ) (gs hs : List (List (List ℕ))) → left rest (gs ++ hs) ≡ left (left rest gs) hs
left-append rest [] hs = refl
left-append rest (g ∷ gs) hs = left-append (left_by rest g) gs hs

pub HaveRoom-front : (rest : List ℕ) (gs hs : List (List (List ℕ))) → HaveSectionBytes rest (gs ++ hs) → HaveSectionBytes rest gs
HaveRoom-front rest [] hs p = tt
HaveRoom-front rest (g ∷ gs) hs p = (p.0, HaveRoom-front (left_by rest g) gs hs p.1)

pub HaveRoom-behind : (rest : List ℕ) (gs hs : List (List (List ℕ))) → HaveSectionBytes rest (gs ++ hs) → HaveSectionBytes (left rest gs) hs
HaveRoom-behind rest [] hs p = p
HaveRoom-behind rest (g ∷ gs) hs p = HaveRoom-behind (left_by rest g) gs hs p.1

pub length-pieces : (rest : List ℕ) (gs : List (List (List ℕ))) → length (pieces rest gs) ≡ length gs
length-pieces rest [] = refl
length-pieces rest (g ∷ gs) = ap suc (length-pieces (left_by rest g) gs)

-- What is heard of any part of the packets: the sections that begin in this part, without the last where it goes on behind it.
pub heard_part : (before part after : List (List (List ℕ))) (ps qs rs : List Piece)
    → HaveSectionBytes [] (before ++ (part ++ after)) → AllSections (before ++ (part ++ after))
    → ps ++ (qs ++ rs) ≡ pieces [] (before ++ (part ++ after)) → length ps ≡ length before → length qs ≡ length part
    → (open_left : List ℕ) × (heard qs ≡ ended open_left (all_of part)) × (open_left ≡ left (left [] before) part)
heard_part before part after ps qs rs room all e l m =
    let cut : ps ++ (qs ++ rs) ≡ pieces [] before ++ (pieces (left [] before) part ++ pieces (left (left [] before) part) after) =
    e ∙ pieces-append [] before (part ++ after) ∙ ap (λ (x : List Piece). pieces [] before ++ x) (pieces-append (left [] before) part after) in
    let one = same_parts ps (pieces [] before) (qs ++ rs) (pieces (left [] before) part ++ pieces (left (left [] before) part) after) (l ∙ sym (length-pieces [] before)) cut in
    let two = same_parts qs (pieces (left [] before) part) rs (pieces (left (left [] before) part) after) (m ∙ sym (length-pieces (left [] before) part)) one.1 in
    let here = HaveRoom-front (left [] before) part after (HaveRoom-behind [] before (part ++ after) room) in
    let each = all_front (λ (g : List (List ℕ)). AllByRecursion IsSection g) part after (all_behind (λ (g : List (List ℕ)). AllByRecursion IsSection g) before (part ++ after) all) in
    (left (left [] before) part, ap heard two.0 ∙ heard-pieces (left [] before) part here each, refl)
