-- Packets of a stretch carry its sections.
use Rattle.std.proofs.Common.{◌≡◌, ℕ, zero, suc, ◌+◌, ◌-◌, ◌<◌, ◌≤◌, List, [], ◌∷◌, ◌++◌, Bool, true, false, length, refl, sym, ap, ◌∙◌, subst, arith, length-append, length-drop, eq-eqb}
use Rattle.std.specs.Prelude.{if◌then◌else◌, nat_lt}
use Rattle.std.specs.List.{AllByRecursion}
use Rattle.std.proofs.lemmas.Bool.Decides.{nat_tests}
use Rattle.ts_packets.specs.Packets.{Piece, joined, Begin, HasSectionByte, left_by, pieces, left, HaveSectionBytes, all_of, Carries, beginning, waiting, packed, stretch}
use Rattle.ts_packets.specs.Laws.{StretchIsCarried}
use Rattle.ts_packets.proofs.Stamps.{one_pid}

abbrev pub HaveBytes : List (List ℕ) → Type 0
HaveBytes ss = AllByRecursion (λ (s : List ℕ). 0 < length s) ss

lt_told : (a b : ℕ) → nat_lt a b ≡ true → a < b
lt_told a b h = grind (arith, nat_tests)

pub both : (n : ℕ) (ss : List (List ℕ)) → beginning n ss ++ waiting n ss ≡ ss
both n [] = refl
both n (s ∷ ss) = go (nat_lt n 183) (both (n + length s) ss)
  where
    go : (b : Bool) → beginning (n + length s) ss ++ waiting (n + length s) ss ≡ ss → (if b then s ∷ beginning (n + length s) ss else []) ++ (if b then waiting (n + length s) ss else s ∷ ss) ≡ s ∷ ss
    go true e = ap (λ (x : List (List ℕ)). s ∷ x) e
    go false e = refl

begins : (n : ℕ) (ss : List (List ℕ)) → Begin n (beginning n ss)
begins n [] = tt
begins n (s ∷ ss) = go (nat_lt n 183) refl (begins (n + length s) ss)
  where
    go : (b : Bool) → nat_lt n 183 ≡ b → Begin (n + length s) (beginning (n + length s) ss) → Begin n (if b then s ∷ beginning (n + length s) ss else [])
    go true e h = (lt_told n 183 e, h)
    go false e h = tt

pub waiting-have : (n : ℕ) (ss : List (List ℕ)) → HaveBytes ss → HaveBytes (waiting n ss)
waiting-have n [] all = all
waiting-have n (s ∷ ss) all = go (nat_lt n 183) (waiting-have (n + length s) ss all.1)
  where
    go : (b : Bool) → HaveBytes (waiting (n + length s) ss) → HaveBytes (if b then waiting (n + length s) ss else s ∷ ss)
    go true h = h
    go false h = all

joined-both : (xs ys : List (List ℕ)) → length (joined (xs ++ ys)) ≡ length (joined xs) + length (joined ys)
joined-both [] ys = let e : length (joined ys) ≡ 0 + length (joined ys) = omega arith in e
joined-both (x ∷ xs) ys =
    length-append x (joined (xs ++ ys)) ∙ ap (λ (n : ℕ). length x + n) (joined-both xs ys)
    ∙ (let e : length x + (length (joined xs) + length (joined ys)) ≡ length (x ++ joined xs) + length (joined ys) = omega (arith, length-append x (joined xs)) in e)

room_from_begin : (rest : List ℕ) (g : List (List ℕ)) → 0 < length rest → Begin (length rest) g → HasSectionByte rest g
room_from_begin rest [] some h = some
room_from_begin rest (s ∷ ss) some h = h

-- a packet takes some bytes
less : (rest : List ℕ) (g : List (List ℕ)) → 0 < length rest + length (joined g) → length (left_by rest g) < length rest + length (joined g)
less rest [] h = let l : length rest - 184 < length rest + 0 = omega arith in subst (λ (n : ℕ). n < length rest + 0) (sym (length-drop 184 rest)) l
less rest (s ∷ ss) h =
    let J = joined (s ∷ ss) in
    let n : length (rest ++ J) ≡ length rest + length J = length-append rest J in
    let l : length (rest ++ J) - 183 < length rest + length J = omega arith in
    subst (λ (m : ℕ). m < length rest + length J) (sym (length-drop 183 (rest ++ J))) l

pub smaller : (m : ℕ) (rest : List ℕ) (ss : List (List ℕ)) → 0 < length rest + length (joined (beginning (length rest) ss)) → length rest + length (joined ss) ≤ suc m →
    length (left_by rest (beginning (length rest) ss)) + length (joined (waiting (length rest) ss)) ≤ m
smaller m rest ss some h =
    let g = beginning (length rest) ss in
    let w = waiting (length rest) ss in
    let l = less rest g some in
    let n : length (joined ss) ≡ length (joined g) + length (joined w) = ap (λ (x : List (List ℕ)). length (joined x)) (sym (both (length rest) ss)) ∙ joined-both g w in
    omega arith

-- an empty packet takes some bytes of a first section
pub some_begins : (s : List ℕ) (ss : List (List ℕ)) → 0 < length s → 0 < 0 + length (joined (beginning 0 (s ∷ ss)))
some_begins s ss some = omega (arith, some, length-append s (joined (beginning (0 + length s) ss)))

pub record ArePacked (rest : List ℕ) (ss : List (List ℕ)) (gs : List (List (List ℕ))) : Type 0 where
  pub have_room : HaveSectionBytes rest gs
  pub ended : left rest gs ≡ []
  pub all : all_of gs ≡ ss

one_more : (m : ℕ) (rest : List ℕ) (ss : List (List ℕ)) → HasSectionByte rest (beginning (length rest) ss) →
    ArePacked (left_by rest (beginning (length rest) ss)) (waiting (length rest) ss) (packed m (left_by rest (beginning (length rest) ss)) (waiting (length rest) ss))
    → ArePacked rest ss (beginning (length rest) ss ∷ packed m (left_by rest (beginning (length rest) ss)) (waiting (length rest) ss))
one_more m rest ss room p = record { have_room = (room, p.have_room); ended = p.ended; all = ap (λ (x : List (List ℕ)). beginning (length rest) ss ++ x) p.all ∙ both (length rest) ss }

pub are_packed : (m : ℕ) (rest : List ℕ) (ss : List (List ℕ)) → HaveBytes ss → length rest + length (joined ss) ≤ m → ArePacked rest ss (packed m rest ss)
are_packed zero [] [] all h = record { have_room = tt; ended = refl; all = refl }
are_packed zero [] (s ∷ ss) all h = absurd (omega (arith, all.0, length-append s (joined ss)))
are_packed zero (b ∷ rest) ss all h = absurd (omega arith)
are_packed (suc m) [] [] all h = record { have_room = tt; ended = refl; all = refl }
are_packed (suc m) [] (s ∷ ss) all h =
    one_more m [] (s ∷ ss) (begins 0 (s ∷ ss))
    (are_packed m (left_by [] (beginning 0 (s ∷ ss))) (waiting 0 (s ∷ ss)) (waiting-have 0 (s ∷ ss) all)
    (smaller m [] (s ∷ ss) (some_begins s ss all.0) h))
are_packed (suc m) (b ∷ rest) ss all h =
    let n = length (b ∷ rest) in
    let some : 0 < n + length (joined (beginning n ss)) = omega arith in
    let some' : 0 < n = omega arith in
    one_more m (b ∷ rest) ss (room_from_begin (b ∷ rest) (beginning n ss) some' (begins n ss))
    (are_packed m (left_by (b ∷ rest) (beginning n ss)) (waiting n ss) (waiting-have n ss all) (smaller m (b ∷ rest) ss some h))

pub Carries-stretch : (ss : List (List ℕ)) → HaveBytes ss → Carries (pieces [] (stretch ss)) ss
Carries-stretch ss all =
    let p = are_packed (length (joined ss)) [] ss all (let e : 0 + length (joined ss) ≤ length (joined ss) = omega arith in e) in
    record { groups = stretch ss; are = refl; have_room = p.have_room; sections = sym p.all; ended = p.ended }

pub stretch_carried : StretchIsCarried
stretch_carried pid sections all = subst (λ (ps : List Piece). Carries ps sections) (sym (one_pid pid pid true (eq-eqb pid pid refl) (pieces [] (stretch sections)))) (Carries-stretch sections all)

-- a greater bound changes nothing
pub packed_enough : (m n : ℕ) (rest : List ℕ) (ss : List (List ℕ)) → HaveBytes ss → length rest + length (joined ss) ≤ m → length rest + length (joined ss) ≤ n → packed m rest ss ≡ packed n rest ss
packed_enough zero zero rest ss all h k = refl
packed_enough zero (suc n) [] [] all h k = refl
packed_enough zero (suc n) [] (s ∷ ss) all h k = absurd (omega (arith, all.0, length-append s (joined ss)))
packed_enough zero (suc n) (b ∷ rest) ss all h k = absurd (omega arith)
packed_enough (suc m) zero [] [] all h k = refl
packed_enough (suc m) zero [] (s ∷ ss) all h k = absurd (omega (arith, all.0, length-append s (joined ss)))
packed_enough (suc m) zero (b ∷ rest) ss all h k = absurd (omega arith)
packed_enough (suc m) (suc n) [] [] all h k = refl
packed_enough (suc m) (suc n) [] (s ∷ ss) all h k =
    let some = some_begins s ss all.0 in
    ap (λ (gs : List (List (List ℕ))). beginning 0 (s ∷ ss) ∷ gs)
    (packed_enough m n (left_by [] (beginning 0 (s ∷ ss))) (waiting 0 (s ∷ ss)) (waiting-have 0 (s ∷ ss) all) (smaller m [] (s ∷ ss) some h) (smaller n [] (s ∷ ss) some k))
packed_enough (suc m) (suc n) (b ∷ rest) ss all h k =
    let l = length (b ∷ rest) in
    let some : 0 < l + length (joined (beginning l ss)) = omega arith in
    ap (λ (gs : List (List (List ℕ))). beginning l ss ∷ gs)
    (packed_enough m n (left_by (b ∷ rest) (beginning l ss)) (waiting l ss) (waiting-have l ss all) (smaller m (b ∷ rest) ss some h) (smaller n (b ∷ rest) ss some k))
