-- Packets carry sections: one list after the other, and a section alone in its packets.
use Rattle.std.proofs.Common.{◌≡◌, ℕ, zero, suc, ◌+◌, ◌*◌, ◌/◌, ◌<◌, ◌≤◌, List, [], ◌∷◌, ◌++◌, Some, length, refl, sym, ap, ap₂, ◌∙◌, subst, arith, take, drop, append_assoc, append-nil, length-drop, take-append-drop}
use Rattle.std.specs.Prelude.{slice_get}
use Rattle.std.specs.List.{AllByRecursion}
use Rattle.ts_packets.proofs.Filling.{length-payload}
use Rattle.std.proofs.lemmas.List.{drop-drop}
use Rattle.std.proofs.lemmas.List.Concat.{flat_map-append}
use Rattle.ts_packets.specs.Packets.{Piece, IsWhole, joined, piece_of, left_by, pieces, left, HaveSectionBytes, all_of, Carries, all_useful, goes_alone, alone, packets_of}

pub pieces-append : (rest : List ℕ) (gs hs : List (List (List ℕ))) → pieces rest (gs ++ hs) ≡ pieces rest gs ++ pieces (left rest gs) hs
pieces-append rest [] hs = refl
pieces-append rest (g ∷ gs) hs = ap (λ (x : List Piece). piece_of rest g ∷ x) (pieces-append (left_by rest g) gs hs)

pub left-append : (rest : List ℕ) (gs hs : List (List (List ℕ))) → left rest (gs ++ hs) ≡ left (left rest gs) hs
left-append rest [] hs = refl
left-append rest (g ∷ gs) hs = left-append (left_by rest g) gs hs

pub HaveRoom-append : (rest : List ℕ) (gs hs : List (List (List ℕ))) → HaveSectionBytes rest gs → HaveSectionBytes (left rest gs) hs → HaveSectionBytes rest (gs ++ hs)
HaveRoom-append rest [] hs p q = q
HaveRoom-append rest (g ∷ gs) hs p q = (p.0, HaveRoom-append (left_by rest g) gs hs p.1 q)

pub length-pieces : (rest : List ℕ) (gs : List (List (List ℕ))) → length (pieces rest gs) ≡ length gs
length-pieces rest [] = refl
length-pieces rest (g ∷ gs) = ap suc (length-pieces (left_by rest g) gs)

-- no packet, no section
pub Carries-none : Carries [] []
Carries-none = record { groups = []; are = refl; have_room = tt; sections = refl; ended = refl }

-- no section, no packet
pub Carries-nothing : (ps : List Piece) → Carries ps [] → ps ≡ []
Carries-nothing ps c = c.are ∙ ap (pieces []) (no_group c.groups c.have_room c.sections)
  where
    no_group : (groups : List (List (List ℕ))) → HaveSectionBytes [] groups → [] ≡ all_of groups → groups ≡ []
    no_group [] room e = refl
    no_group ([] ∷ groups) room e = absurd (let none : 0 < 0 = room.0 in omega arith)
    no_group ((s ∷ ss) ∷ groups) room e = cc

pieces-whole : (rest : List ℕ) (gs : List (List (List ℕ))) → AllByRecursion IsWhole (pieces rest gs)
pieces-whole rest [] = tt
pieces-whole rest (g ∷ gs) = (length-payload rest g, pieces-whole (left_by rest g) gs)

-- packets that carry sections are whole
pub Carries-whole : (ps : List Piece) (ss : List (List ℕ)) → Carries ps ss → AllByRecursion IsWhole ps
Carries-whole ps ss c = subst (AllByRecursion IsWhole) (sym c.are) (pieces-whole [] c.groups)

-- packets that carry sections, one list after the other
pub Carries-append : (ps qs : List Piece) (ss ts : List (List ℕ)) → Carries ps ss → Carries qs ts → Carries (ps ++ qs) (ss ++ ts)
Carries-append ps qs ss ts a b = record {
  groups = a.groups ++ b.groups;
  are = ap₂ (λ (x y : List Piece). x ++ y) a.are (b.are ∙ ap (λ (r : List ℕ). pieces r b.groups) (sym a.ended)) ∙ sym (pieces-append [] a.groups b.groups);
  have_room = HaveRoom-append [] a.groups b.groups a.have_room (subst (λ (r : List ℕ). HaveSectionBytes r b.groups) (sym a.ended) b.have_room);
  sections = ap₂ (λ (x y : List (List ℕ)). x ++ y) a.sections b.sections ∙ sym (flat_map-append (λ (g : List (List ℕ)). g) a.groups b.groups);
  ended = left-append [] a.groups b.groups ∙ ap (λ (r : List ℕ). left r b.groups) a.ended ∙ b.ended;
}

-- the payloads without pointers and fill, joined, are the sections joined
pub joined_useful : (rest : List ℕ) (groups : List (List (List ℕ))) → left rest groups ≡ [] → all_useful rest groups ≡ rest ++ joined (all_of groups)
joined_useful rest [] e = sym e ∙ sym (append-nil rest)
joined_useful rest ([] ∷ groups) e =
    ap (λ (x : List ℕ). take 184 rest ++ x) (joined_useful (drop 184 rest) groups e) ∙ sym (append_assoc (take 184 rest) (drop 184 rest) (joined (all_of groups)))
    ∙ ap (λ (x : List ℕ). x ++ joined (all_of groups)) (take-append-drop 184 rest)
joined_useful rest ((s ∷ ss) ∷ groups) e =
    let J = rest ++ joined (s ∷ ss) in
    ap (λ (x : List ℕ). take 183 J ++ x) (joined_useful (drop 183 J) groups e) ∙ sym (append_assoc (take 183 J) (drop 183 J) (joined (all_of groups)))
    ∙ ap (λ (x : List ℕ). x ++ joined (all_of groups)) (take-append-drop 183 J)
    ∙ append_assoc rest (joined (s ∷ ss)) (joined (all_of groups)) ∙ ap (λ (x : List ℕ). rest ++ x) (sym (flat_map-append (λ (x : List ℕ). x) (s ∷ ss) (all_of groups)))

-- packets that go on with a section alone hold it to its end
pub goes_alone-fits : (n : ℕ) (rest : List ℕ) → length rest ≤ n → HaveSectionBytes rest (goes_alone n rest) × (left rest (goes_alone n rest) ≡ [])
goes_alone-fits zero [] h = (tt, refl)
goes_alone-fits zero (b ∷ rest) h = absurd (omega arith)
goes_alone-fits (suc n) [] h = (tt, refl)
goes_alone-fits (suc n) (b ∷ rest) h =
    let r = goes_alone-fits n (drop 184 (b ∷ rest)) (omega (arith, length-drop 184 (b ∷ rest))) in
    let some : 0 < length (b ∷ rest) = omega arith in
    ((some, r.0), r.1)

behind_first : (s : List ℕ) → left_by [] (s ∷ []) ≡ drop 183 s
behind_first s = ap (drop 183) (append-nil s)

alone-fits : (s : List ℕ) → HaveSectionBytes [] (alone s) × (left [] (alone s) ≡ [])
alone-fits s =
    let r = goes_alone-fits (length s) (drop 183 s) (omega (arith, length-drop 183 s)) in
    let small : 0 < 183 = omega arith in (
      ((small, tt), subst (λ (x : List ℕ). HaveSectionBytes x (goes_alone (length s) (drop 183 s))) (sym (behind_first s)) r.0),
      ap (λ (x : List ℕ). left x (goes_alone (length s) (drop 183 s))) (behind_first s) ∙ r.1,
    )

-- in them no section begins
pub none_begins : (n : ℕ) (rest : List ℕ) → all_of (goes_alone n rest) ≡ []
none_begins zero rest = refl
none_begins (suc n) [] = refl
none_begins (suc n) (b ∷ rest) = none_begins n (drop 184 (b ∷ rest))

-- a section alone is carried by its packets
pub Carries-alone : (s : List ℕ) → Carries (pieces [] (alone s)) (s ∷ [])
Carries-alone s = record { groups = alone s; are = refl; have_room = (alone-fits s).0; sections = ap (λ (x : List (List ℕ)). s ∷ x) (sym (none_begins (length s) (drop 183 s))); ended = (alone-fits s).1 }

length-goes_alone : (n : ℕ) (rest : List ℕ) → length rest ≤ n → length (goes_alone n rest) ≡ (length rest + 183) / 184
length-goes_alone zero [] h = refl
length-goes_alone zero (b ∷ rest) h = absurd (omega arith)
length-goes_alone (suc n) [] h = refl
length-goes_alone (suc n) (b ∷ rest) h =
    let r = length-goes_alone n (drop 184 (b ∷ rest)) (omega (arith, length-drop 184 (b ∷ rest))) in
    omega (arith, r, length-drop 184 (b ∷ rest))

pub length-alone : (s : List ℕ) → 0 < length s → length (alone s) ≡ packets_of (length s)
length-alone s some = omega (arith, length-goes_alone (length s) (drop 183 s) (omega (arith, length-drop 183 s)), length-drop 183 s)

-- the piece at a place among those of a section alone
abbrev pub piece_at : List ℕ → ℕ → Piece
piece_at s zero = piece_of [] (s ∷ [])
piece_at s (suc i) = piece_of (drop (183 + 184 * i) s) []

at_further : (n i : ℕ) (rest : List ℕ) → length rest ≤ n → 184 * i < length rest → slice_get (pieces rest (goes_alone n rest)) i ≡ Some (piece_of (drop (184 * i) rest) [])
at_further zero i [] h lt = absurd (omega arith)
at_further zero i (b ∷ rest) h lt = absurd (omega arith)
at_further (suc n) i [] h lt = absurd (omega arith)
at_further (suc n) zero (b ∷ rest) h lt = refl
at_further (suc n) (suc i) (b ∷ rest) h lt =
    at_further n i (drop 184 (b ∷ rest)) (omega (arith, length-drop 184 (b ∷ rest))) (omega (arith, length-drop 184 (b ∷ rest)))
    ∙ ap (λ (x : List ℕ). Some (piece_of x [])) (drop-drop (184 * i) 184 (b ∷ rest) ∙ ap (λ (k : ℕ). drop k (b ∷ rest)) (let e : 184 + 184 * i ≡ 184 * suc i = omega arith in e))

pub at_alone : (s : List ℕ) (i : ℕ) → i < packets_of (length s) → slice_get (pieces [] (alone s)) i ≡ Some (piece_at s i)
at_alone s zero lt = refl
at_alone s (suc i) lt =
    ap (λ (x : List ℕ). slice_get (pieces x (goes_alone (length s) (drop 183 s))) i) (behind_first s)
    ∙ at_further (length s) i (drop 183 s) (omega (arith, length-drop 183 s)) (omega (arith, length-drop 183 s))
    ∙ ap (λ (x : List ℕ). Some (piece_of x [])) (drop-drop (184 * i) 183 s)
