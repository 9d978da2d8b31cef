-- What a packet is told to be is where it goes to.
use Rattle.std.proofs.Common.{◌≡◌, ℕ, zero, suc, ◌-◌, ◌<◌, ◌≤◌, List, [], ◌∷◌, ◌++◌, Bool, true, false, length, refl, sym, ap, ap₂, ◌∙◌, subst, arith, drop, append-nil, ne_eqb, eq-eqb, length-drop}
use Rattle.std.specs.Prelude.{◌==◌, ◌&&◌, ◌||◌, not, nat_le, if◌then◌else◌, Result, Ok, Err}
use Rattle.std.specs.List.{AllByRecursion}
use Rattle.std.proofs.lemmas.Bool.{eqb-true, and_parts, and_from, leb-true, le-leb}
use Rattle.si_lists.proofs.Parts.{drop_behind}
use Rattle.ts_packets.specs.Packets.{Piece, joined, filled, piece_of, left_by, Begin, HasSectionByte}
use Rattle.ts_packets.proofs.Filling.{length-filled}
use Rattle.air_model.specs.declared.rule.Rule.{Rule}
use Rattle.air_model.specs.declared.rule.Rule.TheVariants.{Pointer, Bytes}
use Rattle.air_audit.specs.Fronts.{ToCome, GoesTo, IsApart}
use Rattle.air_audit.specs.Telling.{is_fill, is_front, begun_in, begins_in, is_pointer, told_start, told_further, told}
use Rattle.air_audit.proofs.Filling.{fill_is, is_fill-filled, drop-filled, is_front-filled, filled_front, Fit, Fit-Begin, Begin-Fit, rest_behind, rest_is}

abbrev to_come : List ℕ → List (List ℕ) → ToCome
to_come rest ss = record { rest = rest; waiting = ss }

-- ---- a packet that goes on is told so

told_none : (rest : List ℕ) (n : ℕ) (w : List (List ℕ)) → begun_in rest (filled n []) w ≡ Ok (to_come rest w)
told_none rest n [] = ap (λ (b : Bool). if b then Ok (to_come rest []) else Err Bytes) (is_fill-filled n)
told_none rest zero (s ∷ w) = refl
told_none rest (suc n) (s ∷ w) = ap (λ (b : Bool). if b then Ok (to_come rest (s ∷ w)) else Err Bytes) (is_fill-filled n)

told_begun : (rest : List ℕ) (n : ℕ) (g w : List (List ℕ)) → Fit n g → AllByRecursion IsApart g → begun_in rest (filled n (joined g)) (g ++ w) ≡ Ok (to_come (rest_behind rest n g) w)
told_begun rest n [] w fit apart = told_none rest n w
told_begun rest n ([] ∷ g) w fit apart = absurd apart.0
told_begun rest zero ((b ∷ s) ∷ g) w fit apart = absurd (omega (arith, fit.0))
told_begun rest (suc n) ((b ∷ s) ∷ g) w fit apart =
    let bytes = filled (suc n) ((b ∷ s) ++ joined g) in
    let next = λ (k : ℕ) (l : List ℕ). begun_in (drop k (b ∷ s)) l (g ++ w) in
    ap (λ (x : Bool). if x then (if is_fill bytes then Ok (to_come rest ((b ∷ s) ∷ g ++ w)) else Err Bytes) else if is_front (b ∷ s) bytes then next (length bytes) (drop (length (b ∷ s)) bytes) else Err Bytes) (ne_eqb b 255 apart.0)
    ∙ ap (λ (x : Bool). if x then next (length bytes) (drop (length (b ∷ s)) bytes) else Err Bytes) (is_front-filled (b ∷ s) (joined g) (suc n))
    ∙ ap₂ next (length-filled (suc n) ((b ∷ s) ++ joined g)) (drop-filled (b ∷ s) (joined g) (suc n))
    ∙ told_begun (drop (suc n) (b ∷ s)) (suc n - length (b ∷ s)) g w fit.1 apart.1

told_begins : (n : ℕ) (s : List ℕ) (g w : List (List ℕ)) → Fit n (s ∷ g) → AllByRecursion IsApart (s ∷ g) → begins_in (filled n (joined (s ∷ g))) ((s ∷ g) ++ w) ≡ Ok (to_come (rest_behind [] n (s ∷ g)) w)
told_begins n [] g w fit apart = absurd apart.0
told_begins zero (b ∷ s) g w fit apart = absurd (omega (arith, fit.0))
told_begins (suc n) (b ∷ s) g w fit apart =
    ap (λ (x : Bool). if x then Err Bytes else begun_in [] (filled (suc n) ((b ∷ s) ++ joined g)) (((b ∷ s) ∷ g) ++ w)) (ne_eqb b 255 apart.0)
    ∙ told_begun [] (suc n) ((b ∷ s) ∷ g) w fit apart

front_apart : (g w : List (List ℕ)) → AllByRecursion IsApart (g ++ w) → AllByRecursion IsApart g
front_apart [] w h = tt
front_apart (s ∷ g) w h = (h.0, front_apart g w h.1)

start_told : (rest s : List ℕ) (g w : List (List ℕ)) → Begin (length rest) (s ∷ g) → AllByRecursion IsApart (s ∷ g) →
    told_start (to_come rest ((s ∷ g) ++ w)) (piece_of rest (s ∷ g)).payload ≡ Ok (to_come (left_by rest (s ∷ g)) w)
start_told rest s g w room apart =
    let bytes = filled 183 (rest ++ joined (s ∷ g)) in
    let n = 183 - length rest in
    let fit = Fit-Begin (length rest) n (s ∷ g) refl room in
    let goes = begins_in (drop (length rest) bytes) ((s ∷ g) ++ w) in
    let pointer : is_pointer (length rest) rest ≡ true = and_from (length rest == length rest) (nat_le (length rest) 182) (eq-eqb (length rest) (length rest) refl) (le-leb (length rest) 182 (omega (arith, room.0))) in
    let behind : rest_behind [] n (s ∷ g) ≡ left_by rest (s ∷ g) = rest_is n [] s g fit ∙ sym (drop_behind 183 rest (joined (s ∷ g)) (omega (arith, room.0))) in
    ap (λ (x : Bool). if false || not x then Err Pointer else if is_front rest bytes then goes else Err Bytes) pointer
    ∙ ap (λ (x : Bool). if x then goes else Err Bytes) (is_front-filled rest (joined (s ∷ g)) 183)
    ∙ ap (λ (l : List ℕ). begins_in l ((s ∷ g) ++ w)) (drop-filled rest (joined (s ∷ g)) 183)
    ∙ told_begins n s g w fit apart
    ∙ ap (λ (l : List ℕ). Ok (to_come l w)) behind

further_told : (rest : List ℕ) (w : List (List ℕ)) → 0 < length rest → told_further (to_come rest w) (filled 184 rest) ≡ Ok (to_come (drop 184 rest) w)
further_told [] w some = absurd (omega arith)
further_told (b ∷ bytes) w some =
    let rest = b ∷ bytes in
    let payload = filled 184 rest in
    let front : is_front rest payload ≡ true = subst (λ (l : List ℕ). is_front rest (filled 184 l) ≡ true) (append-nil rest) (is_front-filled rest [] 184) in
    let fill : is_fill (drop (length rest) payload) ≡ true =
    subst (λ (l : List ℕ). is_fill (drop (length rest) (filled 184 l)) ≡ true) (append-nil rest) (ap is_fill (drop-filled rest [] 184) ∙ is_fill-filled (184 - length rest)) in
    ap₂ (λ (x y : Bool). if x && y then Ok (to_come (drop (length payload) rest) w) else Err Bytes) front fill
    ∙ ap (λ (k : ℕ). Ok (to_come (drop k rest) w)) (length-filled 184 rest)

pub goes-told : (t u : ToCome) (p : Piece) → GoesTo t p u → AllByRecursion IsApart t.waiting → told t p ≡ Ok u
goes-told t u p h apart = ap (told t) h.is ∙ go h.group h.has_room h.waiting h.rest_is
  where
    go : (g : List (List ℕ)) → HasSectionByte t.rest g → t.waiting ≡ g ++ u.waiting → u.rest ≡ left_by t.rest g → told t (piece_of t.rest g) ≡ Ok u
    go [] room waiting rest =
        further_told t.rest t.waiting room ∙ ap₂ (λ (l : List ℕ) (w : List (List ℕ)). Ok (to_come l w)) (sym rest) waiting
    go (s ∷ g) room waiting rest =
        ap (λ (w : List (List ℕ)). told_start (to_come t.rest w) (piece_of t.rest (s ∷ g)).payload) waiting
        ∙ start_told t.rest s g u.waiting room (front_apart (s ∷ g) u.waiting (subst (AllByRecursion IsApart) waiting apart))
        ∙ ap (λ (l : List ℕ). Ok (to_come l u.waiting)) (sym rest)

-- ---- a packet that is told to go on does

-- the sections that begin in these bytes of a payload, and what is then to come
record Begun (rest bytes : List ℕ) (ss : List (List ℕ)) (u : ToCome) : Type 0 where
  group : List (List ℕ)
  fit : Fit (length bytes) group
  bytes_are : bytes ≡ filled (length bytes) (joined group)
  sections : ss ≡ group ++ u.waiting
  rest_is : u.rest ≡ rest_behind rest (length bytes) group

begun_none : (rest bytes : List ℕ) (ss : List (List ℕ)) (u : ToCome) → (if is_fill bytes then Ok (to_come rest ss) else Err Bytes) ≡ Ok u → Begun rest bytes ss u
begun_none rest bytes ss u = go (is_fill bytes) refl
  where
    go : (b : Bool) → is_fill bytes ≡ b → (if b then Ok (to_come rest ss) else Err Bytes) ≡ Ok u → Begun rest bytes ss u
    go true fill e =
        let same : to_come rest ss ≡ u = cc in
        record { group = []; fit = tt; bytes_are = fill_is bytes fill; sections = ap (λ (t : ToCome). t.waiting) same; rest_is = ap (λ (t : ToCome). t.rest) (sym same) }
    go false fill e = cc

begun_one : (rest bytes s : List ℕ) (ss : List (List ℕ)) (u : ToCome) → 0 < length bytes → is_front s bytes ≡ true → (h : Begun (drop (length bytes) s) (drop (length s) bytes) ss u) → Begun rest bytes (s ∷ ss) u
begun_one rest bytes s ss u some front h =
    let room : length (drop (length s) bytes) ≡ length bytes - length s = length-drop (length s) bytes in
    record {
      group = s ∷ h.group;
      fit = (some, subst (λ (k : ℕ). Fit k h.group) room h.fit);
      bytes_are = filled_front s (joined h.group) bytes front h.bytes_are;
      sections = ap (λ (l : List (List ℕ)). s ∷ l) h.sections;
      rest_is = h.rest_is ∙ ap (λ (k : ℕ). rest_behind (drop (length bytes) s) k h.group) room;
    }

begun_sound : (ss : List (List ℕ)) (rest bytes : List ℕ) (u : ToCome) → begun_in rest bytes ss ≡ Ok u → Begun rest bytes ss u
begun_sound [] rest bytes u e = begun_none rest bytes [] u e
begun_sound (s ∷ ss) rest [] u e =
    let same : to_come rest (s ∷ ss) ≡ u = cc in
    record { group = []; fit = tt; bytes_are = refl; sections = ap (λ (t : ToCome). t.waiting) same; rest_is = ap (λ (t : ToCome). t.rest) (sym same) }
begun_sound (s ∷ ss) rest (b ∷ bytes) u e = go (b == 255) (is_front s (b ∷ bytes)) refl (begun_sound ss (drop (length (b ∷ bytes)) s) (drop (length s) (b ∷ bytes)) u) e
  where
    all : List ℕ
    all = b ∷ bytes

    go : (x y : Bool) → is_front s (b ∷ bytes) ≡ y
        → (begun_in (drop (length (b ∷ bytes)) s) (drop (length s) (b ∷ bytes)) ss ≡ Ok u → Begun (drop (length (b ∷ bytes)) s) (drop (length s) (b ∷ bytes)) ss u)
        → (if x then (if is_fill (b ∷ bytes) then Ok (to_come rest (s ∷ ss)) else Err Bytes) else if y then begun_in (drop (length (b ∷ bytes)) s) (drop (length s) (b ∷ bytes)) ss else Err Bytes) ≡ Ok u
        → Begun rest (b ∷ bytes) (s ∷ ss) u
    go true y front rec e = begun_none rest (b ∷ bytes) (s ∷ ss) u e
    go false true front rec e = begun_one rest (b ∷ bytes) s ss u (omega arith) front (rec e)
    go false false front rec e = cc

-- the same where the first section has to begin
record BeginsWith (bytes s : List ℕ) (ss : List (List ℕ)) (u : ToCome) : Type 0 where
  group : List (List ℕ)
  fit : Fit (length bytes) (s ∷ group)
  bytes_are : bytes ≡ filled (length bytes) (joined (s ∷ group))
  sections : ss ≡ group ++ u.waiting
  rest_is : u.rest ≡ rest_behind [] (length bytes) (s ∷ group)

begins_sound : (bytes s : List ℕ) (ss : List (List ℕ)) (u : ToCome) → begins_in bytes (s ∷ ss) ≡ Ok u → BeginsWith bytes s ss u
unfolding begun_one
begins_sound [] s ss u e = cc
begins_sound (b ∷ bytes) s ss u e = go (b == 255) (is_front s (b ∷ bytes)) refl e
  where
    go : (x y : Bool) → is_front s (b ∷ bytes) ≡ y
        → (if x then Err Bytes else if x then (if is_fill (b ∷ bytes) then Ok (to_come [] (s ∷ ss)) else Err Bytes) else if y then begun_in (drop (length (b ∷ bytes)) s) (drop (length s) (b ∷ bytes)) ss else Err Bytes) ≡ Ok u
        → BeginsWith (b ∷ bytes) s ss u
    go true y front e = cc
    go false false front e = cc
    go false true front e =
        let h = begun_sound ss (drop (length (b ∷ bytes)) s) (drop (length s) (b ∷ bytes)) u e in
        let one = begun_one [] (b ∷ bytes) s ss u (omega arith) front h in
        record { group = h.group; fit = one.fit; bytes_are = one.bytes_are; sections = h.sections; rest_is = one.rest_is }

start_sound : (rest payload : List ℕ) (w : List (List ℕ)) (u : ToCome) → length payload ≡ 184 → told_start (to_come rest w) payload ≡ Ok u → GoesTo (to_come rest w) (record { start = true; payload = payload }) u
start_sound rest [] w u size e = absurd (omega arith)
start_sound rest (pointer ∷ bytes) [] u size e = cc
start_sound rest (pointer ∷ bytes) (s ∷ w) u size e = go (is_pointer pointer rest) (is_front rest bytes) refl refl e
  where
    go : (x z : Bool) → is_pointer pointer rest ≡ x → is_front rest bytes ≡ z
        → (if false || not x then Err Pointer else if z then begins_in (drop (length rest) bytes) (s ∷ w) else Err Bytes) ≡ Ok u
        → GoesTo (to_come rest (s ∷ w)) (record { start = true; payload = pointer ∷ bytes }) u
    go false z p r e = cc
    go true false p r e = cc
    go true true p r e =
        let h = begins_sound (drop (length rest) bytes) s w u e in
        let both = and_parts (pointer == length rest) (nat_le pointer 182) p in
        let at : pointer ≡ length rest = eqb-true pointer (length rest) both.0 in
        let small : pointer ≤ 182 = leb-true pointer 182 both.1 in
        let room : length (drop (length rest) bytes) ≡ 183 - length rest = length-drop (length rest) bytes ∙ (let f : length bytes - length rest ≡ 183 - length rest = omega arith in f) in
        let fit = subst (λ (k : ℕ). Fit k (s ∷ h.group)) room h.fit in
        let all : bytes ≡ filled 183 (rest ++ joined (s ∷ h.group)) =
        filled_front rest (joined (s ∷ h.group)) bytes r h.bytes_are ∙ ap (λ (k : ℕ). filled k (rest ++ joined (s ∷ h.group))) (let f : length bytes ≡ 183 = omega arith in f) in
        record {
          group = s ∷ h.group;
          is = ap₂ (λ (k : ℕ) (l : List ℕ). let piece : Piece = record { start = true; payload = k ∷ l } in piece) at all;
          has_room = Begin-Fit (length rest) (183 - length rest) (s ∷ h.group) refl fit;
          waiting = ap (λ (l : List (List ℕ)). s ∷ l) h.sections;
          rest_is = h.rest_is ∙ ap (λ (k : ℕ). rest_behind [] k (s ∷ h.group)) room ∙ rest_is (183 - length rest) [] s h.group fit ∙ sym (drop_behind 183 rest (joined (s ∷ h.group)) (omega arith));
        }

further_sound : (rest payload : List ℕ) (w : List (List ℕ)) (u : ToCome) → length payload ≡ 184 → told_further (to_come rest w) payload ≡ Ok u → GoesTo (to_come rest w) (record { start = false; payload = payload }) u
further_sound [] payload w u size e = cc
further_sound (b ∷ rest) payload w u size e = go (is_front (b ∷ rest) payload) (is_fill (drop (length (b ∷ rest)) payload)) refl refl e
  where
    go : (x y : Bool) → is_front (b ∷ rest) payload ≡ x → is_fill (drop (length (b ∷ rest)) payload) ≡ y
        → (if x && y then Ok (to_come (drop (length payload) (b ∷ rest)) w) else Err Bytes) ≡ Ok u → GoesTo (to_come (b ∷ rest) w) (record { start = false; payload = payload }) u
    go false y p q e = cc
    go true false p q e = cc
    go true true p q e =
        let same : to_come (drop (length payload) (b ∷ rest)) w ≡ u = cc in
        let all : payload ≡ filled 184 (b ∷ rest) =
        filled_front (b ∷ rest) [] payload p (fill_is (drop (length (b ∷ rest)) payload) q) ∙ ap₂ filled size (append-nil (b ∷ rest)) in
        record {
          group = [];
          is = ap (λ (l : List ℕ). let piece : Piece = record { start = false; payload = l } in piece) all;
          has_room = omega arith;
          waiting = ap (λ (t : ToCome). t.waiting) same;
          rest_is = ap (λ (t : ToCome). t.rest) (sym same) ∙ ap (λ (k : ℕ). drop k (b ∷ rest)) size;
        }

pub told-goes : (t u : ToCome) (start : Bool) (payload : List ℕ) → length payload ≡ 184 → told t (record { start = start; payload = payload }) ≡ Ok u → GoesTo t (record { start = start; payload = payload }) u
told-goes t u true payload size e = start_sound t.rest payload t.waiting u size e
told-goes t u false payload size e = further_sound t.rest payload t.waiting u size e

-- a packet goes to one place
pub goes_one_way : (t u v : ToCome) (p : Piece) → AllByRecursion IsApart t.waiting → GoesTo t p u → GoesTo t p v → u ≡ v
goes_one_way t u v p apart h k =
    let one : Ok u ≡ Ok v = sym (goes-told t u p h apart) ∙ goes-told t v p k apart in
    same_ok u v one
  where
    same_ok : (a b : ToCome) → (let x : Result ToCome Rule = Ok a in x) ≡ Ok b → a ≡ b
    same_ok a b e = cc
