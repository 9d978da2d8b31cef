-- Packets of one PID, one after the other, and where they go to.
use Rattle.std.proofs.Common.{◌≡◌, ℕ, ◌<◌, ◌≤◌, List, [], ◌∷◌, ◌++◌, length, refl, sym, ap, ap₂, ◌∙◌, subst, arith, append_assoc, append-nil}
use Rattle.std.specs.Prelude.{flat_map}
use Rattle.std.specs.List.{AllByRecursion}
use Rattle.std.proofs.lemmas.List.Concat.{flat_map-append}
use Rattle.ts_packets.specs.Packets.{Piece, piece_of, left_by, pieces, left, HasSectionByte, HaveSectionBytes, all_of, Carries, goes_alone, alone}
use Rattle.ts_packets.proofs.Carrying.{pieces-append, left-append, HaveRoom-append, Carries-append, Carries-alone, Carries-none, goes_alone-fits, none_begins}
use Rattle.air_audit.specs.Fronts.{ToCome, nothing, all_waiting, CarrySoFar, GoesTo, IsApart}
use Rattle.air_audit.proofs.Telling.{goes_one_way}

-- these packets go on with what is to come, up to what is then to come
abbrev pub Run : ToCome → List Piece → ToCome → Type 0
Run t [] u = t ≡ u
Run t (p ∷ ps) u = (v : ToCome) × GoesTo t p v × Run v ps u

-- ---- by groups

-- packets from a state on, by their groups
pub record Groups (t : ToCome) (ps : List Piece) (u : ToCome) : Type 0 where
  pub groups : List (List (List ℕ))
  pub are : ps ≡ pieces t.rest groups
  pub have_room : HaveSectionBytes t.rest groups
  pub sections : t.waiting ≡ all_of groups ++ u.waiting
  pub rest_is : u.rest ≡ left t.rest groups

pub Run-groups : (t : ToCome) (ps : List Piece) (u : ToCome) → Run t ps u → Groups t ps u
Run-groups t [] u e = record { groups = []; are = refl; have_room = tt; sections = ap (λ (x : ToCome). x.waiting) e; rest_is = ap (λ (x : ToCome). x.rest) (sym e) }
Run-groups t (p ∷ ps) u (v, one, more) = cons (Run-groups v ps u more)
  where
    cons : Groups v ps u → Groups t (p ∷ ps) u
    cons g = record {
      groups = one.group ∷ g.groups;
      are = ap₂ (λ (x : Piece) (xs : List Piece). x ∷ xs) one.is (g.are ∙ ap (λ (r : List ℕ). pieces r g.groups) one.rest_is);
      have_room = (one.has_room, subst (λ (r : List ℕ). HaveSectionBytes r g.groups) one.rest_is g.have_room);
      sections = one.waiting ∙ ap (λ (l : List (List ℕ)). one.group ++ l) g.sections ∙ sym (append_assoc one.group (all_of g.groups) u.waiting);
      rest_is = g.rest_is ∙ ap (λ (r : List ℕ). left r g.groups) one.rest_is;
    }

pub groups-Run : (gs : List (List (List ℕ))) (t u : ToCome) → HaveSectionBytes t.rest gs → t.waiting ≡ all_of gs ++ u.waiting → u.rest ≡ left t.rest gs → Run t (pieces t.rest gs) u
groups-Run [] t u room waiting rest = ap₂ (λ (r : List ℕ) (w : List (List ℕ)). let x : ToCome = record { rest = r; waiting = w } in x) (sym rest) waiting
groups-Run (g ∷ gs) t u room waiting rest =
    let v : ToCome = record { rest = left_by t.rest g; waiting = all_of gs ++ u.waiting } in
    let one : GoesTo t (piece_of t.rest g) v = record { group = g; is = refl; has_room = room.0; waiting = waiting ∙ append_assoc g (all_of gs) u.waiting; rest_is = refl } in
    (v, one, groups-Run gs v u room.1 refl rest)

pub Run-so_far : (ss : List (List ℕ)) (ps : List Piece) (t : ToCome) → Run (all_waiting ss) ps t → CarrySoFar ps ss t
Run-so_far ss ps t r = of (Run-groups (all_waiting ss) ps t r)
  where
    of : Groups (all_waiting ss) ps t → CarrySoFar ps ss t
    of g = record { groups = g.groups; are = g.are; have_room = g.have_room; sections = g.sections; rest_is = g.rest_is }

pub so_far-Run : (ss : List (List ℕ)) (ps : List Piece) (t : ToCome) → CarrySoFar ps ss t → Run (all_waiting ss) ps t
so_far-Run ss ps t c = subst (λ (l : List Piece). Run (all_waiting ss) l t) (sym c.are) (groups-Run c.groups (all_waiting ss) t c.have_room c.sections c.rest_is)

pub Carries-so_far : (ss : List (List ℕ)) (ps : List Piece) → Carries ps ss → CarrySoFar ps ss nothing
Carries-so_far ss ps c = record { groups = c.groups; are = c.are; have_room = c.have_room; sections = c.sections ∙ sym (append-nil (all_of c.groups)); rest_is = sym c.ended }

pub so_far-Carries : (ss : List (List ℕ)) (ps : List Piece) → CarrySoFar ps ss nothing → Carries ps ss
so_far-Carries ss ps c = record { groups = c.groups; are = c.are; have_room = c.have_room; sections = c.sections ∙ append-nil (all_of c.groups); ended = sym c.rest_is }

pub none_so_far : (ss : List (List ℕ)) → CarrySoFar [] ss (all_waiting ss)
none_so_far ss = record { groups = []; are = refl; have_room = tt; sections = refl; rest_is = refl }

-- ---- one way

pub Run-append : (ps qs : List Piece) (t v u : ToCome) → Run t ps v → Run v qs u → Run t (ps ++ qs) u
Run-append [] qs t v u e r = subst (λ (x : ToCome). Run x qs u) (sym e) r
Run-append (p ∷ ps) qs t v u (w, one, more) r = (w, one, Run-append ps qs w v u more r)

pub Run-cut : (ps qs : List Piece) (t u : ToCome) → Run t (ps ++ qs) u → (v : ToCome) × Run t ps v × Run v qs u
Run-cut [] qs t u r = (t, refl, r)
Run-cut (p ∷ ps) qs t u (w, one, more) = cons (Run-cut ps qs w u more)
  where
    cons : (v : ToCome) × Run w ps v × Run v qs u → (v : ToCome) × Run t (p ∷ ps) v × Run v qs u
    cons (v, front, behind) = (v, (w, one, front), behind)

still_apart : (t u : ToCome) (p : Piece) → GoesTo t p u → AllByRecursion IsApart t.waiting → AllByRecursion IsApart u.waiting
still_apart t u p h apart = behind h.group u.waiting (subst (AllByRecursion IsApart) h.waiting apart)
  where
    behind : (g w : List (List ℕ)) → AllByRecursion IsApart (g ++ w) → AllByRecursion IsApart w
    behind [] w all = all
    behind (s ∷ g) w all = behind g w all.1

pub run_one_way : (ps : List Piece) (t u v : ToCome) → AllByRecursion IsApart t.waiting → Run t ps u → Run t ps v → u ≡ v
run_one_way [] t u v apart a b = sym a ∙ b
run_one_way (p ∷ ps) t u v apart (x, one, more) (y, two, others) =
    let same : y ≡ x = goes_one_way t y x p apart two one in
    run_one_way ps x u v (still_apart t x p one apart) more (subst (λ (z : ToCome). Run z ps v) same others)

-- where nothing is to come, no packet goes on
pub nothing_goes : (p : Piece) (u : ToCome) → GoesTo nothing p u → ⊥
nothing_goes p u h = go h.group h.has_room h.waiting
  where
    go : (g : List (List ℕ)) → HasSectionByte [] g → [] ≡ g ++ u.waiting → ⊥
    go [] room e = let none : 0 < 0 = room in omega arith
    go (s ∷ g) room e = cc

pub nothing_runs : (ps : List Piece) (u : ToCome) → Run nothing ps u → ps ≡ []
nothing_runs [] u r = refl
nothing_runs (p ∷ ps) u (v, one, more) = absurd (nothing_goes p v one)

-- where nothing is to come, nothing more comes
pub nothing_stays : (ps : List Piece) (u : ToCome) → Run nothing ps u → u ≡ nothing
nothing_stays [] u r = sym r
nothing_stays (p ∷ ps) u (v, one, more) = absurd (nothing_goes p v one)

-- ---- going on to the end

abbrev alone_pieces : List (List ℕ) → List Piece
alone_pieces ss = flat_map (λ (s : List ℕ). pieces [] (alone s)) ss

-- packets that take what is to come to its end: the rest of the open section, and then each section that waits, alone
abbrev pub rest_pieces : ToCome → List Piece
rest_pieces t = pieces t.rest (goes_alone (length t.rest) t.rest) ++ alone_pieces t.waiting

Carries-alone_pieces : (ss : List (List ℕ)) → Carries (alone_pieces ss) ss
Carries-alone_pieces [] = Carries-none
Carries-alone_pieces (s ∷ ss) = Carries-append (pieces [] (alone s)) (alone_pieces ss) (s ∷ []) ss (Carries-alone s) (Carries-alone_pieces ss)

-- with them, all sections are carried
pub Carries-completed : (ps : List Piece) (ss : List (List ℕ)) (t : ToCome) → CarrySoFar ps ss t → Carries (ps ++ rest_pieces t) ss
Carries-completed ps ss t c =
    let G = goes_alone (length t.rest) t.rest in
    let fits = goes_alone-fits (length t.rest) t.rest (let e : length t.rest ≤ length t.rest = omega arith in e) in
    let front : Carries (ps ++ pieces t.rest G) (all_of c.groups) = record {
      groups = c.groups ++ G;
      are = ap₂ (λ (x : List Piece) (r : List ℕ). x ++ pieces r G) c.are c.rest_is ∙ sym (pieces-append [] c.groups G);
      have_room = HaveRoom-append [] c.groups G c.have_room (subst (λ (r : List ℕ). HaveSectionBytes r G) c.rest_is fits.0);
      sections = sym (flat_map-append (λ (g : List (List ℕ)). g) c.groups G ∙ ap (λ (l : List (List ℕ)). all_of c.groups ++ l) (none_begins (length t.rest) t.rest) ∙ append-nil (all_of c.groups));
      ended = left-append [] c.groups G ∙ ap (λ (r : List ℕ). left r G) (sym c.rest_is) ∙ fits.1;
    } in
    let both = Carries-append (ps ++ pieces t.rest G) (alone_pieces t.waiting) (all_of c.groups) t.waiting front (Carries-alone_pieces t.waiting) in
    subst (Carries (ps ++ rest_pieces t)) (sym c.sections) (subst (λ (l : List Piece). Carries l (all_of c.groups ++ t.waiting)) (append_assoc ps (pieces t.rest G) (alone_pieces t.waiting)) both)
