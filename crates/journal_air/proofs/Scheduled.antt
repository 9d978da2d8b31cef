-- The events of the sections of a schedule are those of its days.
use Rattle.std.proofs.Common.{◌≡◌, ℕ, ◌+◌, ◌-◌, ◌*◌, ◌%◌, ◌/◌, ◌<◌, ◌⊎◌, inl, inr, List, [], ◌∷◌, ◌++◌, Bool, true, false, map, refl, sym, ap, ap₂, ◌∙◌, subst, arith, take, drop}
use Rattle.std.specs.Prelude.{zero, suc, flat_map, filter, cond, nat_le, nat_lt, ◌&&◌}
use Rattle.std.specs.List.{AllByRecursion, range_with_len}
use Rattle.std.proofs.lemmas.List.{map-append, take-map, drop-map}
use Rattle.std.proofs.lemmas.List.Elements.{All-from_recursion, recursion_from_All, All-take, All-drop}
use Rattle.si_lists.proofs.Lists.{all_append, all_map}
use Rattle.guide_model.specs.declared.event.Event.{Event}
use Rattle.guide_limits.specs.Events.{start_of, block_of}
use Rattle.guide_limits.specs.Sound.{IsBefore, AreApart}
use Rattle.section_codec.specs.Contents.{numbers_from}
use Rattle.eit_segments.specs.declared.event.EventAt.{EventAt}
use Rattle.eit_segments.specs.declared.piece.Piece.{Piece}
use Rattle.eit_segments.specs.Schedule.{CanBePlaced, schedule_of, sections_in_table, section_events, table_sections, last_table, last_used}
use Rattle.eit_segments.specs.Laws.{at_of, events_of, scheduled}
use Rattle.eit_segments.proofs.Few.{filter_all}
use Rattle.eit_segments.proofs.EventsOf.{schedules_have_events}
use Rattle.journal_air.specs.Screen.{is_scheduled}

-- ---- one of some events

abbrev IsOne : List Event → Event → Type 0
IsOne [] x = Prim.⊥
IsOne (e ∷ es) x = (x ≡ e) ⊎ IsOne es x

all_are : (es : List Event) → AllByRecursion (IsOne es) es
all_are [] = tt
all_are (e ∷ es) = (inl refl, all_map (IsOne es) (IsOne (e ∷ es)) (λ x h. inr h) es (all_are es))

-- those behind one start later
later : (e : Event) (es : List Event) (x : Event) → 0 < e.seconds → AllByRecursion (IsBefore e) es → IsOne es x → start_of e < start_of x
later e [] x lasts all one = absurd one
later e (f ∷ es) x lasts all (inl same) = subst (λ (y : Event). start_of e < start_of y) (sym same) (omega (arith, lasts, all.0))
later e (f ∷ es) x lasts all (inr one) = later e es x lasts all.1 one

-- so those with one start are one
by_start : (es : List Event) → AreApart es → (x y : Event) → IsOne es x → IsOne es y → start_of x ≡ start_of y → x ≡ y
by_start [] apart x y one other e = absurd one
by_start (f ∷ es) apart x y (inl a) (inl b) e = a ∙ sym b
by_start (f ∷ es) apart x y (inl a) (inr b) e =
    let lt = later f es y apart.0 apart.1 b in
    let same : start_of x ≡ start_of f = ap start_of a in
    absurd (let z : Prim.⊥ = omega (arith, lt, same, e) in z)
by_start (f ∷ es) apart x y (inr a) (inl b) e =
    let lt = later f es x apart.0 apart.1 a in
    let same : start_of y ≡ start_of f = ap start_of b in
    absurd (let z : Prim.⊥ = omega (arith, lt, same, e) in z)
by_start (f ∷ es) apart x y (inr a) (inr b) e = by_start es apart.2 x y a b e

same_events : (es : List Event) → AreApart es → (xs ys : List Event) → AllByRecursion (IsOne es) xs → AllByRecursion (IsOne es) ys → map at_of xs ≡ map at_of ys → xs ≡ ys
same_events es apart [] [] a b e = refl
same_events es apart [] (y ∷ ys) a b e = cc
same_events es apart (x ∷ xs) [] a b e = cc
same_events es apart (x ∷ xs) (y ∷ ys) a b e =
    let first : at_of x ≡ at_of y = cc in
    let rest : map at_of xs ≡ map at_of ys = cc in
    ap₂ (λ (z : Event) (l : List Event). z ∷ l) (by_start es apart x y a.0 b.0 (ap (λ (at : EventAt). at.start.0) first)) (same_events es apart xs ys a.1 b.1 rest)

-- ---- the events of pieces, and those of the days

of_pieces : (es : List Event) (ps : List Piece) → AllByRecursion (IsOne es) (flat_map (λ (p : Piece). section_events p es) ps)
of_pieces es [] = tt
of_pieces es (p ∷ ps) =
    all_append (IsOne es) (section_events p es) (flat_map (λ (q : Piece). section_events q es) ps)
    (recursion_from_All (IsOne es) (section_events p es)
    (All-take (IsOne es) (p.to - p.from) (drop p.from es) (All-drop (IsOne es) p.from es (All-from_recursion (IsOne es) es (all_are es)))))
    (of_pieces es ps)

ats_of_pieces : (es : List Event) (ps : List Piece) → map at_of (flat_map (λ (p : Piece). section_events p es) ps) ≡ flat_map (events_of (map at_of es)) ps
ats_of_pieces es [] = refl
ats_of_pieces es (p ∷ ps) =
    map-append at_of (section_events p es) (flat_map (λ (q : Piece). section_events q es) ps)
    ∙ ap₂ (λ (l m : List EventAt). l ++ m)
    (sym (ap (take (p.to - p.from)) (drop-map at_of p.from es) ∙ take-map at_of (p.to - p.from) (drop p.from es))) (ats_of_pieces es ps)

ats_scheduled : (day : ℕ) (es : List Event) → map at_of (filter (is_scheduled day) es) ≡ scheduled day (map at_of es)
ats_scheduled day [] = refl
ats_scheduled day (e ∷ es) = go (nat_le day (start_of e) && nat_lt (start_of e) (day + 5529600)) (ats_scheduled day es)
  where
    go : (b : Bool) → map at_of (filter (is_scheduled day) es) ≡ scheduled day (map at_of es)
        → map at_of (cond b (e ∷ filter (is_scheduled day) es) (filter (is_scheduled day) es)) ≡ cond b (at_of e ∷ scheduled day (map at_of es)) (scheduled day (map at_of es))
    go true rest = ap (λ (l : List EventAt). at_of e ∷ l) rest
    go false rest = rest

-- the sections of a schedule have the events of its days
pub pieces_scheduled : (day : ℕ) (es : List Event) → day % 86400 ≡ 0 → AreApart es → CanBePlaced (map at_of es)
    → flat_map (λ (p : Piece). section_events p es) (schedule_of day (map at_of es)) ≡ filter (is_scheduled day) es
pieces_scheduled day es midnight apart placed =
    same_events es apart (flat_map (λ (p : Piece). section_events p es) (schedule_of day (map at_of es))) (filter (is_scheduled day) es)
    (of_pieces es (schedule_of day (map at_of es))) (filter_all (IsOne es) (is_scheduled day) es (all_are es))
    (ats_of_pieces es (schedule_of day (map at_of es)) ∙ schedules_have_events day (map at_of es) midnight placed ∙ sym (ats_scheduled day es))

-- ---- table by table

tables_from : (day : ℕ) (ats : List EventAt) (m k : ℕ)
    → flat_map (λ (table : ℕ). sections_in_table day table ats) (numbers_from (80 + m) k)
    ≡ flat_map (λ (table : ℕ). table_sections (80 + table) (block_of day + 32 * table) ats) (range_with_len m k)
tables_from day ats m zero = refl
tables_from day ats m (suc k) =
    ap₂ (λ (n : ℕ) (l : List Piece). table_sections (80 + m) (block_of day + 32 * n) ats ++ l) (let e : (80 + m) - 0x50 ≡ m = omega arith in e)
    (ap (λ (n : ℕ). flat_map (λ (table : ℕ). sections_in_table day table ats) (numbers_from n k)) (let e : 1 + (80 + m) ≡ 80 + (m + 1) = omega arith in e)
    ∙ tables_from day ats (m + 1) k)

pub all_tables : (day : ℕ) (ats : List EventAt) → flat_map (λ (table : ℕ). sections_in_table day table ats) (numbers_from 0x50 (1 + last_table day ats - 0x50)) ≡ schedule_of day ats
all_tables day ats =
    ap (λ (k : ℕ). flat_map (λ (table : ℕ). sections_in_table day table ats) (numbers_from 0x50 k))
    (let e : 1 + last_table day ats - 0x50 ≡ last_used (block_of day) 512 ats / 32 + 1 = omega arith in e)
    ∙ tables_from day ats 0 (last_used (block_of day) 512 ats / 32 + 1)
