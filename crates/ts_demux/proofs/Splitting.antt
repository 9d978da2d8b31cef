-- What is heard over a break.
use Rattle.std.proofs.Common.{◌≡◌, ℕ, List, [], ◌∷◌, ◌++◌, Bool, true, false, ◌==◌, Option, Some, None, refl, sym, ap, ap₂, ◌∙◌, append_assoc}
use Rattle.std.specs.Prelude.{if◌then◌else◌, not, flat_map, bytes_eq}
use Rattle.std.proofs.lemmas.Bool.{and_parts, not-true, eqb-true}
use Rattle.std.proofs.lemmas.Slice.Eq.{bytes_eq-Decides}
use Rattle.ts_packets.specs.Counting.{Load}
use Rattle.ts_demux.specs.Arrivals.{Arrival, Arrival.Gap, Arrival.Came, heard_of}
use Rattle.ts_demux.specs.Keeping.{PidState, nothing, Seen, seen, last_load}
use Rattle.ts_demux.specs.Steps.{is_again, is_next, still_open, given_by, open_behind, given_after, kept_after, kept_behind}
use Rattle.ts_demux.proofs.Stretches.{given_all, given_all-is}
use Rattle.ts_demux.specs.Breaks.{Before, Before.Never, Before.AtGap, Before.Had, seen_before, before_all, is_break, onto_first, parts, ends_in_gap, before_by}
use Rattle.ts_demux.specs.BreakLaws.{BreaksSplit, PartsAreHeard, FlagTells}

given_all-append : (kept : PidState) (xs ys : List Arrival) → given_all kept (xs ++ ys) ≡ given_all kept xs ++ given_all (kept_behind kept xs) ys
given_all-append kept [] ys = refl
given_all-append kept (x ∷ xs) ys =
    ap (λ (z : List (List ℕ)). given_after kept x ++ z) (given_all-append (kept_after kept x) xs ys)
    ∙ sym (append_assoc (given_after kept x) (given_all (kept_after kept x) xs) (given_all (kept_behind (kept_after kept x) xs) ys))

-- what a demux keeps as its last load is what came last
abbrev pub last_in : Before → Option Seen
last_in Never = None
last_in AtGap = None
last_in (Had last) = Some last

-- nothing is open where no load came last
abbrev pub IsClosed : Before → PidState → Type 0
IsClosed Never kept = kept.section ≡ None
IsClosed AtGap kept = kept.section ≡ None
IsClosed (Had last) kept = Unit {0}

pub record Fits (before : Before) (kept : PidState) : Type 0 where
  pub last : kept.last ≡ last_in before
  pub closed : IsClosed before kept

same_seen : (last : Option Seen) (l : Load) → is_again last l ≡ true → last ≡ Some (seen l)
same_seen None l e = cc
same_seen (Some last) l e =
    let both = and_parts (last.counter == l.counter) (bytes_eq last.payload l.piece.payload) e in
    ap₂ (λ (n : ℕ) (p : List ℕ). Some (let x : Seen = record { counter = n; payload = p } in x)) (eqb-true last.counter l.counter both.0) ((bytes_eq-Decides last.payload l.piece.payload).0 both.1)

-- behind an arrival the demux keeps it as the last
pub fits_after : (kept : PidState) (x : Arrival) → Fits (seen_before x) (kept_after kept x)
fits_after kept Gap = record { last = refl; closed = refl }
fits_after kept (Came l) = go (is_again kept.last l) refl
  where
    new : PidState
    new = record { last = Some (seen l); section = open_behind (still_open (is_next kept.last l) kept.section) l.piece }

    go : (b : Bool) → is_again kept.last l ≡ b → Fits (Had (seen l)) (if b then kept else new)
    go true e = record { last = same_seen kept.last l e; closed = tt }
    go false e = record { last = refl; closed = tt }

fits_behind : (before : Before) (kept : PidState) (xs : List Arrival) → Fits before kept → Fits (before_all before xs) (kept_behind kept xs)
fits_behind before kept [] h = h
fits_behind before kept (x ∷ xs) h = fits_behind (seen_before x) (kept_after kept x) xs (fits_after kept x)

pub fits_none : Fits Never nothing
fits_none = record { last = refl; closed = refl }

-- at a break a demux goes on as if nothing had come
at_break : (before : Before) (kept : PidState) (y : Arrival) (ys : List Arrival) → Fits before kept → is_break before y ≡ true → given_all kept (y ∷ ys) ≡ given_all nothing (y ∷ ys)
at_break before kept Gap ys h e = refl
at_break Never kept (Came l) ys h e = cc
at_break AtGap kept (Came l) ys h e =
    let none : kept ≡ nothing = ap₂ (λ (a : Option Seen) (b : Option (List ℕ)). let k : PidState = record { last = a; section = b } in k) h.last h.closed in
    ap (λ (k : PidState). given_all k (Came l ∷ ys)) none
at_break (Had last) kept (Came l) ys h e =
    let both = and_parts (not (is_next (Some last) l)) (not (is_again (Some last) l)) e in
    let next : is_next kept.last l ≡ false = ap (λ (o : Option Seen). is_next o l) h.last ∙ not-true (is_next (Some last) l) both.0 in
    let again : is_again kept.last l ≡ false = ap (λ (o : Option Seen). is_again o l) h.last ∙ not-true (is_again (Some last) l) both.1 in
    let at = λ (a b : Bool).
    (if a then [] else given_by (still_open b kept.section) l.piece)
    ++ given_all (if a then kept else (let k : PidState = record { last = Some (seen l); section = open_behind (still_open b kept.section) l.piece } in k)) ys in
    ap₂ at again next

pub split : BreaksSplit
split xs y ys e =
    sym (given_all-is (xs ++ y ∷ ys)) ∙ given_all-append nothing xs (y ∷ ys)
    ∙ ap₂ (λ (a b : List (List ℕ)). a ++ b) (given_all-is xs) (at_break (before_all Never xs) (kept_behind nothing xs) y ys (fits_behind Never nothing xs fits_none) e ∙ given_all-is (y ∷ ys))

-- ---- parts

abbrev pub first_part : List (List Arrival) → List Arrival
first_part [] = []
first_part (p ∷ ps) = p

abbrev pub later_parts : List (List Arrival) → List (List Arrival)
later_parts [] = []
later_parts (p ∷ ps) = ps

pub onto_first-is : (x : Arrival) (ps : List (List Arrival)) → onto_first x ps ≡ (x ∷ first_part ps) ∷ later_parts ps
onto_first-is x [] = refl
onto_first-is x (p ∷ ps) = refl

by_parts : (xs : List Arrival) (before : Before) (kept : PidState) → Fits before kept → given_all kept xs ≡ given_all kept (first_part (parts before xs)) ++ flat_map heard_of (later_parts (parts before xs))
by_parts [] before kept h = refl
by_parts (x ∷ xs) before kept h = go (is_break before x) refl (λ (k : PidState) (f : Fits (seen_before x) k). by_parts xs (seen_before x) k f)
  where
    P : List (List Arrival)
    P = parts (seen_before x) xs

    go : (b : Bool) → is_break before x ≡ b
        → ((k : PidState) → Fits (seen_before x) k → given_all k xs ≡ given_all k (first_part (parts (seen_before x) xs)) ++ flat_map heard_of (later_parts (parts (seen_before x) xs)))
        → given_all kept (x ∷ xs) ≡ given_all kept (first_part (if b then [] ∷ onto_first x (parts (seen_before x) xs) else onto_first x (parts (seen_before x) xs)))
        ++ flat_map heard_of (later_parts (if b then [] ∷ onto_first x (parts (seen_before x) xs) else onto_first x (parts (seen_before x) xs)))
    go false e rec =
        let P = parts (seen_before x) xs in
        ap (λ (z : List (List ℕ)). given_after kept x ++ z) (rec (kept_after kept x) (fits_after kept x))
        ∙ sym (append_assoc (given_after kept x) (given_all (kept_after kept x) (first_part P)) (flat_map heard_of (later_parts P)))
        ∙ ap (λ (ps : List (List Arrival)). given_all kept (first_part ps) ++ flat_map heard_of (later_parts ps)) (sym (onto_first-is x P))
    go true e rec =
        let P = parts (seen_before x) xs in
        at_break before kept x xs h e
        ∙ ap (λ (z : List (List ℕ)). given_after nothing x ++ z) (rec (kept_after nothing x) (fits_after nothing x))
        ∙ sym (append_assoc (given_after nothing x) (given_all (kept_after nothing x) (first_part P)) (flat_map heard_of (later_parts P)))
        ∙ ap (λ (z : List (List ℕ)). z ++ flat_map heard_of (later_parts P)) (given_all-is (x ∷ first_part P))
        ∙ ap (λ (ps : List (List Arrival)). flat_map heard_of ps) (sym (onto_first-is x P))

pub by_all_parts : PartsAreHeard
by_all_parts xs =
    sym (given_all-is xs) ∙ by_parts xs Never nothing fits_none
    ∙ ap (λ (z : List (List ℕ)). z ++ flat_map heard_of (later_parts (parts Never xs))) (given_all-is (first_part (parts Never xs)))
    ∙ whole xs
  where
    whole : (xs : List Arrival) → heard_of (first_part (parts Never xs)) ++ flat_map heard_of (later_parts (parts Never xs)) ≡ flat_map heard_of (parts Never xs)
    whole [] = refl
    whole (x ∷ xs) = go (is_break Never x)
      where
        go : (b : Bool) → heard_of (first_part (if b then [] ∷ onto_first x (parts (seen_before x) xs) else onto_first x (parts (seen_before x) xs)))
            ++ flat_map heard_of (later_parts (if b then [] ∷ onto_first x (parts (seen_before x) xs) else onto_first x (parts (seen_before x) xs)))
            ≡ flat_map heard_of (if b then [] ∷ onto_first x (parts (seen_before x) xs) else onto_first x (parts (seen_before x) xs))
        go true = refl
        go false = some (parts (seen_before x) xs)
          where
            some : (ps : List (List Arrival)) → heard_of (first_part (onto_first x ps)) ++ flat_map heard_of (later_parts (onto_first x ps)) ≡ flat_map heard_of (onto_first x ps)
            some [] = refl
            some (p ∷ ps) = refl

-- ---- the flag

flag_behind : (before : Before) (x : Arrival) (xs : List Arrival) → before_all before (x ∷ xs) ≡ before_by (last_load (x ∷ xs)) (ends_in_gap (x ∷ xs))
flag_behind before Gap [] = refl
flag_behind before (Came l) [] = refl
flag_behind before x (y ∷ xs) = flag_behind (seen_before x) y xs

pub flag_tells : FlagTells
flag_tells [] = refl
flag_tells (x ∷ xs) = flag_behind Never x xs
