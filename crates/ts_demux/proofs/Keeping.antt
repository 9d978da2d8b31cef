-- Step by step the same is kept as the definition says of all arrivals.
use Rattle.std.proofs.Common.{◌≡◌, ℕ, ◌+◌, ◌%◌, List, [], ◌∷◌, ◌++◌, Bool, true, false, ◌&&◌, ◌==◌, Option, Some, None, refl, sym, ap, ap₂, ◌∙◌, append_assoc, append-nil}
use Rattle.std.specs.Prelude.{if◌then◌else◌, option_map, bytes_eq}
use Rattle.std.specs.Cmp.Lexicographic.{same_text}
use Rattle.std.proofs.lemmas.Bool.{and_parts, eqb-true}
use Rattle.ts_packets.specs.Packets.{Piece}
use Rattle.ts_packets.specs.Counting.{Load}
use Rattle.ts_demux.specs.Arrivals.{Arrival, is_repeat, without_repeats, Arrival.Gap, Arrival.Came}
use Rattle.ts_demux.specs.Keeping.{Seen, seen, PidState, nothing, seen_in, last_load, is_one_stretch, pieces_of, last_stretch, open_section, PidStateStandsFor}
use Rattle.ts_demux.specs.Steps.{is_again, is_next, still_open, open_behind, kept_after, kept_behind}
use Rattle.ts_demux.proofs.Open.{open_section-push}

-- ---- the last load

last_load-push : (xs : List Arrival) (x : Arrival) → last_load (xs ++ x ∷ []) ≡ seen_in x
last_load-push [] x = refl
last_load-push (y ∷ []) x = refl
last_load-push (y ∷ z ∷ xs) x = last_load-push (z ∷ xs) x

-- the last load, where this one came before
abbrev last_seen : Option Seen → List Arrival → Option Seen
last_seen o [] = o
last_seen o (Gap ∷ xs) = last_seen None xs
last_seen o (Came l ∷ xs) = last_seen (Some (seen l)) xs

from_first : (x : Arrival) (xs : List Arrival) → last_load (x ∷ xs) ≡ last_seen (seen_in x) xs
from_first x [] = refl
from_first x (Gap ∷ xs) = from_first Gap xs
from_first x (Came l ∷ xs) = from_first (Came l) xs

last_load-seen : (xs : List Arrival) → last_load xs ≡ last_seen None xs
last_load-seen [] = refl
last_load-seen (Gap ∷ xs) = from_first Gap xs
last_load-seen (Came l ∷ xs) = from_first (Came l) xs

same_bytes : (xs ys : List ℕ) → bytes_eq xs ys ≡ true → xs ≡ ys
same_bytes xs ys e = same_text xs ys (sym e)

same_seen : (a : Seen) (l : Load) → ((a.counter == l.counter) && bytes_eq a.payload l.piece.payload) ≡ true → a ≡ seen l
same_seen a l e =
    let p = and_parts (a.counter == l.counter) (bytes_eq a.payload l.piece.payload) e in
    ap₂ (λ (n : ℕ) (xs : List ℕ). let s : Seen = record { counter = n; payload = xs } in s) (eqb-true a.counter l.counter p.0) (same_bytes a.payload l.piece.payload p.1)

again_told : (o : Option Seen) (l : Load) → is_again o l ≡ true → o ≡ Some (seen l)
again_told None l e = cc
again_told (Some a) l e = ap Some (same_seen a l e)

-- ---- without repeats

without-gap : (last : Option Load) (xs : List Arrival) → without_repeats last (xs ++ Gap ∷ []) ≡ without_repeats last xs ++ Gap ∷ []
without-gap last [] = refl
without-gap last (Gap ∷ xs) = ap (λ (x : List Arrival). Gap ∷ x) (without-gap None xs)
without-gap None (Came m ∷ xs) = ap (λ (x : List Arrival). Came m ∷ x) (without-gap (Some m) xs)
without-gap (Some last) (Came m ∷ xs) = go (is_repeat last m) (without-gap (Some last) xs) (without-gap (Some m) xs)
  where
    go : (b : Bool) → without_repeats (Some last) (xs ++ Gap ∷ []) ≡ without_repeats (Some last) xs ++ Gap ∷ [] → without_repeats (Some m) (xs ++ Gap ∷ []) ≡ without_repeats (Some m) xs ++ Gap ∷ []
        → (if b then without_repeats (Some last) (xs ++ Gap ∷ []) else Came m ∷ without_repeats (Some m) (xs ++ Gap ∷ [])) ≡ (if b then without_repeats (Some last) xs else Came m ∷ without_repeats (Some m) xs) ++ Gap ∷ []
    go true e f = e
    go false e f = ap (λ (x : List Arrival). Came m ∷ x) f

abbrev unless : Bool → Load → List Arrival
unless b l = if b then [] else Came l ∷ []

without-load : (last : Option Load) (xs : List Arrival) (l : Load) → without_repeats last (xs ++ Came l ∷ []) ≡ without_repeats last xs ++ unless (is_again (last_seen (option_map seen last) xs) l) l
without-load None [] l = refl
without-load (Some last) [] l = refl
without-load last (Gap ∷ xs) l = ap (λ (x : List Arrival). Gap ∷ x) (without-load None xs l)
without-load None (Came m ∷ xs) l = ap (λ (x : List Arrival). Came m ∷ x) (without-load (Some m) xs l)
without-load (Some last) (Came m ∷ xs) l = go (is_repeat last m) refl (without-load (Some last) xs l) (without-load (Some m) xs l)
  where
    more : Option Seen → List Arrival
    more o = unless (is_again (last_seen o xs) l) l

    go : (b : Bool) → is_repeat last m ≡ b → without_repeats (Some last) (xs ++ Came l ∷ []) ≡ without_repeats (Some last) xs ++ more (Some (seen last))
        → without_repeats (Some m) (xs ++ Came l ∷ []) ≡ without_repeats (Some m) xs ++ more (Some (seen m))
        → (if b then without_repeats (Some last) (xs ++ Came l ∷ []) else Came m ∷ without_repeats (Some m) (xs ++ Came l ∷ [])) ≡ (if b then without_repeats (Some last) xs else Came m ∷ without_repeats (Some m) xs) ++ more (Some (seen m))
    go true r e f = e ∙ ap (λ (s : Seen). without_repeats (Some last) xs ++ more (Some s)) (same_seen (seen last) m r)
    go false r e f = ap (λ (x : List Arrival). Came m ∷ x) f

-- the last load is no less the last without repeats
seen_without : (last : Option Load) (xs : List Arrival) → last_seen (option_map seen last) (without_repeats last xs) ≡ last_seen (option_map seen last) xs
seen_without last [] = refl
seen_without last (Gap ∷ xs) = seen_without None xs
seen_without None (Came m ∷ xs) = seen_without (Some m) xs
seen_without (Some last) (Came m ∷ xs) = go (is_repeat last m) refl (seen_without (Some last) xs) (seen_without (Some m) xs)
  where
    go : (b : Bool) → is_repeat last m ≡ b → last_seen (Some (seen last)) (without_repeats (Some last) xs) ≡ last_seen (Some (seen last)) xs
        → last_seen (Some (seen m)) (without_repeats (Some m) xs) ≡ last_seen (Some (seen m)) xs
        → last_seen (Some (seen last)) (if b then without_repeats (Some last) xs else Came m ∷ without_repeats (Some m) xs) ≡ last_seen (Some (seen m)) xs
    go true r e f = e ∙ ap (λ (s : Seen). last_seen (Some s) xs) (same_seen (seen last) m r)
    go false r e f = f

last_load-without : (xs : List Arrival) → last_load (without_repeats None xs) ≡ last_load xs
last_load-without xs = last_load-seen (without_repeats None xs) ∙ seen_without None xs ∙ sym (last_load-seen xs)

-- ---- the last stretch

and_yes : (b : Bool) → (b && true) ≡ b
and_yes true = refl
and_yes false = refl

and_assoc : (a b c : Bool) → (a && (b && c)) ≡ ((a && b) && c)
and_assoc true b c = refl
and_assoc false b c = refl

one_stretch-load : (x : Arrival) (xs : List Arrival) (l : Load) → is_one_stretch (x ∷ (xs ++ Came l ∷ [])) ≡ (is_one_stretch (x ∷ xs) && is_next (last_load (x ∷ xs)) l)
one_stretch-load Gap [] l = refl
one_stretch-load (Came m) [] l = and_yes (l.counter == ((m.counter + 1) % 16))
one_stretch-load Gap (y ∷ xs) l = refl
one_stretch-load (Came m) (Gap ∷ xs) l = refl
one_stretch-load (Came m) (Came k ∷ xs) l =
    ap (λ (b : Bool). (k.counter == ((m.counter + 1) % 16)) && b) (one_stretch-load (Came k) xs l)
    ∙ and_assoc (k.counter == ((m.counter + 1) % 16)) (is_one_stretch (Came k ∷ xs)) (is_next (last_load (Came k ∷ xs)) l)

one_stretch-gap : (x : Arrival) (xs : List Arrival) → is_one_stretch (x ∷ (xs ++ Gap ∷ [])) ≡ false
one_stretch-gap Gap xs = refl
one_stretch-gap (Came m) [] = refl
one_stretch-gap (Came m) (Gap ∷ xs) = refl
one_stretch-gap (Came m) (Came k ∷ xs) = ap (λ (b : Bool). (k.counter == ((m.counter + 1) % 16)) && b) (one_stretch-gap (Came k) xs) ∙ and_none (k.counter == ((m.counter + 1) % 16))
  where
    and_none : (b : Bool) → (b && false) ≡ false
    and_none true = refl
    and_none false = refl

pieces_of-load : (xs : List Arrival) (l : Load) → pieces_of (xs ++ Came l ∷ []) ≡ pieces_of xs ++ l.piece ∷ []
pieces_of-load [] l = refl
pieces_of-load (Gap ∷ xs) l = pieces_of-load xs l
pieces_of-load (Came m ∷ xs) l = ap (λ (x : List Piece). m.piece ∷ x) (pieces_of-load xs l)

abbrev where_next : Bool → List Piece → List Piece
where_next b ps = if b then ps else []

last_stretch-gap : (xs : List Arrival) → last_stretch (xs ++ Gap ∷ []) ≡ []
last_stretch-gap [] = refl
last_stretch-gap (x ∷ xs) = ap (λ (b : Bool). if b then pieces_of (x ∷ (xs ++ Gap ∷ [])) else last_stretch (xs ++ Gap ∷ [])) (one_stretch-gap x xs) ∙ last_stretch-gap xs

last_stretch-load : (xs : List Arrival) (l : Load) → last_stretch (xs ++ Came l ∷ []) ≡ where_next (is_next (last_load xs) l) (last_stretch xs) ++ l.piece ∷ []
last_stretch-load [] l = refl
last_stretch-load (Gap ∷ []) l = refl
last_stretch-load (Came m ∷ []) l = go (l.counter == ((m.counter + 1) % 16))
  where
    go : (b : Bool) → (if b && true then m.piece ∷ l.piece ∷ [] else l.piece ∷ []) ≡ where_next b (m.piece ∷ []) ++ l.piece ∷ []
    go true = refl
    go false = refl
last_stretch-load (x ∷ y ∷ xs) l =
    ap (λ (b : Bool). if b then pieces_of (x ∷ y ∷ (xs ++ Came l ∷ [])) else last_stretch (y ∷ (xs ++ Came l ∷ []))) (one_stretch-load x (y ∷ xs) l)
    ∙ ap₂ (λ (ps qs : List Piece). if is_one_stretch (x ∷ y ∷ xs) && is_next (last_load (y ∷ xs)) l then ps else qs) (pieces_of-load (x ∷ y ∷ xs) l) (last_stretch-load (y ∷ xs) l)
    ∙ go (is_one_stretch (x ∷ y ∷ xs)) (is_next (last_load (y ∷ xs)) l)
  where
    all : List Piece
    all = pieces_of (x ∷ y ∷ xs)

    behind : List Piece
    behind = last_stretch (y ∷ xs)

    go : (a b : Bool) → (if a && b then all ++ l.piece ∷ [] else where_next b behind ++ l.piece ∷ []) ≡ where_next b (if a then all else behind) ++ l.piece ∷ []
    go true true = refl
    go true false = refl
    go false true = refl
    go false false = refl

-- ---- one arrival more

abbrev kept_of : Option Seen → List Piece → PidState
kept_of o ps = record { last = o; section = open_section ps }

-- what is kept behind arrivals, by the definition
abbrev pub kept_by_all : List Arrival → PidState
kept_by_all xs = kept_of (last_load xs) (last_stretch (without_repeats None xs))

open_still : (b : Bool) (ps : List Piece) → open_section (where_next b ps) ≡ still_open b (open_section ps)
open_still true ps = refl
open_still false ps = refl

step : (xs : List Arrival) (x : Arrival) → kept_after (kept_by_all xs) x ≡ kept_by_all (xs ++ x ∷ [])
step xs Gap = sym (ap₂ kept_of (last_load-push xs Gap) (ap last_stretch (without-gap None xs) ∙ last_stretch-gap (without_repeats None xs)))
step xs (Came l) = go (is_again (last_load xs) l) refl
  where
    W : List Arrival
    W = without_repeats None xs

    new : PidState
    new = record { last = Some (seen l); section = open_behind (still_open (is_next (last_load xs) l) (open_section (last_stretch W))) l.piece }

    without : (b : Bool) → is_again (last_load xs) l ≡ b → without_repeats None (xs ++ Came l ∷ []) ≡ W ++ unless b l
    without b e = without-load None xs l ∙ ap (λ (c : Bool). W ++ unless c l) (ap (λ (o : Option Seen). is_again o l) (sym (last_load-seen xs)) ∙ e)

    go : (b : Bool) → is_again (last_load xs) l ≡ b → (if b then kept_by_all xs else new) ≡ kept_by_all (xs ++ Came l ∷ [])
    go true e =
        sym (ap₂ (λ (o : Option Seen) (ys : List Arrival). kept_of o (last_stretch ys)) (last_load-push xs (Came l) ∙ sym (again_told (last_load xs) l e)) (without true e ∙ append-nil W))
    go false e =
        ap (λ (o : Option Seen). let k : PidState = record { last = Some (seen l); section = open_behind (still_open (is_next o l) (open_section (last_stretch W))) l.piece } in k) (sym (last_load-without xs))
        ∙ ap (λ (o : Option (List ℕ)). let k : PidState = record { last = Some (seen l); section = open_behind o l.piece } in k) (sym (open_still (is_next (last_load W) l) (last_stretch W)))
        ∙ ap (λ (o : Option (List ℕ)). let k : PidState = record { last = Some (seen l); section = o } in k) (sym (open_section-push (where_next (is_next (last_load W) l) (last_stretch W)) l.piece))
        ∙ sym (ap₂ kept_of (last_load-push xs (Came l)) (ap last_stretch (without false e) ∙ last_stretch-load W l))

steps : (ys xs : List Arrival) → kept_behind (kept_by_all ys) xs ≡ kept_by_all (ys ++ xs)
steps ys [] = ap kept_by_all (sym (append-nil ys))
steps ys (x ∷ xs) = ap (λ (k : PidState). kept_behind k xs) (step ys x) ∙ steps (ys ++ x ∷ []) xs ∙ ap kept_by_all (append_assoc ys (x ∷ []) xs)

-- What is kept by the definition is what is kept step by step.
pub keeps_told : (xs : List Arrival) (k : PidState) → PidStateStandsFor xs k → k ≡ kept_behind nothing xs
keeps_told xs k h = ap₂ (λ (o : Option Seen) (s : Option (List ℕ)). let j : PidState = record { last = o; section = s } in j) h.last h.section ∙ sym (steps [] xs)

pub keeps_is : (xs : List Arrival) (k : PidState) → k ≡ kept_behind nothing xs → PidStateStandsFor xs k
keeps_is xs k e =
    let f : k ≡ kept_by_all xs = e ∙ steps [] xs in
    record { last = ap (λ (j : PidState). j.last) f; section = ap (λ (j : PidState). j.section) f }
