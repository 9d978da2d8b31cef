-- What a demux gives packet by packet is what is heard of the stretches.
use Rattle.std.proofs.Common.{◌≡◌, ℕ, ◌+◌, ◌%◌, List, [], ◌∷◌, ◌++◌, Bool, true, false, ◌==◌, Option, Some, None, refl, sym, ap, ◌∙◌, flat_map, append_assoc, append-nil}
use Rattle.std.specs.Prelude.{if◌then◌else◌, option_map}
use Rattle.ts_packets.specs.Packets.{Piece}
use Rattle.ts_packets.specs.Counting.{Load}
use Rattle.ts_demux.specs.Hearing.{heard}
use Rattle.ts_demux.specs.Arrivals.{Arrival, Arrival.Gap, Arrival.Came, is_repeat, without_repeats, before_stretches, stretches, heard_of}
use Rattle.ts_demux.specs.Keeping.{PidState, nothing, seen}
use Rattle.ts_demux.specs.Steps.{is_next, still_open, given_by, open_behind, given_after, kept_after, kept_behind}
use Rattle.ts_demux.proofs.Machine.{machine, machine-is}

-- the sections that these arrivals end, one after the other
abbrev pub given_all : PidState → List Arrival → List (List ℕ)
given_all kept [] = []
given_all kept (x ∷ xs) = given_after kept x ++ given_all (kept_after kept x) xs

abbrev kept_from : Option Load → Option (List ℕ) → PidState
kept_from last o = record { last = option_map seen last; section = o }

abbrev follows : Option Load → Load → Bool
follows last l = is_next (option_map seen last) l

-- the same where no arrival is a repeat
abbrev no_repeats : Option Load → Option (List ℕ) → List Arrival → List (List ℕ)
no_repeats last o [] = []
no_repeats last o (Gap ∷ xs) = no_repeats None None xs
no_repeats last o (Came l ∷ xs) = given_by (still_open (follows last l) o) l.piece ++ no_repeats (Some l) (open_behind (still_open (follows last l) o) l.piece) xs

repeats_out : (last : Option Load) (o : Option (List ℕ)) (xs : List Arrival) → given_all (kept_from last o) xs ≡ no_repeats last o (without_repeats last xs)
repeats_out last o [] = refl
repeats_out last o (Gap ∷ xs) = repeats_out None None xs
repeats_out None o (Came l ∷ xs) = ap (λ (x : List (List ℕ)). given_by None l.piece ++ x) (repeats_out (Some l) (open_behind None l.piece) xs)
repeats_out (Some last) o (Came l ∷ xs) = go (is_repeat last l) (repeats_out (Some last) o xs) (repeats_out (Some l) (open_behind (still_open (follows (Some last) l) o) l.piece) xs)
  where
    given : List (List ℕ)
    given = given_by (still_open (follows (Some last) l) o) l.piece

    behind : PidState
    behind = kept_from (Some l) (open_behind (still_open (follows (Some last) l) o) l.piece)

    go : (b : Bool) → given_all (kept_from (Some last) o) xs ≡ no_repeats (Some last) o (without_repeats (Some last) xs)
        → given_all behind xs ≡ no_repeats (Some l) (open_behind (still_open (follows (Some last) l) o) l.piece) (without_repeats (Some l) xs)
        → (if b then [] else given) ++ given_all (if b then kept_from (Some last) o else behind) xs
        ≡ no_repeats (Some last) o (if b then without_repeats (Some last) xs else Came l ∷ without_repeats (Some l) xs)
    go true same next = same
    go false same next = ap (λ (x : List (List ℕ)). given ++ x) next

-- the stretch that goes on behind a load, and the others
abbrev first_of_all : List (List Piece) → List Piece
first_of_all [] = []
first_of_all (s ∷ ss) = s

abbrev rest_of_all : List (List Piece) → List (List Piece)
rest_of_all [] = []
rest_of_all (s ∷ ss) = ss

abbrev front : Option Load → List Arrival → List Piece
front last [] = []
front last (Gap ∷ xs) = []
front last (Came l ∷ xs) = if follows last l then first_of_all (stretches (Came l ∷ xs)) else []

abbrev others : Option Load → List Arrival → List (List Piece)
others last [] = []
others last (Gap ∷ xs) = stretches xs
others last (Came l ∷ xs) = if follows last l then rest_of_all (stretches (Came l ∷ xs)) else stretches (Came l ∷ xs)

some_stretch : (l : Load) (xs : List Arrival) (ss : List (List Piece)) → (s : List Piece) × (more : List (List Piece)) × (before_stretches l xs ss ≡ s ∷ more)
some_stretch l [] ss = (l.piece ∷ [], ss, refl)
some_stretch l (Gap ∷ xs) ss = (l.piece ∷ [], ss, refl)
some_stretch l (Came m ∷ xs) [] = (l.piece ∷ [], [], refl)
some_stretch l (Came m ∷ xs) (s ∷ ss) = go (m.counter == ((l.counter + 1) % 16))
  where
    go : (b : Bool) → (t : List Piece) × (more : List (List Piece)) × ((if b then (l.piece ∷ s) ∷ ss else (l.piece ∷ []) ∷ s ∷ ss) ≡ t ∷ more)
    go true = (l.piece ∷ s, ss, refl)
    go false = (l.piece ∷ [], s ∷ ss, refl)

stretches-load : (l : Load) (xs : List Arrival) → stretches (Came l ∷ xs) ≡ (l.piece ∷ front (Some l) xs) ∷ others (Some l) xs
stretches-load l [] = refl
stretches-load l (Gap ∷ xs) = refl
stretches-load l (Came m ∷ xs) = go (some_stretch m xs (stretches xs))
  where
    S : List (List Piece)
    S = stretches (Came m ∷ xs)

    at : (b : Bool) (ss : List (List Piece)) (s : List Piece) (more : List (List Piece)) → ss ≡ s ∷ more →
        before_stretches l (Came m ∷ xs) ss ≡ before_stretches l (Came m ∷ xs) (s ∷ more)
    at b ss s more e = ap (before_stretches l (Came m ∷ xs)) e

    by : (b : Bool) (s : List Piece) (more : List (List Piece)) →
        (if b then (l.piece ∷ s) ∷ more else (l.piece ∷ []) ∷ s ∷ more) ≡ (l.piece ∷ (if b then s else [])) ∷ (if b then more else s ∷ more)
    by true s more = refl
    by false s more = refl

    go : (s : List Piece) × (more : List (List Piece)) × (stretches (Came m ∷ xs) ≡ s ∷ more) → before_stretches l (Came m ∷ xs) (stretches (Came m ∷ xs)) ≡ (l.piece ∷ front (Some l) (Came m ∷ xs)) ∷ others (Some l) (Came m ∷ xs)
    go (s, more, e) =
        let b = follows (Some l) m in
        ap (before_stretches l (Came m ∷ xs)) e ∙ by b s more
        ∙ sym (ap (λ (ss : List (List Piece)). (l.piece ∷ (if b then first_of_all ss else [])) ∷ (if b then rest_of_all ss else ss)) e)

by_stretches : (last : Option Load) (o : Option (List ℕ)) (xs : List Arrival) → no_repeats last o xs ≡ machine o (front last xs) ++ flat_map heard (others last xs)
by_stretches last o [] = refl
by_stretches last o (Gap ∷ xs) = by_stretches None None xs ∙ none xs
  where
    none : (xs : List Arrival) → machine None (front None xs) ++ flat_map heard (others None xs) ≡ flat_map heard (stretches xs)
    none [] = refl
    none (Gap ∷ xs) = refl
    none (Came l ∷ xs) = refl
by_stretches last o (Came l ∷ xs) = go (follows last l) (λ p. by_stretches (Some l) p xs)
  where
    go : (b : Bool) → ((p : Option (List ℕ)) → no_repeats (Some l) p xs ≡ machine p (front (Some l) xs) ++ flat_map heard (others (Some l) xs))
        → given_by (still_open b o) l.piece ++ no_repeats (Some l) (open_behind (still_open b o) l.piece) xs
        ≡ machine o (if b then first_of_all (stretches (Came l ∷ xs)) else []) ++ flat_map heard (if b then rest_of_all (stretches (Came l ∷ xs)) else stretches (Came l ∷ xs))
    go true rec =
        ap (λ (x : List (List ℕ)). given_by o l.piece ++ x) (rec (open_behind o l.piece)) ∙ sym (append_assoc (given_by o l.piece) (machine (open_behind o l.piece) (front (Some l) xs)) (flat_map heard (others (Some l) xs)))
        ∙ sym (ap (λ (ss : List (List Piece)). machine o (first_of_all ss) ++ flat_map heard (rest_of_all ss)) (stretches-load l xs))
    go false rec =
        ap (λ (x : List (List ℕ)). given_by None l.piece ++ x) (rec (open_behind None l.piece)) ∙ sym (append_assoc (given_by None l.piece) (machine (open_behind None l.piece) (front (Some l) xs)) (flat_map heard (others (Some l) xs)))
        ∙ ap (λ (x : List (List ℕ)). x ++ flat_map heard (others (Some l) xs)) (machine-is (l.piece ∷ front (Some l) xs))
        ∙ sym (ap (flat_map heard) (stretches-load l xs))

-- From nothing on, the sections of the definition are given.
pub given_all-is : (xs : List Arrival) → given_all nothing xs ≡ heard_of xs
given_all-is xs = repeats_out None None xs ∙ by_stretches None None (without_repeats None xs) ∙ none (without_repeats None xs)
  where
    none : (xs : List Arrival) → machine None (front None xs) ++ flat_map heard (others None xs) ≡ flat_map heard (stretches xs)
    none [] = refl
    none (Gap ∷ xs) = refl
    none (Came l ∷ xs) = refl

-- one arrival more
given_all-push : (kept : PidState) (xs : List Arrival) (x : Arrival) → given_all kept (xs ++ x ∷ []) ≡ given_all kept xs ++ given_after (kept_behind kept xs) x
given_all-push kept [] x = append-nil (given_after kept x)
given_all-push kept (y ∷ xs) x =
    ap (λ (z : List (List ℕ)). given_after kept y ++ z) (given_all-push (kept_after kept y) xs x)
    ∙ sym (append_assoc (given_after kept y) (given_all (kept_after kept y) xs) (given_after (kept_behind (kept_after kept y) xs) x))

pub kept_behind-push : (kept : PidState) (xs : List Arrival) (x : Arrival) → kept_behind kept (xs ++ x ∷ []) ≡ kept_after (kept_behind kept xs) x
kept_behind-push kept [] x = refl
kept_behind-push kept (y ∷ xs) x = kept_behind-push (kept_after kept y) xs x

pub heard_of-push : (xs : List Arrival) (x : Arrival) → heard_of (xs ++ x ∷ []) ≡ heard_of xs ++ given_after (kept_behind nothing xs) x
heard_of-push xs x =
    sym (given_all-is (xs ++ x ∷ [])) ∙ given_all-push nothing xs x ∙ ap (λ (z : List (List ℕ)). z ++ given_after (kept_behind nothing xs) x) (given_all-is xs)
