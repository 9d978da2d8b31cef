-- The runs of a segment, cut as its events come.
use Rattle.std.proofs.Common.{◌≡◌, ℕ, suc, ◌+◌, ◌-◌, ◌<◌, ◌≤◌, List, [], ◌∷◌, ◌++◌, length, drop, get_or, refl, sym, ap, ◌∙◌, subst, append_assoc, arith, inl, inr}
use Rattle.std.specs.List.{AllByRecursion}
use Rattle.std.proofs.Math.Seq.{drop-cons}
use Rattle.std.proofs.lemmas.Bool.Decides.{leb_tells}
use Rattle.std.proofs.lemmas.List.{length-append}
use Rattle.si_lists.specs.Runs.{cut}
use Rattle.si_lists.proofs.RunFacts.{cut_some, cut_joins, cut_begins, runs_from_nothing}
use Rattle.eit_segments.specs.declared.event.EventAt.{EventAt}
use Rattle.eit_segments.specs.declared.piece.Piece.{Piece}
use Rattle.eit_segments.specs.Schedule.{section_runs, sections_from}

abbrev size_of : EventAt → ℕ
size_of event = event.size

-- how many runs are still to be closed: how many there are does not depend on what the open one has
cut_length : {X : Type 0} (size : X → ℕ) (limit room : ℕ) (run other xs : List X) → length (cut size limit room run xs) ≡ length (cut size limit room other xs)
cut_length size limit room run other [] = refl
cut_length size limit room run other (x ∷ xs) = elim (leb_tells (size x) room) [
  | inl e ↦ rw e.0 (cut_length size limit (room - size x) (run ++ x ∷ []) (other ++ x ∷ []) xs)
  | inr e ↦ rw e.0 refl
]

abbrev pub runs_left : ℕ → List EventAt → ℕ
runs_left room events = length (cut size_of 4078 room [] events)

pub left_some : (room : ℕ) (events : List EventAt) → 0 < runs_left room events
left_some room events = cut_some size_of 4078 room [] events

pub left_first : (events : List EventAt) → AllByRecursion (λ (event : EventAt). event.size ≤ 4078) events → runs_left 4078 events ≡ length (section_runs events)
left_first events small = ap length (runs_from_nothing size_of 4078 events small)

-- the events from a place on are the one there and those behind it
pub from_place : (i : ℕ) (events : List EventAt) (d : EventAt) → i < length events → drop i events ≡ get_or events i d ∷ drop (i + 1) events
from_place i events d l = drop-cons events i d l ∙ ap (λ (k : ℕ). get_or events i d ∷ drop k events) (let e : suc i ≡ i + 1 = omega arith in e)

pub left_fits : (room i : ℕ) (events : List EventAt) (d : EventAt) → i < length events → (get_or events i d).size ≤ room
    → runs_left room (drop i events) ≡ runs_left (room - (get_or events i d).size) (drop (i + 1) events)
left_fits room i events d l fits =
    let e = get_or events i d in
    let rest = drop (i + 1) events in
    ap (runs_left room) (from_place i events d l) ∙ ap length (cut_joins size_of 4078 room [] e rest fits) ∙ cut_length size_of 4078 (room - e.size) (e ∷ []) [] rest

pub left_over : (room i : ℕ) (events : List EventAt) (d : EventAt) → i < length events → room < (get_or events i d).size
    → runs_left room (drop i events) ≡ 1 + runs_left (4078 - (get_or events i d).size) (drop (i + 1) events)
left_over room i events d l over =
    let e = get_or events i d in
    let rest = drop (i + 1) events in
    let a = ap (runs_left room) (from_place i events d l) in
    let b = ap length (cut_begins size_of 4078 room [] e rest over) in
    let c = cut_length size_of 4078 (4078 - e.size) (e ∷ []) [] rest in
    omega (arith, a, b, c)

-- A segment under way: with the sections closed so far and the open one, what is to be cut makes all.
pub record UnderWay (table last segment_last : ℕ) (all pieces : List Piece) (number from to room : ℕ) (events : List EventAt) : Type 0 where
  pub run : List EventAt
  pub place : to ≡ from + length run
  pub ahead : pieces ++ sections_from table last segment_last number from (cut size_of 4078 room run events) ≡ all

-- the section that a segment's parts say
abbrev pub IsOf : ℕ → ℕ → ℕ → Piece → Type 0
IsOf table last segment_last p = (p.table ≡ table) × (p.last ≡ last) × (p.segment_last ≡ segment_last)

module _ (table last segment_last : ℕ) (all : List Piece) where
  abbrev piece : ℕ → ℕ → ℕ → Piece
  piece number from to = record { table = table; number = number; last = last; segment_last = segment_last; from = from; to = to }

  abbrev Way : List Piece → Piece → ℕ → ℕ → List EventAt → Type 0
  Way pieces p to room events = UnderWay table last segment_last all pieces p.number p.from to room events

  as_piece : (p : Piece) → IsOf table last segment_last p → p ≡ piece p.number p.from p.to
  as_piece p same = λ i. record { table = same.0 i; number = p.number; last = same.1 i; segment_last = same.2 i; from = p.from; to = p.to }

  pub begun : (pieces : List Piece) (number from : ℕ) (events : List EventAt) → AllByRecursion (λ (event : EventAt). event.size ≤ 4078) events
      → pieces ++ sections_from table last segment_last number from (section_runs events) ≡ all → UnderWay table last segment_last all pieces number from from 4078 events
  begun pieces number from events small is = record {
    run = [];
    place = omega arith;
    ahead = ap (λ (runs : List (List EventAt)). pieces ++ sections_from table last segment_last number from runs) (runs_from_nothing size_of 4078 events small) ∙ is;
  }

  -- an event joins the open section, or begins the next
  joins_as : (pieces : List Piece) (p : Piece) (room : ℕ) (e : EventAt) (events : List EventAt) → Way pieces p p.to room (e ∷ events) → e.size ≤ room → Way pieces p (p.to + 1) (room - e.size) events
  joins_as pieces p room e events h fits = record {
    run = h.run ++ e ∷ [];
    place = omega (arith, h.place, length-append h.run (e ∷ []));
    ahead = ap (λ (runs : List (List EventAt)). pieces ++ sections_from table last segment_last p.number p.from runs) (sym (cut_joins size_of 4078 room h.run e events fits)) ∙ h.ahead;
  }

  begins_as : (pieces : List Piece) (p : Piece) (room : ℕ) (e : EventAt) (events : List EventAt) → IsOf table last segment_last p → Way pieces p p.to room (e ∷ events) → room < e.size
      → UnderWay table last segment_last all (pieces ++ p ∷ []) (p.number + 1) p.to (p.to + 1) (4078 - e.size) events
  begins_as pieces p room e events same h over =
      let runs = cut size_of 4078 (4078 - e.size) (e ∷ []) events in
      record {
        run = e ∷ [];
        place = refl;
        ahead = append_assoc pieces (p ∷ []) (sections_from table last segment_last (p.number + 1) p.to runs)
            ∙ ap (λ (n : ℕ). pieces ++ p ∷ sections_from table last segment_last n p.to runs) (let e : p.number + 1 ≡ 1 + p.number = omega arith in e)
            ∙ ap (λ (q : Piece). pieces ++ q ∷ sections_from table last segment_last (1 + p.number) p.to runs) (as_piece p same)
            ∙ ap (λ (n : ℕ). pieces ++ piece p.number p.from n ∷ sections_from table last segment_last (1 + p.number) n runs) h.place
            ∙ ap (λ (rs : List (List EventAt)). pieces ++ sections_from table last segment_last p.number p.from rs) (sym (cut_begins size_of 4078 room h.run e events over)) ∙ h.ahead;
      }

  pub joins : (pieces pieces' : List Piece) (p q : Piece) (room room' : ℕ) (e : EventAt) (rest events : List EventAt) → Way pieces p p.to room rest → rest ≡ e ∷ events → e.size ≤ room
      → pieces' ≡ pieces → q ≡ p → room' ≡ room → Way pieces' q (q.to + 1) (room' - e.size) events
  joins pieces pieces' p q room room' e rest events h is fits are same left =
      let base = joins_as pieces p room e events (subst (λ (es : List EventAt). Way pieces p p.to room es) is h) fits in
      subst (λ (ps : List Piece). Way ps q (q.to + 1) (room' - e.size) events) (sym are)
      (subst (λ (x : Piece). Way pieces x (x.to + 1) (room' - e.size) events) (sym same)
      (subst (λ (n : ℕ). Way pieces p (p.to + 1) (n - e.size) events) (sym left) base))

  pub begins : (pieces pieces' : List Piece) (p q : Piece) (room room' : ℕ) (e : EventAt) (rest events : List EventAt) → IsOf table last segment_last p → Way pieces p p.to room rest → rest ≡ e ∷ events
      → room < e.size → pieces' ≡ pieces ++ p ∷ []
      → q ≡ record { table = p.table; number = p.number + 1; last = p.last; segment_last = p.segment_last; from = p.to; to = p.to } → room' ≡ 4078
      → Way pieces' q (q.to + 1) (room' - e.size) events
  begins pieces pieces' p q room room' e rest events one h is over are next left =
      let base = begins_as pieces p room e events one (subst (λ (es : List EventAt). Way pieces p p.to room es) is h) over in
      subst (λ (ps : List Piece). Way ps q (q.to + 1) (room' - e.size) events) (sym are)
      (subst (λ (x : Piece). Way (pieces ++ p ∷ []) x (x.to + 1) (room' - e.size) events) (sym next)
      (subst (λ (n : ℕ). UnderWay table last segment_last all (pieces ++ p ∷ []) (p.number + 1) p.to (p.to + 1) (n - e.size) events) (sym left) base))

  -- behind the last event the open section is the last
  pub ends : (pieces : List Piece) (p : Piece) (room : ℕ) (events : List EventAt) → IsOf table last segment_last p → Way pieces p p.to room events → events ≡ [] → pieces ++ p ∷ [] ≡ all
  ends pieces p room events same h none =
      let base : Way pieces p p.to room [] = subst (λ (es : List EventAt). Way pieces p p.to room es) none h in
      ap (λ (q : Piece). pieces ++ q ∷ []) (as_piece p same) ∙ ap (λ (n : ℕ). pieces ++ piece p.number p.from n ∷ []) base.place ∙ base.ahead
