-- Neither the order of events nor which of them is on depends on the sizes of their entries.
use Rattle.std.proofs.Common.{◌≡◌, ◌∙◌, ◌≤◌, ℕ, ◌+◌, ◌&&◌, not, List, [], ◌∷◌, length, map, refl, sym, ap, ap₂}
use Rattle.std.proofs.lemmas.List.{length-map}
use Rattle.std.specs.Prelude.{nat_le, nat_lt, cond, Option, Some, None}
use Rattle.std.specs.List.{AllByRecursion, position_or_len}
use Rattle.guide_model.specs.declared.event.Event.{Event}
use Rattle.eit_segments.specs.declared.event.EventAt.{EventAt}
use Rattle.eit_segments.specs.Placement.{AreInOrder, end_at, present_at, following_at}
use Rattle.eit_segments.specs.Laws.{at_of}
use Rattle.guide_board.specs.Lines.{time_of}

all_later : (n : ℕ) (events : List Event) → AllByRecursion (λ (later : EventAt). n ≤ later.start.0) (map at_of events) → AllByRecursion (λ (later : EventAt). n ≤ later.start.0) (map time_of events)
all_later n [] h = tt
all_later n (event ∷ events) h = (h.0, all_later n events h.1)

pub times_in_order : (events : List Event) → AreInOrder (map at_of events) → AreInOrder (map time_of events)
times_in_order [] order = tt
times_in_order (event ∷ events) order = (all_later (end_at (at_of event)) events order.0, times_in_order events order.1)

present_place : (at : ℕ) (events : List Event)
    → position_or_len (λ (e : EventAt). nat_le e.start.0 at && nat_lt at (end_at e)) (map time_of events) ≡ position_or_len (λ (e : EventAt). nat_le e.start.0 at && nat_lt at (end_at e)) (map at_of events)
present_place at [] = refl
present_place at (event ∷ events) = ap (λ (n : ℕ). cond (not (nat_le event.start.0 at && nat_lt at (end_at (at_of event)))) (1 + n) 0) (present_place at events)

following_place : (at : ℕ) (events : List Event) → position_or_len (λ (e : EventAt). nat_lt at e.start.0) (map time_of events) ≡ position_or_len (λ (e : EventAt). nat_lt at e.start.0) (map at_of events)
following_place at [] = refl
following_place at (event ∷ events) = ap (λ (n : ℕ). cond (not (nat_lt at event.start.0)) (1 + n) 0) (following_place at events)

-- a place is one of the list
abbrev place_of : ℕ → ℕ → Option ℕ
place_of place len = cond (nat_lt place len) (Some place) None

same_length : (events : List Event) → length (map time_of events) ≡ length (map at_of events)
same_length events = length-map events time_of ∙ sym (length-map events at_of)

pub present_times : (at : ℕ) (events : List Event) → present_at at (map time_of events) ≡ present_at at (map at_of events)
present_times at events = ap₂ place_of (present_place at events) (same_length events)

pub following_times : (at : ℕ) (events : List Event) → following_at at (map time_of events) ≡ following_at at (map at_of events)
following_times at events = ap₂ place_of (following_place at events) (same_length events)
