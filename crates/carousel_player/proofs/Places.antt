-- The sections of a cycle, by their places.
use Rattle.std.proofs.Common.{◌≡◌, ℕ, List, [], ◌∷◌, Option, Some, None, length, get_or, refl, sym, ap, subst, arith, drop, map, length-take, length-drop}
use Rattle.std.specs.Prelude.{IfSome, IfNone}
use Rattle.std.specs.List.{AllByRecursion, cons_option}
use Rattle.std.proofs.lemmas.Option.{slice_get_read}
use Rattle.std.proofs.lemmas.List.{get_or_default}
use Rattle.air_model.specs.Air.{Sent, at_places}
use Rattle.air_model.specs.declared.placed.Placed.{Placed}
use Rattle.air_model.specs.Laying.{IsPlaced, sent_at}
use Rattle.carousel_player.specs.Queue.{CanBeSent, IsBegun}
use Rattle.carousel_player.specs.Laying.{sections_left, order_left, AreToCome}

-- a section that is placed can be sent
placed_fits : (bytes : List ℕ) (p : Placed) → IsPlaced (length bytes) p → CanBeSent (sent_at bytes p)
placed_fits bytes p h = record { pid = h.pid; some = omega (arith, length-take p.len (drop p.start bytes), length-drop p.start bytes, h.within, h.some) }

all_fit : (bytes : List ℕ) (ps : List Placed) → AllByRecursion (IsPlaced (length bytes)) ps → AllByRecursion CanBeSent (map (sent_at bytes) ps)
all_fit bytes [] h = tt
all_fit bytes (p ∷ ps) h = (placed_fits bytes p h.0, all_fit bytes ps h.1)

pub queue_fits : (bytes : List ℕ) (placed : List Placed) (order : List ℕ) → AreToCome (length bytes) placed order → AllByRecursion CanBeSent (sections_left bytes placed order)
queue_fits bytes placed order h = all_fit bytes (at_places placed order) h.sections

-- sections that can be sent can begin
pub can_begin : (ss : List Sent) → AllByRecursion CanBeSent ss → IsBegun 0 ss
can_begin [] fit = refl
can_begin (s ∷ ss) fit = fit.0.some

-- the section that is next
pub record IsNext (bytes : List ℕ) (placed : List Placed) (at : ℕ) (order : List ℕ) (p : Placed) : Type 0 where
  pub here : at_places placed (at ∷ order) ≡ p ∷ at_places placed order
  pub fits : IsPlaced (length bytes) p
  pub others : AreToCome (length bytes) placed order

next_is : (bytes : List ℕ) (placed : List Placed) (at : ℕ) (order : List ℕ) (p : Placed) → AreToCome (length bytes) placed (at ∷ order) → p ≡ get_or placed at p → IsNext bytes placed at order p
next_is bytes placed at order p h is =
    let here : at_places placed (at ∷ order) ≡ p ∷ at_places placed order =
    ap (λ (o : Option Placed). cons_option o (at_places placed order)) (slice_get_read placed (length placed) at p refl h.within.0 is) in
    let all = subst (AllByRecursion (IsPlaced (length bytes))) here h.sections in
    record { here = here; fits = all.0; others = record { within = h.within.1; sections = all.1 } }

-- as the code reads it
pub next_at : (bytes : List ℕ) (placed : List Placed) (at : Option ℕ) (i : ℕ) (order : List ℕ) (other : Placed) → AreToCome (length bytes) placed (order_left at order) → at ≡ Some i
    → IsNext bytes placed i order (get_or placed i other)
next_at bytes placed at i order other h is =
    let k = subst (λ (o : Option ℕ). AreToCome (length bytes) placed (order_left o order)) is h in
    next_is bytes placed i order (get_or placed i other) k (get_or_default placed i other (get_or placed i other) k.within.0)

-- what was taken from the front of an order, and what is left of it
pub order_goes_on : (next : Option ℕ) (old new : List ℕ) → IfSome next (λ i. old ≡ i ∷ new) → IfNone next ((old ≡ []) × (new ≡ [])) → order_left next new ≡ old
order_goes_on None old new some none = sym none.0
order_goes_on (Some i) old new some none = sym some
