-- Sections that are chosen alike.
use Rattle.std.proofs.Common.{◌≡◌, ℕ, zero, suc, List, [], ◌∷◌, Option, Some, None, length, refl, ap₂, subst, arith, map, drop}
use Rattle.std.specs.Prelude.{filter_map, option_map, slice_get}
use Rattle.std.specs.List.{AllByRecursion, cons_option}
use Rattle.std.proofs.lemmas.List.{length-take-le, length-drop}
use Rattle.air_timing.specs.declared.timing.Timing.{Timing}
use Rattle.air_model.specs.Air.{Sent}
use Rattle.air_model.specs.Bursts.{Burst}
use Rattle.cycle_timing.specs.Cycle.{Run, burst_of}
use Rattle.carousel_player.specs.Queue.{CanBeSent}
use Rattle.air_model.specs.declared.placed.Placed.{Placed}
use Rattle.air_model.specs.Laying.{IsPlaced}
use Rattle.air_model.specs.Telling.{sent_retold, laid_in}
use Rattle.air_model.proofs.Retelling.{length-retold}

pub chosen_same : {X Y : Type 0} (f g : X → Option Y) → ((x : X) → f x ≡ g x) → (xs : List X) → filter_map f xs ≡ filter_map g xs
chosen_same f g same [] = refl
chosen_same f g same (x ∷ xs) = ap₂ cons_option (same x) (chosen_same f g same xs)

pub bursts_same : (f g : Timing → Option Sent) → ((t : Timing) → f t ≡ g t) → (rs : List Run) → map (burst_of f) rs ≡ map (burst_of g) rs
bursts_same f g same [] = refl
bursts_same f g same (r ∷ rs) = ap₂ (λ (ss : List Sent) (bs : List Burst). record { nulls = r.nulls; sections = ss } ∷ bs) (chosen_same f g same r.part) (bursts_same f g same rs)

-- what holds of each that is chosen
pub all_chosen : {X Y : Type 0} (P : Y → Type 0) (f : X → Option Y) → ((x : X) (y : Y) → f x ≡ Some y → P y) → (xs : List X) → AllByRecursion P (filter_map f xs)
all_chosen P f each [] = tt
all_chosen P f each (x ∷ xs) = go (f x) refl (all_chosen P f each xs)
  where
    go : (o : Option _) → f x ≡ o → AllByRecursion P (filter_map f xs) → AllByRecursion P (cons_option o (filter_map f xs))
    go None e r = r
    go (Some y) e r = (each x y e, r)

pub got : {X : Type 0} (P : X → Type 0) (xs : List X) (i : ℕ) (x : X) → AllByRecursion P xs → slice_get xs i ≡ Some x → P x
got P [] i x h e = cc
got P (y ∷ ys) zero x h e = let f : y ≡ x = cc in subst P f h.0
got P (y ∷ ys) (suc i) x h e = got P ys i x h.1 e

-- ---- sections that are laid can be sent

pub placed_fit : (bytes : List ℕ) (placed : List Placed) → AllByRecursion (IsPlaced (length bytes)) placed → AllByRecursion CanBeSent (laid_in bytes placed)
placed_fit bytes [] h = tt
placed_fit bytes (p ∷ placed) h =
    let some = h.0.some in
    let within = h.0.within in
    let size = length-take-le p.len (drop p.start bytes) (omega (arith, length-drop p.start bytes)) in
    (record { pid = h.0.pid; some = omega arith }, placed_fit bytes placed h.1)

pub retold_fit : (m : ℕ) (s : Sent) → CanBeSent s → CanBeSent (sent_retold m s)
retold_fit m s fit = record { pid = fit.pid; some = (let size = length-retold m s.bytes in let some = fit.some in omega arith) }

pub told_fit : (m : ℕ) (laid : List Sent) (i : ℕ) (s : Sent) → AllByRecursion CanBeSent laid → option_map (sent_retold m) (slice_get laid i) ≡ Some s → CanBeSent s
told_fit m laid i s fit e = go (slice_get laid i) refl e
  where
    go : (o : Option Sent) → slice_get laid i ≡ o → option_map (sent_retold m) o ≡ Some s → CanBeSent s
    go None f e = cc
    go (Some x) f e = let is : sent_retold m x ≡ s = cc in subst CanBeSent is (retold_fit m x (got CanBeSent laid i x fit f))
