-- A cycle that begins.
use Rattle.std.proofs.Common.{◌≡◌, ℕ, suc, ◌+◌, ◌-◌, ◌<◌, ◌≤◌, inl, inr, List, [], ◌∷◌, ◌++◌, Bool, false, Option, Some, None, length, get_or, refl, sym, ap, ap₂, ◌∙◌, subst, arith, take, drop, map, ne_eqb}
use Rattle.std.specs.Prelude.{◌==◌, if◌then◌else◌, count_by, slice_get}
use Rattle.std.proofs.lemmas.Option.{slice_get-get_or}
use Rattle.air_model.specs.Air.{at_places}
use Rattle.std.specs.List.{All, AllByRecursion, cons_option}
use Rattle.std.proofs.lemmas.Bool.{cases_lt}
use Rattle.std.proofs.lemmas.List.{take_more}
use Rattle.std.proofs.lemmas.List.Elements.{filter_map-append}
use Rattle.air_model.specs.declared.placed.Placed.{Placed}
use Rattle.air_model.specs.Laying.{IsPlaced, sent_at}
use Rattle.air_audit.specs.declared.lanes.Lane.{Lane}
use Rattle.air_audit.specs.Fronts.{ToCome, all_waiting, to_come_on}
use Rattle.air_audit.specs.Audits.{on_pid}
use Rattle.air_audit.specs.Progress.{to_come_of, all_shown, next_on, is_busy, IsWithin, AreLinked, AreFresh, AreWithin}
use Rattle.air_audit.proofs.Nexts.{next-fits, next-first, waiting_next}
use Rattle.air_audit.proofs.Ways.{lane_told, none_told, no_lane}

-- what stands at one place more of an order
pub places_more : (each : List Placed) (order : List ℕ) (i : ℕ) (d : Placed) → i < length order → get_or order i 0 < length each
    → at_places each (take (i + 1) order) ≡ at_places each (take i order) ++ get_or each (get_or order i 0) d ∷ []
places_more each order i d lt within =
    ap (at_places each) (take_more order i 0 lt) ∙ filter_map-append (slice_get each) (take i order) (get_or order i 0 ∷ [])
    ∙ ap (λ (o : Option Placed). at_places each (take i order) ++ cons_option o []) (slice_get-get_or each (get_or order i 0) d within)

-- an order that names places within gives as many sections
pub length-in_order : (each : List Placed) (order : List ℕ) → AllByRecursion (λ (at : ℕ). at < length each) order → length (at_places each order) ≡ length order
length-in_order each [] h = refl
length-in_order each (at ∷ order) h =
    ap (λ (o : Option Placed). length (cons_option o (at_places each order))) (slice_get-get_or each at (record { pid = 0; start = 0; len = 0 }) h.0) ∙ ap suc (length-in_order each order h.1)

none_beyond : (pid : ℕ) (bytes : List ℕ) (placed : List Placed) → 8192 ≤ pid → AllByRecursion (IsPlaced (length bytes)) placed → on_pid pid (map (sent_at bytes) placed) ≡ []
none_beyond pid bytes [] le fit = refl
none_beyond pid bytes (p ∷ placed) le fit =
    let other : (p.pid == pid) ≡ false = ne_eqb p.pid pid (λ e. let lt = fit.0.pid in omega (arith, lt, e, le)) in
    ap (λ (b : Bool). cons_option (if b then Some (sent_at bytes p).bytes else None) (on_pid pid (map (sent_at bytes) placed))) other ∙ none_beyond pid bytes placed le fit.1

-- all sections of the cycle wait
pub all_begun : (bytes : List ℕ) (placed : List Placed) (lanes : List Lane) → AllByRecursion (IsPlaced (length bytes)) placed → AreFresh (λ (pid : ℕ). next_on pid placed 0) lanes → (pid : ℕ)
    → to_come_on (all_shown bytes placed lanes) pid ≡ all_waiting (on_pid pid (map (sent_at bytes) placed))
all_begun bytes placed lanes fit fresh pid = elim (cases_lt pid 8192) [
  | inl lt ↦
      let lane : Lane = record { pid = pid; at = 0; end = 0; next = next_on pid placed 0 } in
      lane_told bytes placed lanes pid no_lane (omega (arith, fresh.many, lt)) ∙ ap (to_come_of bytes placed) (fresh.each pid no_lane lt)
      ∙ ap₂ (λ (r : List ℕ) (w : List (List ℕ)). let t : ToCome = record { rest = r; waiting = w } in t) (ap (λ (k : ℕ). take k (drop 0 bytes)) (let z : 0 - 0 ≡ 0 = omega arith in z)) (waiting_next pid bytes placed 0)
  | inr le ↦ none_told bytes placed lanes pid (omega (arith, fresh.many, le)) ∙ ap all_waiting (sym (none_beyond pid bytes placed le fit))
]

-- what has begun is within what is laid
pub all_within : (bytes : List ℕ) (placed : List Placed) (links : List ℕ) (lanes : List Lane) (busy : ℕ) → All (IsPlaced (length bytes)) placed → AreLinked placed links → AreFresh (λ (pid : ℕ). next_on pid placed 0) lanes
    → busy ≡ count_by (is_busy (length placed)) lanes → AreWithin bytes placed links lanes busy
all_within bytes placed links lanes busy fit linked fresh count = record {
  sections = fit;
  linked = linked;
  each = λ i d lt. subst (IsWithin (length bytes) placed) (sym (fresh.each i d (omega (arith, fresh.many, lt)))) (record { order = omega arith; end = omega arith; next = next-fits i placed 0 (omega arith); first = next-first i placed 0 });
  own = λ i d lt. ap (λ (l : Lane). l.pid) (fresh.each i d (omega (arith, fresh.many, lt)));
  count = count;
}
