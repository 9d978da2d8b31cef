-- The services of views are those that feeds edit.
use Rattle.std.proofs.Common.{◌≡◌, ℕ, List, [], ◌∷◌, inl, inr}
use Rattle.std.specs.Prelude.{Some, None}
use Rattle.std.specs.List.{AllByRecursion}
use Rattle.std.proofs.lemmas.Bool.{cases_Bool}
use Rattle.mux_model.specs.declared.mux.Mux.{Mux}
use Rattle.headend_live.specs.Viewing.{IsServiceOf}
use Rattle.epg_live.specs.Views.{has_service, unserved}

-- where none of them is lacking
pub all_served : (mux : Mux) (views : List ℕ) → unserved mux views ≡ None → AllByRecursion (IsServiceOf mux) views
all_served mux [] none = tt
all_served mux (view ∷ views) none = elim (cases_Bool (has_service mux view)) [
  | inl has ↦ (has, all_served mux views (rw has at none))
  | inr lacks ↦ (let bad : Some view ≡ None = rw lacks at none in cc bad)
]
