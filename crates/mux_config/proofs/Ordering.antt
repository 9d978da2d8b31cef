-- Services in ascending order, and the records of a kind, one after another.
use Rattle.std.proofs.Common.{◌≡◌, ℕ, suc, ◌+◌, ◌<◌, ◌≤◌, Bool, List, [], ◌∷◌, ◌++◌, length, take, drop, map, get_or, refl, sym, ap, ◌∙◌, arith, inl, inr, append-nil}
use Rattle.std.specs.Prelude.{nat_lt, position, Option, Some, None}
use Rattle.std.specs.List.{cons_option, fold, position_or_len}
use Rattle.std.proofs.lemmas.Bool.{cases_Bool}
use Rattle.std.proofs.lemmas.Bool.Decides.{nat_tests}
use Rattle.std.proofs.lemmas.List.{take_more}
use Rattle.std.proofs.lemmas.List.Concat.{flat_map-append}
use Rattle.std.proofs.lemmas.Option.{cond_some}
use Rattle.si_lists.proofs.Truths.{none_not}
use Rattle.mux_model.specs.declared.mux.MuxService.{MuxService}
use Rattle.guide_model.specs.declared.descriptor.RawDesc.{RawDesc}
use Rattle.mux_lines.specs.declared.record.Place.{Place}
use Rattle.mux_lines.specs.declared.record.Record.{Record}
use Rattle.mux_lines.specs.declared.record.Numbered.{Numbered}
use Rattle.mux_model.specs.declared.mux.RemoteService.{RemoteService}
use Rattle.mux_model.specs.declared.mux.Other.{Other}
use Rattle.mux_model.specs.Order.{all_placed}
use Rattle.mux_model.specs.Sound.{comes_before, has_lower_id}
use Rattle.mux_model.proofs.Placing.{map_with, placed_more}
use Rattle.mux_config.specs.Descriptions.{all_of, descriptors_at, insert, other_in, said_at, service_in, sorted, with_own, with_parts, with_remotes}
use Rattle.mux_config.specs.Kinds.{put_other, put_remote, put_service}
use Rattle.mux_config.proofs.RecordFacts.{all_more}

-- ---- the place of a service

abbrev Later : ℕ → MuxService → Bool
Later id t = nat_lt id t.service

insert_at : (s : MuxService) (ts : List MuxService) → insert s ts ≡ take (position_or_len (Later s.service) ts) ts ++ s ∷ drop (position_or_len (Later s.service) ts) ts
insert_at s [] = refl
insert_at s (t ∷ ts) = elim (cases_Bool (nat_lt s.service t.service)) [
  | inl e ↦ rw e refl
  | inr e ↦
      let n = position_or_len (Later s.service) ts in
      let next : 1 + n ≡ suc n = omega arith in
      rw (e, next) (ap (λ (l : List MuxService). t ∷ l) (insert_at s ts))
]

pub place_found : (s : MuxService) (ts : List MuxService) (id at : ℕ) → s.service ≡ id → position (Later id) ts ≡ Some at → insert s ts ≡ take at ts ++ s ∷ drop at ts
place_found s ts id at same e =
    let here : position_or_len (Later id) ts ≡ at = (cond_some (nat_lt (position_or_len (Later id) ts) (length ts)) (position_or_len (Later id) ts) at e).1 in
    insert_at s ts ∙ ap (λ (k : ℕ). take (position_or_len (Later k) ts) ts ++ s ∷ drop (position_or_len (Later k) ts) ts) same ∙ ap (λ (k : ℕ). take k ts ++ s ∷ drop k ts) here

within_len : (test : MuxService → Bool) (ts : List MuxService) → position_or_len test ts ≤ length ts
within_len test [] = omega arith
within_len test (t ∷ ts) = elim (cases_Bool (test t)) [
  | inl e ↦ rw e (omega arith)
  | inr e ↦ rw e (omega (arith, within_len test ts))
]

pub place_none : (s : MuxService) (ts : List MuxService) (id : ℕ) → s.service ≡ id → position (Later id) ts ≡ None → insert s ts ≡ take (length ts) ts ++ s ∷ drop (length ts) ts
place_none s ts id same e =
    let past = none_not (nat_lt (position_or_len (Later id) ts) (length ts)) (position_or_len (Later id) ts) e in
    let most = within_len (Later id) ts in
    let here : position_or_len (Later id) ts ≡ length ts = grind (arith, nat_tests) in
    insert_at s ts ∙ ap (λ (k : ℕ). take (position_or_len (Later k) ts) ts ++ s ∷ drop (position_or_len (Later k) ts) ts) same ∙ ap (λ (k : ℕ). take k ts ++ s ∷ drop k ts) here

-- ---- one record more

pub all_step : {X : Type 0} (kind : Record → Option X) (rs : List Numbered) (i : ℕ) (x : Numbered) → i < length rs → x ≡ get_or rs i x → all_of kind (take (i + 1) rs) ≡ all_of kind (take i rs) ++ cons_option (kind x.says) []
all_step kind rs i x lt e = ap (all_of kind) (take_more rs i x lt ∙ ap (λ (y : Numbered). take i rs ++ y ∷ []) (sym e)) ∙ all_more kind (take i rs) x

pub at_step : (place : Place) (rs : List Numbered) (i : ℕ) (x : Numbered) → i < length rs → x ≡ get_or rs i x → descriptors_at place (take (i + 1) rs) ≡ descriptors_at place (take i rs) ++ said_at place x.says
at_step place rs i x lt e =
    ap (descriptors_at place) (take_more rs i x lt ∙ ap (λ (y : Numbered). take i rs ++ y ∷ []) (sym e))
    ∙ flat_map-append (λ (r : Numbered). said_at place r.says) (take i rs) (x ∷ [])
    ∙ ap (λ (ds : List RawDesc). descriptors_at place (take i rs) ++ ds) (append-nil (said_at place x.says))

-- ---- services that ascend

pub map_insert : (rs : List Numbered) (s : MuxService) (ts : List MuxService) → map (with_parts rs) (insert s ts) ≡ insert (with_parts rs s) (map (with_parts rs) ts)
map_insert rs s [] = refl
map_insert rs s (t ∷ ts) = elim (cases_Bool (nat_lt s.service t.service)) [
  | inl e ↦ rw e refl
  | inr e ↦ rw e (ap (λ (l : List MuxService). with_parts rs t ∷ l) (map_insert rs s ts))
]

fold_more : (xs done : List MuxService) (s : MuxService) → fold (λ (d : List MuxService) (x : MuxService). insert x d) done (xs ++ s ∷ []) ≡ insert s (fold (λ (d : List MuxService) (x : MuxService). insert x d) done xs)
fold_more [] done s = refl
fold_more (x ∷ xs) done s = fold_more xs (insert x done) s

pub sorted_more : (xs : List MuxService) (s : MuxService) → sorted (xs ++ s ∷ []) ≡ insert s (sorted xs)
sorted_more xs s = fold_more xs [] s

services_put : (rs : List Numbered) (xs : List MuxService) (o : Option MuxService) → put_service rs (map (with_parts rs) (sorted xs)) o ≡ map (with_parts rs) (sorted (xs ++ cons_option o []))
services_put rs xs None = ap (λ (l : List MuxService). map (with_parts rs) (sorted l)) (sym (append-nil xs))
services_put rs xs (Some s) = sym (ap (map (with_parts rs)) (sorted_more xs s) ∙ map_insert rs s (sorted xs))

pub services_next : (rs : List Numbered) (i : ℕ) (x : Numbered) (done next : List MuxService) → i < length rs → x ≡ get_or rs i x → done ≡ map (with_parts rs) (sorted (all_of service_in (take i rs)))
    → next ≡ put_service rs done (service_in x.says) → next ≡ map (with_parts rs) (sorted (all_of service_in (take (i + 1) rs)))
services_next rs i x done next lt e before put =
    put ∙ ap (λ (l : List MuxService). put_service rs l (service_in x.says)) before
    ∙ services_put rs (all_of service_in (take i rs)) (service_in x.says)
    ∙ ap (λ (l : List MuxService). map (with_parts rs) (sorted l)) (sym (all_step service_in rs i x lt e))

-- ---- other streams and their services

remotes_put : (rs : List Numbered) (xs : List RemoteService) (o : Option RemoteService)
    → put_remote rs (map (with_own rs) (all_placed has_lower_id xs [])) o ≡ map (with_own rs) (all_placed has_lower_id (xs ++ cons_option o []) [])
remotes_put rs xs None = ap (λ (l : List RemoteService). map (with_own rs) (all_placed has_lower_id l [])) (sym (append-nil xs))
remotes_put rs xs (Some s) =
    sym (ap (map (with_own rs)) (placed_more has_lower_id xs [] s) ∙ map_with (with_own rs) has_lower_id has_lower_id (λ a b. refl) s (all_placed has_lower_id xs []))

pub remotes_next : (kind : Record → Option RemoteService) (rs : List Numbered) (i : ℕ) (x : Numbered) (done next : List RemoteService) → i < length rs → x ≡ get_or rs i x
    → done ≡ map (with_own rs) (all_placed has_lower_id (all_of kind (take i rs)) []) → next ≡ put_remote rs done (kind x.says)
    → next ≡ map (with_own rs) (all_placed has_lower_id (all_of kind (take (i + 1) rs)) [])
remotes_next kind rs i x done next lt e before put =
    put ∙ ap (λ (l : List RemoteService). put_remote rs l (kind x.says)) before
    ∙ remotes_put rs (all_of kind (take i rs)) (kind x.says)
    ∙ ap (λ (l : List RemoteService). map (with_own rs) (all_placed has_lower_id l [])) (sym (all_step kind rs i x lt e))

others_put : (rs : List Numbered) (xs : List Other) (o : Option Other)
    → put_other rs (map (with_remotes rs) (all_placed comes_before xs [])) o ≡ map (with_remotes rs) (all_placed comes_before (xs ++ cons_option o []) [])
others_put rs xs None = ap (λ (l : List Other). map (with_remotes rs) (all_placed comes_before l [])) (sym (append-nil xs))
others_put rs xs (Some o) =
    sym (ap (map (with_remotes rs)) (placed_more comes_before xs [] o) ∙ map_with (with_remotes rs) comes_before comes_before (λ a b. refl) o (all_placed comes_before xs []))

pub others_next : (rs : List Numbered) (i : ℕ) (x : Numbered) (done next : List Other) → i < length rs → x ≡ get_or rs i x
    → done ≡ map (with_remotes rs) (all_placed comes_before (all_of other_in (take i rs)) []) → next ≡ put_other rs done (other_in x.says)
    → next ≡ map (with_remotes rs) (all_placed comes_before (all_of other_in (take (i + 1) rs)) [])
others_next rs i x done next lt e before put =
    put ∙ ap (λ (l : List Other). put_other rs l (other_in x.says)) before
    ∙ others_put rs (all_of other_in (take i rs)) (other_in x.says)
    ∙ ap (λ (l : List Other). map (with_remotes rs) (all_placed comes_before l [])) (sym (all_step other_in rs i x lt e))
