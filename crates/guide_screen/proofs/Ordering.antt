-- Services by their ids.
use Rattle.std.proofs.Common.{◌≡◌, ℕ, Bool, true, false, List, [], ◌∷◌, ◌++◌, length, take, drop, map, Option, Some, refl, sym, ap, ◌∙◌}
use Rattle.std.proofs.Common.{append_assoc, take-append-drop, Less, Equal, Greater, nat_cmp}
use Rattle.std.specs.Prelude.{if◌then◌else◌, cond, ◌==◌, nat_lt, option_to_list}
use Rattle.std.specs.BTreeMap.{insert_entry}
use Rattle.std.specs.Ordering.{match_ordering}
use Rattle.std.proofs.lemmas.Bool.{eqb-true}
use Rattle.std.proofs.lemmas.List.{take_at, drop_at}
use Rattle.table_bodies.specs.declared.sdt.SdtService.{SdtService}
use Rattle.guide_screen.specs.Needs.{with_service, by_service}

-- each behind its id
abbrev pub by_id : List SdtService → List (ℕ × SdtService)
by_id ss = map (λ (s : SdtService). (s.service, s)) ss

-- a map of services takes a service to its place, or in the place of the one of the same id
pub put_service : (s : SdtService) (ss : List SdtService) → insert_entry nat_cmp (by_id ss) s.service s ≡ by_id (with_service s ss)
put_service s [] = refl
put_service s (t ∷ ts) = go (nat_lt s.service t.service) (s.service == t.service) refl (put_service s ts)
  where
    go : (less same : Bool) → (s.service == t.service) ≡ same → insert_entry nat_cmp (by_id ts) s.service s ≡ by_id (with_service s ts)
        → match_ordering (cond less Less (cond same Equal Greater)) ((s.service, s) ∷ by_id (t ∷ ts)) ((t.service, s) ∷ by_id ts)
        ((t.service, t) ∷ insert_entry nat_cmp (by_id ts) s.service s)
        ≡ by_id (if less then s ∷ t ∷ ts else if same then s ∷ ts else t ∷ with_service s ts)
    go true same e rest = refl
    go false true e rest = ap (λ (id : ℕ). (id, s) ∷ by_id ts) (sym (eqb-true s.service t.service e))
    go false false e rest = ap (λ (l : List (ℕ × SdtService)). (t.service, t) ∷ l) rest

-- the last one that is left is taken: those before it are left, and it stands in order with those behind it
pub one_taken : (all kept left : List SdtService) (taken : Option SdtService) (s : SdtService) (entries more : List (ℕ × SdtService))
    → (kept ≡ take (length kept) all) × (entries ≡ by_id (by_service (drop (length kept) all)))
    → kept ≡ left ++ option_to_list taken → taken ≡ Some s → more ≡ insert_entry nat_cmp entries s.service s
    → (left ≡ take (length left) all) × (more ≡ by_id (by_service (drop (length left) all)))
one_taken all kept left taken s entries more is items one put =
    let behind = drop (length kept) all in
    let kept_is : kept ≡ left ++ s ∷ [] = items ∙ ap (λ (o : Option SdtService). left ++ option_to_list o) one in
    let whole : all ≡ left ++ (s ∷ behind) =
    sym (take-append-drop (length kept) all) ∙ ap (λ (l : List SdtService). l ++ behind) (sym is.0 ∙ kept_is)
    ∙ append_assoc left (s ∷ []) behind in (
      sym (ap (take (length left)) whole ∙ take_at left (s ∷ behind) (length left) refl),
      put ∙ ap (λ (l : List (ℕ × SdtService)). insert_entry nat_cmp l s.service s) is.1 ∙ put_service s (by_service behind)
          ∙ ap (λ (l : List SdtService). by_id (by_service l))
          (sym (ap (drop (length left)) whole ∙ drop_at left (s ∷ behind) (length left) refl)),
    )

values_back : (ss : List SdtService) → map (λ (e : ℕ × SdtService). e.1) (by_id ss) ≡ ss
values_back [] = refl
values_back (s ∷ ss) = ap (λ (l : List SdtService). s ∷ l) (values_back ss)

-- where none is left, the values are all services in order
pub all_taken : (all kept : List SdtService) (entries : List (ℕ × SdtService))
    → (kept ≡ take (length kept) all) × (entries ≡ by_id (by_service (drop (length kept) all))) → length kept ≡ 0
    → map (λ (e : ℕ × SdtService). e.1) entries ≡ by_service all
all_taken all kept entries is none =
    ap (map (λ (e : ℕ × SdtService). e.1)) (is.1 ∙ ap (λ (n : ℕ). by_id (by_service (drop n all))) none)
    ∙ values_back (by_service all)
