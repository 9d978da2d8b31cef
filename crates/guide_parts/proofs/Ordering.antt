-- Services by their ids.
use Rattle.std.proofs.Common.{◌≡◌, refl, ℕ, List, ◌∷◌, [], ◌++◌, length, take, drop, map, Option, Some, sym, ap, ◌∙◌, append_assoc, take-append-drop, nat_cmp}
use Rattle.std.specs.Prelude.{option_to_list}
use Rattle.std.specs.BTreeMap.{insert_entry}
use Rattle.std.proofs.lemmas.List.{take_at, drop_at}
use Rattle.guide_parts.specs.declared.part_screen.Listed.{Listed}
use Rattle.guide_parts.specs.PartScreen.{by_id, in_order}

-- the last one that is left is taken: those before it are left, and it stands in order with those behind it
pub one_taken : (all kept left : List Listed) (taken : Option Listed) (l : Listed) (entries more : List (ℕ × Listed))
    → (kept ≡ take (length kept) all) × (entries ≡ by_id (drop (length kept) all))
    → kept ≡ left ++ option_to_list taken → taken ≡ Some l → more ≡ insert_entry nat_cmp entries l.service l
    → (left ≡ take (length left) all) × (more ≡ by_id (drop (length left) all))
one_taken all kept left taken l entries more is items one put =
    let behind = drop (length kept) all in
    let kept_is : kept ≡ left ++ l ∷ [] = items ∙ ap (λ (o : Option Listed). left ++ option_to_list o) one in
    let whole : all ≡ left ++ (l ∷ behind) =
    sym (take-append-drop (length kept) all) ∙ ap (λ (ls : List Listed). ls ++ behind) (sym is.0 ∙ kept_is)
    ∙ append_assoc left (l ∷ []) behind in (
      sym (ap (take (length left)) whole ∙ take_at left (l ∷ behind) (length left) refl),
      put ∙ ap (λ (es : List (ℕ × Listed)). insert_entry nat_cmp es l.service l) is.1
          ∙ ap by_id (sym (ap (drop (length left)) whole ∙ drop_at left (l ∷ behind) (length left) refl)),
    )

-- where none is left, the values are all services in order
pub all_taken : (all kept : List Listed) (entries : List (ℕ × Listed))
    → (kept ≡ take (length kept) all) × (entries ≡ by_id (drop (length kept) all)) → length kept ≡ 0
    → map (λ (e : ℕ × Listed). e.1) entries ≡ in_order all
all_taken all kept entries is none = ap (map (λ (e : ℕ × Listed). e.1)) (is.1 ∙ ap (λ (n : ℕ). by_id (drop n all)) none)
