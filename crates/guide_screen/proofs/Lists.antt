-- One more of what a loop goes through.
use Rattle.std.proofs.Common.{◌≡◌, ℕ, ◌+◌, ◌<◌, List, [], ◌∷◌, ◌++◌, length, take, get_or, flat_map, sym, ap, ◌∙◌, append_assoc}
use Rattle.std.proofs.Common.{append-nil, Option}
use Rattle.std.proofs.lemmas.List.{take_more}
use Rattle.std.proofs.lemmas.Grind.{flat_map-append}
use Rattle.section_codec.specs.declared.table.Key.{Key}
use Rattle.section_codec.specs.Contents.{Content}
use Rattle.guide_screen.specs.declared.need.Need.{Need}
use Rattle.guide_screen.specs.Needs.{Want, unmet, unmet_of}

-- the elements so far, with the one that is met now
pub take-next : {X : Type 0} (xs : List X) (i : ℕ) (x : X) → i < length xs → x ≡ get_or xs i x → take (i + 1) xs ≡ take i xs ++ x ∷ []
take-next xs i x lt is = take_more xs i x lt ∙ ap (λ y. take i xs ++ y ∷ []) (sym is)

pub flat_map-push : {X A : Type 0} (f : X → List A) (xs : List X) (x : X) → flat_map f (xs ++ x ∷ []) ≡ flat_map f xs ++ f x
flat_map-push f xs x = flat_map-append f xs (x ∷ []) ∙ ap (λ ys. flat_map f xs ++ ys) (append-nil (f x))

-- the needs of wants so far, and of more
pub needs-next : (content : Key → Option Content) (before one after : List Want) (old now new : List Need) → after ≡ before ++ one
    → now ≡ old ++ unmet_of content before → new ≡ now ++ unmet_of content one → new ≡ old ++ unmet_of content after
needs-next content before one after old now new whole so_far put =
    put ∙ ap (λ (l : List Need). l ++ unmet_of content one) so_far ∙ append_assoc old (unmet_of content before) (unmet_of content one)
    ∙ ap (λ (l : List Need). old ++ l) (sym (flat_map-append (unmet content) before one) ∙ ap (unmet_of content) (sym whole))

-- a list that was appended for those so far, and one more
pub list-next : {X A : Type 0} (f : X → List A) (xs : List X) (i : ℕ) (d : X) (old now new : List A) → i < length xs
    → now ≡ old ++ flat_map f (take i xs) → new ≡ now ++ f (get_or xs i d) → new ≡ old ++ flat_map f (take (i + 1) xs)
list-next f xs i d old now new lt so_far put =
    put ∙ ap (λ l. l ++ f (get_or xs i d)) so_far ∙ append_assoc old (flat_map f (take i xs)) (f (get_or xs i d))
    ∙ ap (λ l. old ++ l) (sym (ap (flat_map f) (take_more xs i d lt) ∙ flat_map-push f (take i xs) (get_or xs i d)))
