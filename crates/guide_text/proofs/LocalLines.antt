-- The line of a region, part by part.
use Rattle.std.proofs.Common.{◌≡◌, ℕ, ◌++◌, ◌∷◌, [], List, refl, append_assoc}
use Rattle.std.specs.Prelude.{decimal, codes}
use Rattle.std.specs.List.{join_with_byte}
use Rattle.guide_model.specs.declared.offset.Offset.{Offset}
use Rattle.guide_text.specs.Fields.{code_text, moment_field, optional}
use Rattle.guide_text.specs.Guides.{side_text, local_moment, local_text, local_line}

cons_append : (b : ℕ) (xs ys : List ℕ) → (b ∷ xs) ++ ys ≡ b ∷ (xs ++ ys)
cons_append b xs ys = refl

joined : (out w c r s m d n t : List ℕ)
    → ((((out ++ w) ++ 9 ∷ (c ++ 9 ∷ (r ++ 9 ∷ s))) ++ 9 ∷ (m ++ 9 ∷ (d ++ 9 ∷ n))) ++ 9 ∷ t) ++ 10 ∷ []
    ≡ out ++ (join_with_byte 9 (w ∷ c ∷ r ∷ s ∷ m ∷ d ∷ n ∷ t ∷ []) ++ 10 ∷ [])
joined out w c r s m d n t = simp (append_assoc, cons_append)

pub local_parts : (out : List ℕ) (at : ℕ) (o : Offset) (a b c d : List ℕ) → a ≡ out ++ codes "local"
    → b ≡ a ++ 9 ∷ (code_text o.country ++ 9 ∷ (decimal o.region ++ 9 ∷ side_text o.behind))
    → c ≡ b ++ 9 ∷ (decimal o.minutes ++ 9 ∷ (moment_field o.change.0 ++ 9 ∷ decimal o.next))
    → d ≡ c ++ 9 ∷ optional local_text (local_moment at o) → d ++ 10 ∷ [] ≡ out ++ local_line at o
local_parts out at o a b c d word region minutes time =
    rw (time, minutes, region, word)
    (joined out (codes "local") (code_text o.country) (decimal o.region) (side_text o.behind) (decimal o.minutes) (moment_field o.change.0) (decimal o.next) (optional local_text (local_moment at o)))
