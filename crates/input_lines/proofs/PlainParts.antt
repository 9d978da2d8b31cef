-- The parts of a plain line are plain.
use Rattle.std.proofs.Common.{◌≡◌, ◌==◌, ◌∷◌, [], ℕ, suc, zero, ◌<◌, length, List, refl, true, inl, inr, get_or, arith}
use Rattle.std.specs.List.{AllByRecursion, onto_first}
use Rattle.std.proofs.lemmas.Bool.{cases_Bool, and_parts}
use Rattle.guide_model.specs.Coding.{is_plain, all_plain}
use Rattle.input_lines.specs.Fields.{comma_parts, IsPlain}

plain_first : (b : ℕ) (ps : List (List ℕ)) → is_plain b ≡ true → AllByRecursion IsPlain ps → AllByRecursion IsPlain (onto_first b ps)
plain_first b [] p h = (rw p refl, h)
plain_first b (q ∷ ps) p h = (rw p h.0, h.1)

pub plain_parts : (bs : List ℕ) → all_plain bs ≡ true → AllByRecursion IsPlain (comma_parts bs)
plain_parts [] h = (refl, tt)
plain_parts (b ∷ bs) h =
    let (first, more) = and_parts (is_plain b) (all_plain bs) h in
    elim (cases_Bool (b == 44)) [
      | inl e ↦ rw e (refl, plain_parts bs more)
      | inr e ↦ rw e (plain_first b (comma_parts bs) first (plain_parts bs more))
    ]

pub plain_in : (ps : List (List ℕ)) (i : ℕ) (x : List ℕ) → AllByRecursion IsPlain ps → i < length ps → IsPlain (get_or ps i x)
plain_in [] i x h l = absurd (omega (arith, l))
plain_in (p ∷ ps) zero x h l = h.0
plain_in (p ∷ ps) (suc i) x h l = plain_in ps i x h.1 (omega (arith, l))
