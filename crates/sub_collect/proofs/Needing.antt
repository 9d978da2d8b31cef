-- The needed numbers are gathered segment by segment.
use Rattle.std.proofs.Common.{◌≡◌, ℕ, zero, suc, ◌+◌, ◌-◌, ◌<◌, ◌≤◌, List, [], ◌∷◌, ◌++◌, refl, sym, ap, ◌∙◌, arith, append_assoc, append-nil}
use Rattle.std.specs.Prelude.{Option, Some, None, option_map}
use Rattle.section_codec.specs.Contents.{numbers_from}
use Rattle.section_codec.specs.Segments.{numbers_in_segment, and_numbers, segments_need}

-- ---- numbers, one more

pub numbers-more : (n k : ℕ) → numbers_from n (suc k) ≡ numbers_from n k ++ (n + k) ∷ []
numbers-more n zero = ap (λ (m : ℕ). m ∷ []) (let e : n ≡ n + 0 = omega arith in e)
numbers-more n (suc k) = ap (λ (l : List ℕ). n ∷ l) (numbers-more (1 + n) k ∙ ap (λ (m : ℕ). numbers_from (1 + n) k ++ m ∷ []) (let e : 1 + n + k ≡ n + suc k = omega arith in e))

pub number-put : (old new : List ℕ) (first n m : ℕ) → first ≤ n → m ≡ n + 1 → new ≡ (old ++ numbers_from first (n - first)) ++ n ∷ [] → new ≡ old ++ numbers_from first (m - first)
number-put old new first n m le next e =
    e ∙ append_assoc old (numbers_from first (n - first)) (n ∷ [])
    ∙ ap (λ (k : ℕ). old ++ (numbers_from first (n - first) ++ k ∷ [])) (let f : n ≡ first + (n - first) = omega arith in f)
    ∙ ap (λ (l : List ℕ). old ++ l) (sym (numbers-more first (n - first)))
    ∙ ap (λ (k : ℕ). old ++ numbers_from first k) (let f : suc (n - first) ≡ m - first = omega arith in f)

-- ---- segments, one more

-- these numbers, and then the others, where they are known
abbrev pub with_numbers : List ℕ → Option (List ℕ) → Option (List ℕ)
with_numbers ns more = option_map (λ ms. ns ++ ms) more

pub segments-start : (whole : Option (List ℕ)) → whole ≡ with_numbers [] whole
segments-start None = refl
segments-start (Some ns) = refl

module _ (last_of : ℕ → Option ℕ) (many n : ℕ) (ns : List ℕ) (whole : Option (List ℕ)) (so_far : whole ≡ with_numbers ns (segments_need last_of n (many - n))) where
  pub segments-none : n < many → last_of n ≡ None → whole ≡ None
  segments-none lt none =
      so_far ∙ ap (λ (k : ℕ). with_numbers ns (segments_need last_of n k)) (let e : many - n ≡ suc (many - n - 1) = omega arith in e)
      ∙ ap (λ (o : Option ℕ). with_numbers ns (and_numbers (option_map (numbers_in_segment n) o) (segments_need last_of (1 + n) (many - n - 1)))) none

  pub segments-more : (last m : ℕ) (new : List ℕ) → n < many → m ≡ n + 1 → last_of n ≡ Some last → new ≡ ns ++ numbers_in_segment n last → whole ≡ with_numbers new (segments_need last_of m (many - m))
  segments-more last m new lt next told put =
      so_far ∙ ap (λ (k : ℕ). with_numbers ns (segments_need last_of n k)) (let e : many - n ≡ suc (many - m) = omega arith in e)
      ∙ ap (λ (o : Option ℕ). with_numbers ns (and_numbers (option_map (numbers_in_segment n) o) (segments_need last_of (1 + n) (many - m)))) told
      ∙ joined (segments_need last_of (1 + n) (many - m))
      ∙ ap (λ (l : List ℕ). with_numbers l (segments_need last_of (1 + n) (many - m))) (sym put)
      ∙ ap (λ (k : ℕ). with_numbers new (segments_need last_of k (many - m))) (let e : 1 + n ≡ m = omega arith in e)
    where
      joined : (o : Option (List ℕ)) → with_numbers ns (and_numbers (Some (numbers_in_segment n last)) o) ≡ with_numbers (ns ++ numbers_in_segment n last) o
      joined None = refl
      joined (Some ms) = ap Some (sym (append_assoc ns (numbers_in_segment n last) ms))

  pub segments-end : many ≤ n → whole ≡ Some ns
  segments-end le = so_far ∙ ap (λ (k : ℕ). with_numbers ns (segments_need last_of n k)) (let e : many - n ≡ 0 = omega arith in e) ∙ ap Some (append-nil ns)
