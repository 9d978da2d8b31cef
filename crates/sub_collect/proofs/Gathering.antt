-- A content is gathered number by number.
use Rattle.std.proofs.Common.{◌≡◌, ℕ, zero, suc, ◌+◌, ◌<◌, ◌≤◌, List, [], ◌∷◌, ◌++◌, length, drop, get_or, refl, sym, ap, ◌∙◌, arith, append_assoc, append-nil}
use Rattle.std.specs.Prelude.{Option, Some, None}
use Rattle.std.proofs.Math.ListN.{drop_of_length-le}
use Rattle.section_codec.specs.Contents.{Content}
use Rattle.sub_collect.specs.Slots.{with_body, content_by}

-- these parts, and then the others, where there are any
abbrev pub with_front : Content → Option Content → Option Content
with_front front None = None
with_front front (Some rest) = Some (front ++ rest)

one : (front : Content) (n : ℕ) (body : List ℕ) (rest : Option Content) → with_front front (with_body n (Some body) rest) ≡ with_front (front ++ record { number = n; body = body } ∷ []) rest
one front n body None = refl
one front n body (Some parts) = ap (λ (l : Content). Some l) (sym (append_assoc front (record { number = n; body = body } ∷ []) parts))

-- the numbers from a place on
pub from_place : (ns : List ℕ) (i d : ℕ) → i < length ns → drop i ns ≡ get_or ns i d ∷ drop (i + 1) ns
from_place [] i d lt = absurd (omega arith)
from_place (n ∷ ns) zero d lt = refl
from_place (n ∷ ns) (suc i) d lt =
    from_place ns i d (omega arith)
    ∙ ap (λ (k : ℕ). get_or ns i d ∷ drop k (n ∷ ns)) (let e : suc (i + 1) ≡ suc i + 1 = omega arith in e)

pub gather-start : (whole : Option Content) → whole ≡ with_front [] whole
gather-start None = refl
gather-start (Some c) = refl

module _ (held : ℕ → Option (List ℕ)) (ns : List ℕ) (i d : ℕ) (front : Content) (whole : Option Content) (so_far : whole ≡ with_front front (content_by held (drop i ns))) where
  pub gather-none : i < length ns → held (get_or ns i d) ≡ None → whole ≡ None
  gather-none lt none =
      so_far ∙ ap (λ (l : List ℕ). with_front front (content_by held l)) (from_place ns i d lt)
      ∙ ap (λ (o : Option (List ℕ)). with_front front (with_body (get_or ns i d) o (content_by held (drop (i + 1) ns)))) none

  pub gather-more : (body : List ℕ) → i < length ns → held (get_or ns i d) ≡ Some body
      → whole ≡ with_front (front ++ record { number = get_or ns i d; body = body } ∷ []) (content_by held (drop (i + 1) ns))
  gather-more body lt is =
      so_far ∙ ap (λ (l : List ℕ). with_front front (content_by held l)) (from_place ns i d lt)
      ∙ ap (λ (o : Option (List ℕ)). with_front front (with_body (get_or ns i d) o (content_by held (drop (i + 1) ns)))) is
      ∙ one front (get_or ns i d) body (content_by held (drop (i + 1) ns))

  pub gather-end : length ns ≤ i → whole ≡ Some front
  gather-end le = so_far ∙ ap (λ (l : List ℕ). with_front front (content_by held l)) (drop_of_length-le ns le) ∙ ap (λ (l : Content). Some l) (append-nil front)
