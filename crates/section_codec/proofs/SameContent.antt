-- The test of equal contents.
use Rattle.std.proofs.Common.{◌≡◌, ◌≢◌, [], ◌∷◌, Bool, true, false, ◌&&◌, ◌==◌, refl, subst, eq-eqb, eqb-true}
use Rattle.std.specs.Prelude.{bytes_eq}
use Rattle.std.proofs.lemmas.Slice.Eq.{bytes_eq-Decides}
use Rattle.std.proofs.lemmas.Bool.{and_parts, and_from}
use Rattle.section_codec.specs.declared.table.NumberedBody.{NumberedBody}
use Rattle.section_codec.specs.Contents.{Content, is_content, ContentsAreCompared}

-- a number and a body make one section
pub same_part : (p q : NumberedBody) → p.number ≡ q.number → p.body ≡ q.body → p ≡ q
same_part p q a b = λ i. record { number = a i; body = b i }

-- the test of equal contents tells equal contents
pub is_content-same : (xs ys : Content) → is_content xs ys ≡ true → xs ≡ ys
is_content-same [] [] e = refl
is_content-same [] (y ∷ ys) e = cc
is_content-same (x ∷ xs) [] e = cc
is_content-same (x ∷ xs) (y ∷ ys) e =
    let p = and_parts (x.number == y.number && bytes_eq x.body y.body) (is_content xs ys) e in
    let q = and_parts (x.number == y.number) (bytes_eq x.body y.body) p.0 in
    let h : x ≡ y = same_part x y (eqb-true x.number y.number q.0) ((bytes_eq-Decides x.body y.body).0 q.1) in
    let t : xs ≡ ys = is_content-same xs ys p.1 in
    cc

pub is_content-itself : (xs : Content) → is_content xs xs ≡ true
is_content-itself [] = refl
is_content-itself (x ∷ xs) = and_from (x.number == x.number && bytes_eq x.body x.body) (is_content xs xs)
    (and_from (x.number == x.number) (bytes_eq x.body x.body) (eq-eqb x.number x.number refl) ((bytes_eq-Decides x.body x.body).1 refl)) (is_content-itself xs)

pub is_content-apart : (xs ys : Content) → xs ≢ ys → is_content xs ys ≡ false
is_content-apart xs ys other = go (is_content xs ys) refl
  where
    go : (x : Bool) → is_content xs ys ≡ x → is_content xs ys ≡ false
    go true e = absurd (other (is_content-same xs ys e))
    go false e = e

pub contents_are_compared : ContentsAreCompared
contents_are_compared a b = (is_content-same a b, λ e. subst (λ (c : Content). is_content a c ≡ true) e (is_content-itself a))
