-- Entries of content and parental_rating, read one after the other.
use Rattle.std.proofs.Common.{◌≡◌, ℕ, ◌+◌, ◌*◌, ◌/◌, ◌%◌, List, [], ◌∷◌, ◌++◌, length, Some, refl, sym, ap, subst, ◌∙◌, arith, length-append}
use Rattle.std.specs.Option.{option_map}
use Rattle.std.specs.List.{AllByRecursion}
use Rattle.si_lists.proofs.Lists.{three_of}
use Rattle.guide_model.specs.declared.event.Genre.{Genre}
use Rattle.guide_model.specs.declared.event.Rating.{Rating}
use Rattle.descriptors.specs.Content.{content_body, genre_of, ContentReadsBack}
use Rattle.descriptors.specs.ParentalRating.{parental_rating_body, rating_of, parental_rating_in, HasThreeLetters, ParentalRatingReadsBack}

-- ---- content

pub length-content_body : (genres : List Genre) → length (content_body genres) ≡ 2 * length genres
length-content_body [] = refl
length-content_body (g ∷ genres) = omega (arith, length-content_body genres)

pub content-reads_back : ContentReadsBack
content-reads_back [] fit = refl
content-reads_back (g ∷ genres) fit =
    let high : (16 * g.level1 + g.level2) / 16 ≡ g.level1 = omega (arith, fit.0.0, fit.0.1) in
    let low : (16 * g.level1 + g.level2) % 16 ≡ g.level2 = omega (arith, fit.0.0, fit.0.1) in
    ap (λ read. option_map (λ more. genre_of (16 * g.level1 + g.level2) g.user ∷ more) read) (content-reads_back genres fit.1)
    ∙ ap (λ (n : ℕ). Some (record { level1 = n; level2 = (16 * g.level1 + g.level2) % 16; user = g.user } ∷ genres)) high
    ∙ ap (λ (n : ℕ). Some (record { level1 = g.level1; level2 = n; user = g.user } ∷ genres)) low

-- ---- parental_rating

pub length-parental_rating_body : (ratings : List Rating) → AllByRecursion HasThreeLetters ratings → length (parental_rating_body ratings) ≡ 4 * length ratings
length-parental_rating_body [] three = refl
length-parental_rating_body (r ∷ ratings) three =
    omega (arith, length-append (r.country ++ r.value ∷ []) (parental_rating_body ratings), length-append r.country (r.value ∷ []), three.0, length-parental_rating_body ratings three.1)

pub parental_rating-reads_back : ParentalRatingReadsBack
parental_rating-reads_back [] three = refl
parental_rating-reads_back (r ∷ ratings) three =
    let t = three_of r.country three.0 in
    subst (λ (xs : List ℕ). parental_rating_in ((xs ++ r.value ∷ []) ++ parental_rating_body ratings) ≡ Some (record { country = xs; value = r.value } ∷ ratings)) (sym t.3)
    (ap (λ read. option_map (λ more. rating_of t.0 t.1 t.2 r.value ∷ more) read) (parental_rating-reads_back ratings three.1))
