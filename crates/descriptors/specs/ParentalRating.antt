-- parental_rating_descriptor: ratings by country (EN 300 468, 6.2.28).
use Rattle.std.specs.Prelude.{◌≡◌, ◌==◌, ℕ, Bool, List, [], ◌∷◌, ◌++◌, length, Option, Some, None}
use Rattle.std.specs.Option.{option_map}
use Rattle.std.specs.List.{flat_map, AllByRecursion}
use Rattle.guide_model.specs.declared.event.Rating.{Rating}
use Rattle.descriptors.specs.Descriptors.{descriptor}

-- ---- written

-- an entry: country_code 24, rating 8
abbrev pub rating_bytes : Rating → List ℕ
rating_bytes r = r.country ++ r.value ∷ []

abbrev pub parental_rating_body : List Rating → List ℕ
parental_rating_body ratings = flat_map rating_bytes ratings

abbrev pub parental_rating : List Rating → List ℕ
parental_rating ratings = descriptor 0x55 (parental_rating_body ratings)

-- ---- read

abbrev pub rating_of : ℕ → ℕ → ℕ → ℕ → Rating
rating_of a b c value = record { country = a ∷ b ∷ c ∷ []; value = value }

-- the entries that a body is; there are none where it ends within one
abbrev pub parental_rating_in : List ℕ → Option (List Rating)
parental_rating_in [] = Some []
parental_rating_in (a ∷ []) = None
parental_rating_in (a ∷ b ∷ []) = None
parental_rating_in (a ∷ b ∷ c ∷ []) = None
parental_rating_in (a ∷ b ∷ c ∷ value ∷ rest) = option_map (λ ratings. rating_of a b c value ∷ ratings) (parental_rating_in rest)

-- one entry: a rating shows it whole
abbrev pub is_one_rating : List ℕ → Bool
is_one_rating body = length body == 4

-- ---- laws

abbrev pub HasThreeLetters : Rating → Type 0
HasThreeLetters r = length r.country ≡ 3

-- Reading written entries gives them back.
abbrev pub ParentalRatingReadsBack : Type 0
ParentalRatingReadsBack = (ratings : List Rating) → AllByRecursion HasThreeLetters ratings → parental_rating_in (parental_rating_body ratings) ≡ Some ratings
