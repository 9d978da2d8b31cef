-- Worked rows.
use Rattle.std.specs.Prelude.{◌≡◌, [], ◌∷◌, codes, refl}
use Rattle.std.specs.Fmt.{digits}
use Rattle.guide_model.specs.Genres.{genres_text}

row_none : genres_text [] ≡ []
row_none = refl

row_two : genres_text (record { level1 = 1; level2 = 0; user = 255 } ∷ record { level1 = 10; level2 = 15; user = 0 } ∷ []) ≡ codes "1.0.255 10.15.0"
unfolding digits
row_two = refl
