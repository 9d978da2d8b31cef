-- The text of genres (EN 300 468, 6.2.9).
use Rattle.std.specs.Prelude.{ℕ, ◌++◌, ◌∷◌, List, map, decimal}
use Rattle.std.specs.List.{join_with_byte}
use Rattle.guide_model.specs.declared.event.Genre.{Genre}

-- content_nibble_level_1, content_nibble_level_2 and user_byte, with points (46) between
abbrev pub genre_text : Genre → List ℕ
genre_text g = decimal g.level1 ++ 46 ∷ (decimal g.level2 ++ 46 ∷ decimal g.user)

-- with single spaces (32) between
abbrev pub genres_text : List Genre → List ℕ
genres_text genres = join_with_byte 32 (map genre_text genres)
