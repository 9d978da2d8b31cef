-- content_descriptor: classes of content (EN 300 468, 6.2.9).
use Rattle.std.specs.Prelude.{◌≡◌, ℕ, ◌+◌, ◌*◌, ◌/◌, ◌%◌, ◌<◌, List, [], ◌∷◌, Option, Some, None}
use Rattle.std.specs.Option.{option_map}
use Rattle.std.specs.List.{flat_map, AllByRecursion}
use Rattle.guide_model.specs.declared.event.Genre.{Genre}
use Rattle.descriptors.specs.Descriptors.{descriptor}

-- ---- written

-- an entry: content_nibble_level_1 4, content_nibble_level_2 4, user_byte 8
abbrev pub genre_bytes : Genre → List ℕ
genre_bytes g = (16 * g.level1 + g.level2) ∷ g.user ∷ []

abbrev pub content_body : List Genre → List ℕ
content_body genres = flat_map genre_bytes genres

abbrev pub content : List Genre → List ℕ
content genres = descriptor 0x54 (content_body genres)

-- ---- read

abbrev pub genre_of : ℕ → ℕ → Genre
genre_of levels user = record { level1 = levels / 16; level2 = levels % 16; user = user }

-- the entries that a body is; there are none where it ends within one
abbrev pub content_in : List ℕ → Option (List Genre)
content_in [] = Some []
content_in (levels ∷ []) = None
content_in (levels ∷ user ∷ rest) = option_map (λ genres. genre_of levels user ∷ genres) (content_in rest)

-- ---- laws

-- each level fits its 4 bits
abbrev pub HasNibbles : Genre → Type 0
HasNibbles g = (g.level1 < 16) × (g.level2 < 16)

-- Reading written entries gives them back.
abbrev pub ContentReadsBack : Type 0
ContentReadsBack = (genres : List Genre) → AllByRecursion HasNibbles genres → content_in (content_body genres) ≡ Some genres
