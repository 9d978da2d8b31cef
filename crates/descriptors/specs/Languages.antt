-- ISO_639_language_descriptor: the languages of a component (ISO/IEC 13818-1, 2.6.18).
use Rattle.std.specs.Prelude.{◌≡◌, ◌==◌, ◌&&◌, ℕ, Bool, List, [], ◌∷◌, ◌++◌, length, slice_index, Option, Some, None}
use Rattle.std.specs.Option.{option_map}
use Rattle.std.specs.List.{flat_map, AllByRecursion}
use Rattle.descriptors.specs.Descriptors.{descriptor}

-- ---- written

-- an entry: ISO_639_language_code 24, audio_type 8, which is 0
abbrev pub language_bytes : List ℕ → List ℕ
language_bytes language = language ++ 0 ∷ []

abbrev pub languages_body : List (List ℕ) → List ℕ
languages_body languages = flat_map language_bytes languages

abbrev pub iso_639_language : List (List ℕ) → List ℕ
iso_639_language languages = descriptor 0x0A (languages_body languages)

-- ---- read

-- the codes of the entries that a body is, whatever their audio_type; there are none where it ends within one
abbrev pub languages_in : List ℕ → Option (List (List ℕ))
languages_in [] = Some []
languages_in (a ∷ []) = None
languages_in (a ∷ b ∷ []) = None
languages_in (a ∷ b ∷ c ∷ []) = None
languages_in (a ∷ b ∷ c ∷ audio ∷ rest) = option_map (λ languages. (a ∷ b ∷ c ∷ []) ∷ languages) (languages_in rest)

-- one entry, whose audio_type is 0: a language shows it whole
abbrev pub is_one_language : List ℕ → Bool
is_one_language body = length body == 4 && slice_index body 3 == 0

-- ---- laws

-- Reading written entries gives their codes back.
abbrev pub LanguagesReadBack : Type 0
LanguagesReadBack = (languages : List (List ℕ)) → AllByRecursion (λ language. length language ≡ 3) languages → languages_in (languages_body languages) ≡ Some languages
