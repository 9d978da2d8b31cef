-- An event as a feed gives it, in the fields of a line.
use Rattle.std.specs.Prelude.{ℕ, ◌==◌, List, [], ◌∷◌, map, Option, Some, None, option_map, option_and_then, if◌then◌else◌, codes}
use Rattle.std.specs.List.{slice_split}
use Rattle.si_time.specs.Readings.{has_shape}
use Rattle.guide_model.specs.declared.event.Genre.{Genre}
use Rattle.guide_model.specs.declared.descriptor.RawDesc.{RawDesc}
use Rattle.input_lines.specs.Groups.{descriptors_in}
use Rattle.input_lines.specs.Numbers.{is_word, number_in}
use Rattle.journal_model.specs.declared.edit.Stamp.{Stamp}
use Rattle.journal_model.specs.declared.edit.Length.{Length}
use Rattle.journal_model.specs.declared.edit.DayText.{DayText}
use Rattle.journal_model.specs.declared.edit.RawRating.{RawRating}
use Rattle.journal_model.specs.declared.edit.Item.{Item}

-- START, with any digits
abbrev pub stamp_of : List ℕ → Option Stamp
stamp_of field = if has_shape (codes "dddd-dd-ddTdd:dd:ddZ") field then Some (let stamp : Stamp = record { 0 = field } in stamp) else None

-- DURATION, with any digits
abbrev pub length_of : List ℕ → Option Length
length_of field = if has_shape (codes "dd:dd:dd") field then Some (let length : Length = record { 0 = field } in length) else None

-- DATE, with any digits
abbrev pub day_of : List ℕ → Option DayText
day_of field = if has_shape (codes "dddd-dd-dd") field then Some (let day : DayText = record { 0 = field } in day) else None

abbrev pub genre_with : ℕ → ℕ → ℕ → Genre
genre_with a b u = record { level1 = a; level2 = b; user = u }

-- the genre of three numbers from 0 to 255
abbrev pub genre_from : List (List ℕ) → Option Genre
genre_from (a ∷ b ∷ u ∷ []) =
    option_and_then (λ x. option_and_then (λ y. option_map (genre_with x y) (number_in 0 255 u)) (number_in 0 255 b)) (number_in 0 255 a)
genre_from parts = None

-- `a.b.u`: the points (46) part the numbers
abbrev pub genre_of : List ℕ → Option Genre
genre_of group = genre_from (slice_split (λ b. b == 46) group)

-- all of them, where each is there
abbrev pub all_some : {T : Type 0} → List (Option T) → Option (List T)
all_some [] = Some []
all_some (None ∷ rest) = None
all_some (Some x ∷ rest) = option_map (λ xs. x ∷ xs) (all_some rest)

-- GENRES: nothing, or groups which single spaces (32) part
abbrev pub genres_of : List ℕ → Option (List Genre)
genres_of [] = Some []
genres_of (b ∷ bs) = all_some (map genre_of (slice_split (λ c. c == 32) (b ∷ bs)))

abbrev pub rating_with : List ℕ → ℕ → RawRating
rating_with country value = record { country = country; value = value }

-- COUNTRY and RATING: both empty, or a rating in a country
abbrev pub rating_of : List ℕ → List ℕ → Option (Option RawRating)
rating_of [] [] = Some None
rating_of [] (v ∷ vs) = None
rating_of (c ∷ cs) value = option_map (λ n. Some (rating_with (c ∷ cs) n)) (number_in 0 255 value)

-- DESCRIPTORS: nothing, or groups which single spaces part
abbrev pub descriptors_of : List ℕ → Option (List RawDesc)
descriptors_of [] = Some []
descriptors_of (b ∷ bs) = descriptors_in (b ∷ bs)

-- the fields after GENRES: none, or DESCRIPTORS
abbrev pub further_of : List (List ℕ) → Option (List RawDesc)
further_of [] = Some []
further_of (field ∷ []) = descriptors_of field
further_of fields = None

-- these three, where each is there
abbrev pub all_three : {A B C : Type 0} → Option A → Option B → Option C → Option (A × B × C)
all_three (Some a) (Some b) (Some c) = Some (a, b, c)
all_three a b c = None

-- what stands after the texts of an event: its rating, its genres and its further descriptors
abbrev pub after_texts : List (List ℕ) → Option (Option RawRating × List Genre × List RawDesc)
after_texts (event ∷ start ∷ length ∷ language ∷ name ∷ short ∷ extended ∷ country ∷ rating ∷ genres ∷ further) =
    all_three (rating_of country rating) (genres_of genres) (further_of further)
after_texts fields = None

-- the event of these texts and values, where each value is there
abbrev pub item_with : List ℕ → List ℕ → List ℕ → List ℕ → Option ℕ → Option Stamp → Option Length → Option (Option RawRating) → Option (List Genre)
    → Option (List RawDesc) → Option Item
item_with language name short extended (Some id) (Some start) (Some length) (Some rating) (Some genres) (Some descriptors) = Some (record {
  id = id;
  start = start;
  length = length;
  language = language;
  name = name;
  short = short;
  extended = extended;
  rating = rating;
  genres = genres;
  descriptors = descriptors;
})
item_with language name short extended id start length rating genres descriptors = None

-- EVENT,START,DURATION,LANGUAGE,NAME,SHORT,EXTENDED,COUNTRY,RATING,GENRES and, where an event has some, DESCRIPTORS
unfoldable pub item_of : List (List ℕ) → Option Item
item_of (event ∷ start ∷ length ∷ language ∷ name ∷ short ∷ extended ∷ country ∷ rating ∷ genres ∷ further) =
    item_with language name short extended (number_in 0 65535 event) (stamp_of start) (length_of length) (rating_of country rating) (genres_of genres)
    (further_of further)
item_of fields = None

-- `item,` and the fields of an event
unfoldable pub item_line : List (List ℕ) → Option Item
item_line [] = None
item_line (word ∷ fields) = if is_word (codes "item") word then item_of fields else None
