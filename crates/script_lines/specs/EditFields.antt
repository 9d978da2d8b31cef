-- The fields of an edit's lines, which read back as the edit.
use Rattle.std.specs.Prelude.{◌≡◌, ℕ, List, [], ◌∷◌, ◌++◌, length, map, Option, Some, None, codes, decimal}
use Rattle.guide_model.specs.Genres.{genres_text}
use Rattle.guide_model.specs.Descriptors.{descriptors_text}
use Rattle.guide_model.specs.declared.descriptor.RawDesc.{RawDesc}
use Rattle.input_lines.specs.Fields.{record_of}
use Rattle.journal_model.specs.declared.edit.RawRating.{RawRating}
use Rattle.journal_model.specs.declared.edit.Item.{Item}
use Rattle.journal_model.specs.declared.edit.Edit.{Edit}
use Rattle.journal_model.specs.declared.edit.Edit.TheVariants.{Put, Withdraw, Clear, Name, Day}
use Rattle.input_lines.specs.Ahead.{Row, Tail, Came}
use Rattle.journal_model.specs.Edits.{IsShaped, HasNumbers}
use Rattle.script_lines.specs.Edits.{read_edit}

abbrev pub country_field : Option RawRating → List ℕ
country_field None = []
country_field (Some rating) = rating.country

abbrev pub rating_field : Option RawRating → List ℕ
rating_field None = []
rating_field (Some rating) = decimal rating.value

-- DESCRIPTORS, where there are some
abbrev pub further_fields : List RawDesc → List (List ℕ)
further_fields [] = []
further_fields (d ∷ ds) = descriptors_text (d ∷ ds) ∷ []

-- EVENT,START,DURATION,LANGUAGE,NAME,SHORT,EXTENDED,COUNTRY,RATING,GENRES and, where an event has some, DESCRIPTORS
abbrev pub item_fields : Item → List (List ℕ)
item_fields item =
    decimal item.id ∷ item.start.0 ∷ item.length.0 ∷ item.language ∷ item.name ∷ item.short ∷ item.extended
    ∷ country_field item.rating ∷ rating_field item.rating ∷ genres_text item.genres ∷ further_fields item.descriptors

-- the fields of an edit's line
abbrev pub edit_fields : Edit → List (List ℕ)
edit_fields (Put service item) = codes "put" ∷ decimal service ∷ item_fields item
edit_fields (Withdraw service event) = codes "withdraw" ∷ decimal service ∷ decimal event ∷ []
edit_fields (Clear service) = codes "clear" ∷ decimal service ∷ []
edit_fields (Name service provider name) = codes "name" ∷ decimal service ∷ provider ∷ name ∷ []
edit_fields (Day service date items) = codes "day" ∷ decimal service ∷ date.0 ∷ decimal (length items) ∷ []

-- the fields of a day's item lines, a list for each line
abbrev pub item_rows : Edit → List (List (List ℕ))
item_rows (Day service date items) = map (λ item. codes "item" ∷ item_fields item) items
item_rows other = []

-- these are the fields of these lines
abbrev pub HaveFields : List Row → List (List (List ℕ)) → Type 0
HaveFields rows fields = map (λ row. record_of row.1) rows ≡ map (λ f. Some f) fields

-- A shaped edit is what its fields and its item lines are read as, whatever stands behind them.
abbrev pub EditsReadBack : Type 0
EditsReadBack = (edit : Edit) → IsShaped edit → HasNumbers edit → (at : ℕ) (rows more : List Row) (tail : Tail) → HaveFields rows (item_rows edit)
    → read_edit at (edit_fields edit) (record { rows = rows ++ more; tail = tail }) ≡ Came edit (record { rows = more; tail = tail })
