-- The fields of an outcome line behind `=`: those of an outcome, and the outcome that fields are.
use Rattle.std.specs.Prelude.{ℕ, List, [], ◌∷◌, map, Option, Some, None, option_map, option_and_then, if◌then◌else◌, codes, decimal}
use Rattle.std.specs.List.{find}
use Rattle.si_time.specs.Moments.{moment_text}
use Rattle.input_lines.specs.Numbers.{is_word, number_in, numeral_of}
use Rattle.journal_model.specs.declared.reply.Field.{Field}
use Rattle.journal_model.specs.declared.reply.Field.TheVariants.{Start, Duration, Window, Language, Name, Short, Extended, Country, Rating, Genre, Descriptor, Provider, ServiceName, Count, Segment}
use Rattle.journal_model.specs.declared.reply.DayFault.{DayFault}
use Rattle.journal_model.specs.declared.reply.DayFault.TheVariants.{Range as BadField, Overlap as Overlaps}
use Rattle.journal_model.specs.declared.reply.Reply.{Reply}
use Rattle.journal_model.specs.declared.reply.Reply.TheVariants.{Done, Foreign, Range, Overlap, Member}
use Rattle.journal_model.specs.declared.step.Outcome.{Outcome}
use Rattle.journal_model.specs.declared.step.Outcome.TheVariants.{Edited, Ticked, Late, Published, Swapped}
use Rattle.script_lines.specs.Controls.{moment_at}

-- ---- the words of fields, which are written and read

abbrev pub field_word : Field → List ℕ
field_word Start = codes "start"
field_word Duration = codes "duration"
field_word Window = codes "window"
field_word Language = codes "language"
field_word Name = codes "name"
field_word Short = codes "short"
field_word Extended = codes "extended"
field_word Country = codes "country"
field_word Rating = codes "rating"
field_word Genre = codes "genre"
field_word Descriptor = codes "descriptor"
field_word Provider = codes "provider"
field_word ServiceName = codes "servicename"
field_word (Count n) = codes "count"
field_word (Segment n) = codes "segment"

-- those that have no number: of an event its times and texts, what it is rated and classed as, and its further descriptors; and of a
-- name its texts
abbrev pub plain_fields : List Field
plain_fields = Start ∷ Duration ∷ Window ∷ Language ∷ Name ∷ Short ∷ Extended ∷ Country ∷ Rating ∷ Genre ∷ Descriptor ∷ Provider ∷ ServiceName ∷ []

-- the first of these fields that has this word
abbrev pub field_named : List ℕ → List Field → Option Field
field_named word fields = find (λ (f : Field). is_word (field_word f) word) fields

-- ---- the fields of an outcome

abbrev pub field_numbers : Field → List ℕ
field_numbers (Count n) = n ∷ []
field_numbers (Segment n) = n ∷ []
field_numbers other = []

-- FIELD
abbrev pub field_fields : Field → List (List ℕ)
field_fields field = field_word field ∷ map decimal (field_numbers field)

abbrev pub fault_word : DayFault → List ℕ
fault_word (BadField field) = codes "range"
fault_word (Overlaps event) = codes "overlap"

abbrev pub fault_rest : DayFault → List (List ℕ)
fault_rest (BadField field) = field_fields field
fault_rest (Overlaps event) = decimal event ∷ []

abbrev pub day_fault_fields : DayFault → List (List ℕ)
day_fault_fields fault = fault_word fault ∷ fault_rest fault

abbrev pub reply_fields : Reply → List (List ℕ)
reply_fields Done = codes "done" ∷ []
reply_fields (Foreign service) = codes "foreign" ∷ decimal service ∷ []
reply_fields (Range field) = codes "range" ∷ field_fields field
reply_fields (Overlap event) = codes "overlap" ∷ decimal event ∷ []
reply_fields (Member place fault) = codes "member" ∷ decimal place ∷ day_fault_fields fault

abbrev pub outcome_fields : Outcome → List (List ℕ)
outcome_fields (Edited reply) = reply_fields reply
outcome_fields Ticked = codes "ticked" ∷ []
outcome_fields (Late at) = codes "late" ∷ moment_text at.0 ∷ []
outcome_fields (Published n) = codes "published" ∷ decimal n ∷ []
outcome_fields (Swapped n at) = codes "swapped" ∷ decimal n ∷ moment_text at.0 ∷ []

-- ---- the outcome of fields

-- how a number is read
abbrev pub Numeral : Type 0
Numeral = List ℕ → Option ℕ

-- a service or an event, by its id
abbrev pub id_of : Numeral → List (List ℕ) → Option ℕ
id_of id (field ∷ []) = id field
id_of id fields = None

-- `count,N` and `segment,N`
abbrev pub counted_field : Numeral → List ℕ → List ℕ → Option Field
counted_field number word n =
    if is_word (codes "count") word then option_map Count (number n)
    else (if is_word (codes "segment") word then option_map Segment (number n)
    else None)

-- FIELD
unfoldable pub field_of : Numeral → List (List ℕ) → Option Field
field_of number (word ∷ []) = field_named word plain_fields
field_of number (word ∷ n ∷ []) = counted_field number word n
field_of number fields = None

-- `range,FIELD` and `overlap,E`
unfoldable pub day_fault_of : Numeral → Numeral → List (List ℕ) → Option DayFault
day_fault_of id number [] = None
day_fault_of id number (word ∷ fields) =
    if is_word (codes "range") word then option_map BadField (field_of number fields)
    else (if is_word (codes "overlap") word then option_map Overlaps (id_of id fields)
    else None)

-- I, and what is wrong with the item at that place
abbrev pub member_of : Numeral → Numeral → List (List ℕ) → Option Reply
member_of id number [] = None
member_of id number (place ∷ fault) = option_and_then (λ i. option_map (Member i) (day_fault_of id number fault)) (id place)

-- this value, with no further field
abbrev pub alone : {T : Type 0} → T → List (List ℕ) → Option T
alone value [] = Some value
alone value (field ∷ fields) = None

-- the reply to an edit
unfoldable pub reply_of : Numeral → Numeral → List ℕ → List (List ℕ) → Option Reply
reply_of id number word fields =
    if is_word (codes "done") word then alone Done fields
    else (if is_word (codes "foreign") word then option_map Foreign (id_of id fields)
    else (if is_word (codes "range") word then option_map Range (field_of number fields)
    else (if is_word (codes "overlap") word then option_map Overlap (id_of id fields)
    else (if is_word (codes "member") word then member_of id number fields
    else None))))

-- MOMENT
abbrev pub late_of : List (List ℕ) → Option Outcome
late_of (moment ∷ []) = option_map Late (moment_at moment)
late_of fields = None

-- N
abbrev pub published_of : Numeral → List (List ℕ) → Option Outcome
published_of number (n ∷ []) = option_map Published (number n)
published_of number fields = None

-- N,MOMENT
abbrev pub swapped_of : Numeral → List (List ℕ) → Option Outcome
swapped_of number (n ∷ moment ∷ []) = option_and_then (λ k. option_map (Swapped k) (moment_at moment)) (number n)
swapped_of number fields = None

-- the outcome of these fields, whose ids and other numbers are read so
abbrev pub outcome_by : Numeral → Numeral → List (List ℕ) → Option Outcome
outcome_by id number [] = None
outcome_by id number (word ∷ fields) =
    if is_word (codes "ticked") word then alone Ticked fields
    else (if is_word (codes "late") word then late_of fields
    else (if is_word (codes "published") word then published_of number fields
    else (if is_word (codes "swapped") word then swapped_of number fields
    else option_map Edited (reply_of id number word fields))))

-- an id or a place of 16 bits
abbrev pub id_in : Numeral
id_in field = number_in 0 65535 field

-- the outcome of these fields: ids and places have 16 bits, other numbers nine digits at most
unfoldable pub outcome_of_fields : List (List ℕ) → Option Outcome
outcome_of_fields fields = outcome_by id_in numeral_of fields

-- ---- the numbers of an outcome

-- ids and places
abbrev pub fault_ids : DayFault → List ℕ
fault_ids (BadField field) = []
fault_ids (Overlaps event) = event ∷ []

abbrev pub reply_ids : Reply → List ℕ
reply_ids (Foreign service) = service ∷ []
reply_ids (Overlap event) = event ∷ []
reply_ids (Member place fault) = place ∷ fault_ids fault
reply_ids other = []

abbrev pub outcome_ids : Outcome → List ℕ
outcome_ids (Edited reply) = reply_ids reply
outcome_ids other = []

-- and the others
abbrev pub fault_numbers : DayFault → List ℕ
fault_numbers (BadField field) = field_numbers field
fault_numbers (Overlaps event) = []

abbrev pub reply_numbers : Reply → List ℕ
reply_numbers (Range field) = field_numbers field
reply_numbers (Member place fault) = fault_numbers fault
reply_numbers other = []

abbrev pub outcome_numbers : Outcome → List ℕ
outcome_numbers (Edited reply) = reply_numbers reply
outcome_numbers (Published n) = n ∷ []
outcome_numbers (Swapped n at) = n ∷ []
outcome_numbers other = []
