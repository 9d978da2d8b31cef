-- Why a line is at fault in its place, by its bytes and by its fields.
use Rattle.std.specs.Prelude.{ℕ, ◌+◌, ◌==◌, ◌||◌, Bool, not, nat_le, List, [], ◌∷◌, length, Option, Some, None, is_some, if◌then◌else◌, codes, find}
use Rattle.std.specs.Option.{option_or}
use Rattle.std.specs.Str.{is_utf8}
use Rattle.guide_model.specs.Control.{has_control}
use Rattle.si_time.specs.Readings.{has_shape, moment_in}
use Rattle.input_lines.specs.Fields.{line_fields}
use Rattle.input_lines.specs.Numbers.{is_word, number_in}
use Rattle.script_lines.specs.Items.{further_of, genres_of}
use Rattle.script_lines.specs.Outcomes.{outcome_of_fields}
use Rattle.script_lines.specs.Script.{caller_of}
use Rattle.script_notes.specs.declared.why.LineWord.{LineWord}
use Rattle.script_notes.specs.declared.why.LineWord.TheVariants as word
use Rattle.script_notes.specs.declared.why.FieldName.{FieldName}
use Rattle.script_notes.specs.declared.why.FieldName.TheVariants as field
use Rattle.script_notes.specs.declared.why.Why.{Why}
use Rattle.script_notes.specs.declared.why.Why.TheVariants.{TooLong, NotUtf8, ControlCharacter, NoFields, AfterNoCommand, NoOutcome, Misplaced, NoCommand, NoEdit, FieldCount, BadField, NoItem}
use Rattle.script_notes.specs.Whys.{word_text}

-- this, where it is not so
abbrev pub unless : Bool → Why → Option Why
unless so why = if so then None else Some why

-- ---- any line

abbrev pub why_unread : List ℕ → Option Why
why_unread line =
    option_or (unless (nat_le (length line) 16384) TooLong)
    (option_or (unless (is_utf8 line) NotUtf8) (unless (not (has_control line)) ControlCharacter))

-- ---- the values behind a word, of which the first is field k

-- a service or an event
abbrev pub why_id : FieldName → ℕ → List ℕ → Option Why
why_id name k id = unless (is_some (number_in 0 65535 id)) (BadField name k)

-- COUNTRY is field k, and RATING the next one
abbrev pub why_rating : ℕ → List ℕ → List ℕ → Option Why
why_rating k [] [] = None
why_rating k [] (v ∷ vs) = Some (BadField field.Country k)
why_rating k (c ∷ cs) rating = unless (is_some (number_in 0 255 rating)) (BadField field.Rating (k + 1))

-- GENRES is field k, and DESCRIPTORS, where it stands, the next one
abbrev pub why_listed : ℕ → List ℕ → List (List ℕ) → Option Why
why_listed k genres further =
    option_or (unless (is_some (genres_of genres)) (BadField field.Genres k)) (unless (is_some (further_of further)) (BadField field.Descriptors (k + 1)))

-- an event has ten fields, or one more
abbrev pub is_event_count : ℕ → Bool
is_event_count n = n == 10 || n == 11

-- EVENT,START,DURATION,LANGUAGE,NAME,SHORT,EXTENDED,COUNTRY,RATING,GENRES,DESCRIPTORS, where they are so many
unfoldable pub why_event : ℕ → List (List ℕ) → Option Why
why_event k (event ∷ start ∷ duration ∷ language ∷ name ∷ short ∷ extended ∷ country ∷ rating ∷ genres ∷ further) =
    option_or (why_id field.Event k event)
    (option_or (unless (has_shape (codes "dddd-dd-ddTdd:dd:ddZ") start) (BadField field.Start (k + 1)))
    (option_or (unless (has_shape (codes "dd:dd:dd") duration) (BadField field.Duration (k + 2)))
    (option_or (why_rating (k + 7) country rating) (why_listed (k + 9) genres further))))
why_event k fields = None

-- nothing
abbrev pub why_nothing : LineWord → List (List ℕ) → Option Why
why_nothing word [] = None
why_nothing word fields = Some (FieldCount word (length fields))

-- MOMENT
abbrev pub why_tick : ℕ → List (List ℕ) → Option Why
why_tick k (moment ∷ []) = unless (is_some (moment_in moment)) (BadField field.Moment k)
why_tick k fields = Some (FieldCount word.Tick (length fields))

-- SERVICE, and the fields of an event
abbrev pub why_put : ℕ → List (List ℕ) → Option Why
why_put k [] = Some (FieldCount word.Put 0)
why_put k (service ∷ event) =
    if is_event_count (length event) then option_or (why_id field.Service k service) (why_event (k + 1) event)
    else Some (FieldCount word.Put (length event + 1))

-- SERVICE,EVENT
abbrev pub why_withdraw : ℕ → List (List ℕ) → Option Why
why_withdraw k (service ∷ event ∷ []) = option_or (why_id field.Service k service) (why_id field.Event (k + 1) event)
why_withdraw k fields = Some (FieldCount word.Withdraw (length fields))

-- SERVICE
abbrev pub why_clear : ℕ → List (List ℕ) → Option Why
why_clear k (service ∷ []) = why_id field.Service k service
why_clear k fields = Some (FieldCount word.Clear (length fields))

-- SERVICE,PROVIDER,NAME
abbrev pub why_name : ℕ → List (List ℕ) → Option Why
why_name k (service ∷ provider ∷ name ∷ []) = why_id field.Service k service
why_name k fields = Some (FieldCount word.Name (length fields))

-- SERVICE,DATE,COUNT
abbrev pub why_day : ℕ → List (List ℕ) → Option Why
why_day k (service ∷ date ∷ count ∷ []) =
    option_or (why_id field.Service k service)
    (option_or (unless (has_shape (codes "dddd-dd-dd") date) (BadField field.Date (k + 1)))
    (unless (is_some (number_in 0 2000 count)) (BadField field.Count (k + 2))))
why_day k fields = Some (FieldCount word.Day (length fields))

-- the fields of an event behind `item`
abbrev pub why_event_fields : List (List ℕ) → Option Why
why_event_fields fields = if is_event_count (length fields) then why_event 2 fields else Some (FieldCount word.Item (length fields))

-- ---- the word, which is field k, and what stands behind it

abbrev pub line_words : List LineWord
line_words = word.Publish ∷ word.Swap ∷ word.Tick ∷ word.Put ∷ word.Withdraw ∷ word.Clear ∷ word.Name ∷ word.Day ∷ word.Item ∷ []

-- the word that a field is
unfoldable pub word_named : List ℕ → Option LineWord
word_named field = find (λ (w : LineWord). is_word (word_text w) field) line_words

-- behind `feed,N`
abbrev pub why_of_edit : ℕ → Option LineWord → List (List ℕ) → Option Why
why_of_edit k (Some word.Put) fields = why_put (k + 1) fields
why_of_edit k (Some word.Withdraw) fields = why_withdraw (k + 1) fields
why_of_edit k (Some word.Clear) fields = why_clear (k + 1) fields
why_of_edit k (Some word.Name) fields = why_name (k + 1) fields
why_of_edit k (Some word.Day) fields = why_day (k + 1) fields
why_of_edit k other fields = Some (NoEdit k)

abbrev pub why_edit : ℕ → List (List ℕ) → Option Why
why_edit k [] = Some (NoEdit k)
why_edit k (word ∷ fields) = why_of_edit k (word_named word) fields

-- N, and an edit
abbrev pub why_feed : ℕ → List (List ℕ) → Option Why
why_feed k [] = Some (BadField field.Feed k)
why_feed k (feed ∷ fields) = option_or (unless (is_some (number_in 0 255 feed)) (BadField field.Feed k)) (why_edit (k + 1) fields)

-- in place of a command's word, which is not `feed`
abbrev pub why_of_step : ℕ → Option LineWord → List (List ℕ) → Option Why
why_of_step k (Some word.Publish) fields = why_nothing word.Publish fields
why_of_step k (Some word.Swap) fields = why_nothing word.Swap fields
why_of_step k (Some word.Tick) fields = why_tick (k + 1) fields
why_of_step k (Some word) fields = Some (Misplaced word)
why_of_step k None fields = Some (NoCommand k)

abbrev pub why_step : ℕ → List (List ℕ) → Option Why
why_step k [] = Some (NoCommand k)
why_step k (word ∷ fields) = if is_word (codes "feed") word then why_feed (k + 1) fields else why_of_step k (word_named word) fields

-- ---- a line's fields

-- behind a caller's number, or without one
abbrev pub why_by : Option ℕ → List (List ℕ) → Option Why
why_by None fields = why_step 1 fields
why_by (Some who) [] = Some (NoCommand 1)
why_by (Some who) (caller ∷ fields) = why_step 2 fields

-- as a command
abbrev pub why_command : List (List ℕ) → Option Why
why_command fields = why_by (caller_of fields) fields

-- behind `=`; `after` says whether a command came just before
abbrev pub why_outcome : Bool → List (List ℕ) → Option Why
why_outcome after fields = if after then unless (is_some (outcome_of_fields fields)) NoOutcome else Some AfterNoCommand

-- in place of a command
abbrev pub why_fields : Bool → List (List ℕ) → Option Why
why_fields after [] = Some NoFields
why_fields after (word ∷ fields) = if is_word (codes "=") word then why_outcome after fields else why_command (word ∷ fields)

-- in place of an item
abbrev pub why_item : List (List ℕ) → Option Why
why_item [] = Some NoFields
why_item (word ∷ fields) = if is_word (codes "item") word then why_event_fields fields else Some NoItem

-- ---- a line

abbrev pub why_line : Bool → List ℕ → Option Why
why_line after line = option_or (why_unread line) (why_fields after (line_fields line))

abbrev pub why_item_line : List ℕ → Option Why
why_item_line line = option_or (why_unread line) (why_item (line_fields line))
