-- The words that say why a script line is at fault.
use Rattle.std.specs.Prelude.{◌≡◌, ℕ, ◌++◌, true, List, codes, decimal}
use Rattle.guide_model.specs.Control.{all_printing}
use Rattle.journal_model.specs.Steps.{IsInWindow}
use Rattle.journal_text.specs.Entries.{outcome_text}
use Rattle.script_notes.specs.declared.why.LineWord.{LineWord}
use Rattle.script_notes.specs.declared.why.LineWord.TheVariants as word
use Rattle.script_notes.specs.declared.why.FieldName.{FieldName}
use Rattle.script_notes.specs.declared.why.FieldName.TheVariants as field
use Rattle.script_notes.specs.declared.why.Why.{Why}
use Rattle.script_notes.specs.declared.why.Why.TheVariants.{TooLong, NotUtf8, ControlCharacter, NoFields, AfterNoCommand, NoOutcome, Disagrees, Misplaced, NoCommand, NoEdit, FieldCount, BadField, NoItem}

-- the word as it stands in a line
abbrev pub word_text : LineWord → List ℕ
word_text word.Publish = codes "publish"
word_text word.Swap = codes "swap"
word_text word.Tick = codes "tick"
word_text word.Put = codes "put"
word_text word.Withdraw = codes "withdraw"
word_text word.Clear = codes "clear"
word_text word.Name = codes "name"
word_text word.Day = codes "day"
word_text word.Item = codes "item"

-- how many fields stand after it, without that of the descriptors of an event
abbrev pub fields_behind : LineWord → ℕ
fields_behind word.Publish = 0
fields_behind word.Swap = 0
fields_behind word.Tick = 1
fields_behind word.Put = 11
fields_behind word.Withdraw = 2
fields_behind word.Clear = 1
fields_behind word.Name = 3
fields_behind word.Day = 3
fields_behind word.Item = 10

-- what has to stand before it: a day before an item, and a feed before an edit
abbrev pub place_text : LineWord → List ℕ
place_text word.Item = codes " stands behind no day"
place_text other = codes " stands behind feed,N"

abbrev pub field_text : FieldName → List ℕ
field_text field.Moment = codes "moment"
field_text field.Feed = codes "feed"
field_text field.Service = codes "service"
field_text field.Event = codes "event"
field_text field.Start = codes "start"
field_text field.Duration = codes "duration"
field_text field.Date = codes "date"
field_text field.Count = codes "count"
field_text field.Country = codes "country"
field_text field.Rating = codes "rating"
field_text field.Genres = codes "genres"
field_text field.Descriptors = codes "descriptors"

-- what is wrong with a field
abbrev pub fault_text : FieldName → List ℕ
fault_text field.Moment = codes "no moment"
fault_text field.Feed = codes "no number from 0 to 255"
fault_text field.Service = codes "no number from 0 to 65535"
fault_text field.Event = codes "no number from 0 to 65535"
fault_text field.Start = codes "not dddd-dd-ddTdd:dd:ddZ"
fault_text field.Duration = codes "not dd:dd:dd"
fault_text field.Date = codes "not dddd-dd-dd"
fault_text field.Count = codes "no number from 0 to 2000"
fault_text field.Country = codes "empty beside a rating"
fault_text field.Rating = codes "no number from 0 to 255"
fault_text field.Genres = codes "no list of a.b.u"
fault_text field.Descriptors = codes "no list of descriptors in hex"

-- why a line is at fault, in words
abbrev pub why_text : Why → List ℕ
why_text TooLong = codes "longer than 16384 bytes"
why_text NotUtf8 = codes "not UTF-8"
why_text ControlCharacter = codes "control character"
why_text NoFields = codes "no fields"
why_text AfterNoCommand = codes "outcome behind no command"
why_text NoOutcome = codes "no outcome"
why_text (Disagrees kept found) = codes "kept " ++ outcome_text kept ++ codes " found " ++ outcome_text found
why_text (Misplaced word) = word_text word ++ place_text word
why_text (NoCommand k) = codes "field " ++ decimal k ++ codes " is no command"
why_text (NoEdit k) = codes "field " ++ decimal k ++ codes " is no edit"
why_text (FieldCount word n) = word_text word ++ codes " takes " ++ decimal (fields_behind word) ++ codes " fields and has " ++ decimal n
why_text (BadField name k) = field_text name ++ codes " (field " ++ decimal k ++ codes ") is " ++ fault_text name
why_text NoItem = codes "no item"

-- the moments of the outcomes can be written
abbrev pub CanBeSaid : Why → Type 0
CanBeSaid (Disagrees kept found) = IsInWindow kept × IsInWindow found
CanBeSaid why = Unit {0}

-- Each byte of the words is a printing character of ASCII, so none of them ends a line.
abbrev pub WordsArePrinting : Type 0
WordsArePrinting = (why : Why) → CanBeSaid why → all_printing (why_text why) ≡ true
