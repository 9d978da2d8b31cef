-- Why a line of a reader is at fault can be said: no outcome is among the reasons.
use Rattle.std.proofs.Common.{ℕ, Bool, true, false, List, [], ◌∷◌, length}
use Rattle.std.specs.Prelude.{Option, Some, None, IfSome, is_some, codes, not, nat_le, ◌+◌, if◌then◌else◌}
use Rattle.std.specs.Option.{option_or}
use Rattle.std.specs.Str.{is_utf8}
use Rattle.guide_model.specs.Control.{has_control}
use Rattle.si_time.specs.Readings.{has_shape, moment_in}
use Rattle.input_lines.specs.Fields.{line_fields}
use Rattle.input_lines.specs.Numbers.{is_word, number_in}
use Rattle.script_lines.specs.Items.{further_of, genres_of}
use Rattle.script_lines.specs.Outcomes.{outcome_of_fields}
use Rattle.script_lines.specs.Script.{caller_of}
use Rattle.script_notes.specs.declared.why.LineWord.{LineWord}
use Rattle.script_notes.specs.declared.why.LineWord.TheVariants as word
use Rattle.script_notes.specs.declared.why.FieldName.TheVariants as field
use Rattle.script_notes.specs.declared.why.Why.{Why}
use Rattle.script_notes.specs.declared.why.Why.TheVariants.{BadField, ControlCharacter, FieldCount, NoItem, NoOutcome, NotUtf8, TooLong}
use Rattle.script_notes.specs.Faults.{is_event_count, unless, why_by, why_clear, why_command, why_day, why_edit, why_event, why_event_fields, why_feed, why_fields, why_id, why_item, why_item_line, why_line, why_listed, why_name, why_nothing, why_of_edit, why_of_step, why_outcome, why_put, why_rating, why_step, why_tick, why_unread, why_withdraw, word_named}
use Rattle.script_notes.specs.Notings.{told}
use Rattle.script_notes.specs.Whys.{CanBeSaid}

abbrev IsSaid : Option Why → Type 0
IsSaid o = IfSome o CanBeSaid

or_said : (a b : Option Why) → IsSaid a → IsSaid b → IsSaid (option_or a b)
or_said None b p q = q
or_said (Some why) b p q = p

unless_said : (so : Bool) (why : Why) → CanBeSaid why → IsSaid (unless so why)
unless_said true why h = tt
unless_said false why h = h

-- one reason, and then others
then_said : (so : Bool) (why : Why) (b : Option Why) → CanBeSaid why → IsSaid b → IsSaid (option_or (unless so why) b)
then_said so why b h k = or_said (unless so why) b (unless_said so why h) k

if_said : (b : Bool) (x y : Option Why) → IsSaid x → IsSaid y → IsSaid (if b then x else y)
if_said true x y p q = p
if_said false x y p q = q

rating_said : (k : ℕ) (country rating : List ℕ) → IsSaid (why_rating k country rating)
rating_said k [] [] = tt
rating_said k [] (v ∷ vs) = tt
rating_said k (c ∷ cs) rating = unless_said (is_some (number_in 0 255 rating)) (BadField field.Rating (k + 1)) tt

listed_said : (k : ℕ) (genres : List ℕ) (more : List (List ℕ)) → IsSaid (why_listed k genres more)
listed_said k genres more =
    let described = unless (is_some (further_of more)) (BadField field.Descriptors (k + 1)) in
    then_said (is_some (genres_of genres)) (BadField field.Genres k) described tt (unless_said (is_some (further_of more)) (BadField field.Descriptors (k + 1)) tt)

event_said : (k : ℕ) (fields : List (List ℕ)) → IsSaid (why_event k fields)
unfolding why_event
event_said k (a ∷ b ∷ c ∷ d ∷ e ∷ f ∷ g ∷ h ∷ i ∷ j ∷ more) =
    let listed = why_listed (k + 9) j more in
    let rated = option_or (why_rating (k + 7) h i) listed in
    let lasts = option_or (unless (has_shape (codes "dd:dd:dd") c) (BadField field.Duration (k + 2))) rated in
    let starts = option_or (unless (has_shape (codes "dddd-dd-ddTdd:dd:ddZ") b) (BadField field.Start (k + 1))) lasts in
    then_said (is_some (number_in 0 65535 a)) (BadField field.Event k) starts tt
    (then_said (has_shape (codes "dddd-dd-ddTdd:dd:ddZ") b) (BadField field.Start (k + 1)) lasts tt
    (then_said (has_shape (codes "dd:dd:dd") c) (BadField field.Duration (k + 2)) rated tt
    (or_said (why_rating (k + 7) h i) listed (rating_said (k + 7) h i) (listed_said (k + 9) j more))))
event_said k fields = tt

nothing_said : (w : LineWord) (fields : List (List ℕ)) → IsSaid (why_nothing w fields)
nothing_said w [] = tt
nothing_said w (f ∷ fields) = tt

tick_said : (k : ℕ) (fields : List (List ℕ)) → IsSaid (why_tick k fields)
tick_said k (m ∷ []) = unless_said (is_some (moment_in m)) (BadField field.Moment k) tt
tick_said k [] = tt
tick_said k (m ∷ n ∷ fields) = tt

put_said : (k : ℕ) (fields : List (List ℕ)) → IsSaid (why_put k fields)
put_said k [] = tt
put_said k (s ∷ event) =
    if_said (is_event_count (length event)) (option_or (why_id field.Service k s) (why_event (k + 1) event)) (Some (FieldCount word.Put (length event + 1)))
    (then_said (is_some (number_in 0 65535 s)) (BadField field.Service k) (why_event (k + 1) event) tt (event_said (k + 1) event)) tt

withdraw_said : (k : ℕ) (fields : List (List ℕ)) → IsSaid (why_withdraw k fields)
withdraw_said k (s ∷ e ∷ []) =
    then_said (is_some (number_in 0 65535 s)) (BadField field.Service k) (why_id field.Event (k + 1) e) tt (unless_said (is_some (number_in 0 65535 e)) (BadField field.Event (k + 1)) tt)
withdraw_said k [] = tt
withdraw_said k (s ∷ []) = tt
withdraw_said k (s ∷ e ∷ f ∷ fields) = tt

clear_said : (k : ℕ) (fields : List (List ℕ)) → IsSaid (why_clear k fields)
clear_said k (s ∷ []) = unless_said (is_some (number_in 0 65535 s)) (BadField field.Service k) tt
clear_said k [] = tt
clear_said k (s ∷ e ∷ fields) = tt

name_said : (k : ℕ) (fields : List (List ℕ)) → IsSaid (why_name k fields)
name_said k (s ∷ p ∷ n ∷ []) = unless_said (is_some (number_in 0 65535 s)) (BadField field.Service k) tt
name_said k [] = tt
name_said k (s ∷ []) = tt
name_said k (s ∷ p ∷ []) = tt
name_said k (s ∷ p ∷ n ∷ f ∷ fields) = tt

day_said : (k : ℕ) (fields : List (List ℕ)) → IsSaid (why_day k fields)
day_said k (s ∷ d ∷ c ∷ []) =
    let counted = unless (is_some (number_in 0 2000 c)) (BadField field.Count (k + 2)) in
    let dated = option_or (unless (has_shape (codes "dddd-dd-dd") d) (BadField field.Date (k + 1))) counted in
    then_said (is_some (number_in 0 65535 s)) (BadField field.Service k) dated tt
    (then_said (has_shape (codes "dddd-dd-dd") d) (BadField field.Date (k + 1)) counted tt (unless_said (is_some (number_in 0 2000 c)) (BadField field.Count (k + 2)) tt))
day_said k [] = tt
day_said k (s ∷ []) = tt
day_said k (s ∷ d ∷ []) = tt
day_said k (s ∷ d ∷ c ∷ f ∷ fields) = tt

of_edit_said : (k : ℕ) (w : Option LineWord) (fields : List (List ℕ)) → IsSaid (why_of_edit k w fields)
of_edit_said k (Some word.Put) fields = put_said (k + 1) fields
of_edit_said k (Some word.Withdraw) fields = withdraw_said (k + 1) fields
of_edit_said k (Some word.Clear) fields = clear_said (k + 1) fields
of_edit_said k (Some word.Name) fields = name_said (k + 1) fields
of_edit_said k (Some word.Day) fields = day_said (k + 1) fields
of_edit_said k other fields = tt

edit_said : (k : ℕ) (fields : List (List ℕ)) → IsSaid (why_edit k fields)
edit_said k [] = tt
edit_said k (w ∷ fields) = of_edit_said k (word_named w) fields

feed_said : (k : ℕ) (fields : List (List ℕ)) → IsSaid (why_feed k fields)
feed_said k [] = tt
feed_said k (f ∷ fields) = then_said (is_some (number_in 0 255 f)) (BadField field.Feed k) (why_edit (k + 1) fields) tt (edit_said (k + 1) fields)

of_step_said : (k : ℕ) (w : Option LineWord) (fields : List (List ℕ)) → IsSaid (why_of_step k w fields)
of_step_said k (Some word.Publish) fields = nothing_said word.Publish fields
of_step_said k (Some word.Swap) fields = nothing_said word.Swap fields
of_step_said k (Some word.Tick) fields = tick_said (k + 1) fields
of_step_said k (Some w) fields = tt
of_step_said k None fields = tt

step_said : (k : ℕ) (fields : List (List ℕ)) → IsSaid (why_step k fields)
step_said k [] = tt
step_said k (w ∷ fields) =
    if_said (is_word (codes "feed") w) (why_feed (k + 1) fields) (why_of_step k (word_named w) fields) (feed_said (k + 1) fields) (of_step_said k (word_named w) fields)

by_said : (who : Option ℕ) (fields : List (List ℕ)) → IsSaid (why_by who fields)
by_said None fields = step_said 1 fields
by_said (Some who) [] = tt
by_said (Some who) (c ∷ fields) = step_said 2 fields

outcome_said : (after : Bool) (fields : List (List ℕ)) → IsSaid (why_outcome after fields)
outcome_said true fields = unless_said (is_some (outcome_of_fields fields)) NoOutcome tt
outcome_said false fields = tt

fields_said : (after : Bool) (fields : List (List ℕ)) → IsSaid (why_fields after fields)
fields_said after [] = tt
fields_said after (w ∷ fields) =
    if_said (is_word (codes "=") w) (why_outcome after fields) (why_command (w ∷ fields)) (outcome_said after fields) (by_said (caller_of (w ∷ fields)) (w ∷ fields))

item_said : (fields : List (List ℕ)) → IsSaid (why_item fields)
item_said [] = tt
item_said (w ∷ fields) =
    if_said (is_word (codes "item") w) (why_event_fields fields) (Some NoItem)
    (if_said (is_event_count (length fields)) (why_event 2 fields) (Some (FieldCount word.Item (length fields))) (event_said 2 fields) tt) tt

unread_said : (line : List ℕ) → IsSaid (why_unread line)
unread_said line =
    let control = unless (not (has_control line)) ControlCharacter in
    then_said (nat_le (length line) 16384) TooLong (option_or (unless (is_utf8 line) NotUtf8) control) tt
    (then_said (is_utf8 line) NotUtf8 control tt (unless_said (not (has_control line)) ControlCharacter tt))

told_said : (o : Option Why) → IsSaid o → CanBeSaid (told o)
told_said None h = tt
told_said (Some why) h = h

pub line_said : (after : Bool) (line : List ℕ) → CanBeSaid (told (why_line after line))
line_said after line = told_said (why_line after line) (or_said (why_unread line) (why_fields after (line_fields line)) (unread_said line) (fields_said after (line_fields line)))

pub item_line_said : (line : List ℕ) → CanBeSaid (told (why_item_line line))
item_line_said line = told_said (why_item_line line) (or_said (why_unread line) (why_item (line_fields line)) (unread_said line) (item_said (line_fields line)))
