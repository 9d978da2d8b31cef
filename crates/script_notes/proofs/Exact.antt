-- There is a reason exactly where a line is not what may stand there.
use Rattle.std.proofs.Common.{◌≡◌, ◌∙◌, ◌+◌, ℕ, Bool, true, false, List, [], ◌∷◌, length, drop, refl, sym, ap, subst, inl, inr}
use Rattle.std.specs.Prelude.{Option, Some, None, is_none, is_some, nat_le, option_and_then, option_map, codes, if◌then◌else◌}
use Rattle.std.specs.Option.{option_or}
use Rattle.std.specs.Str.{is_utf8}
use Rattle.std.proofs.lemmas.Bool.{cases_Bool}
use Rattle.std.proofs.lemmas.Slice.Eq.{bytes_eq-Decides}
use Rattle.guide_model.specs.Control.{has_control}
use Rattle.si_time.specs.Readings.{has_shape, moment_in}
use Rattle.guide_model.specs.declared.event.Genre.{Genre}
use Rattle.guide_model.specs.declared.descriptor.RawDesc.{RawDesc}
use Rattle.script_lines.proofs.EventFields.{no_descriptors}
use Rattle.input_lines.specs.Fields.{line_fields, record_of}
use Rattle.input_lines.specs.Numbers.{is_word, number_in}
use Rattle.journal_model.specs.declared.control.Control.TheVariants.{Tick}
use Rattle.journal_model.specs.declared.edit.Edit.TheVariants.{Put, Withdraw}
use Rattle.journal_model.specs.declared.edit.Length.{Length}
use Rattle.journal_model.specs.declared.edit.RawRating.{RawRating}
use Rattle.journal_model.specs.declared.edit.Stamp.{Stamp}
use Rattle.script_lines.specs.Controls.{control_of, moment_with}
use Rattle.script_lines.specs.declared.heads.Head.{Head}
use Rattle.script_lines.specs.declared.heads.Head.TheVariants.{OfDay, Whole}
use Rattle.script_lines.specs.Heads.{clear_of, day_head_of, edit_head, name_of, put_of, withdraw_of}
use Rattle.script_lines.specs.Items.{day_of, further_of, genres_of, item_line, item_of, item_with, length_of, rating_of, stamp_of}
use Rattle.script_lines.specs.Outcomes.{outcome_of_fields}
use Rattle.script_lines.specs.Script.{caller_of, control_step, kept_in}
use Rattle.script_notes.specs.declared.why.FieldName.TheVariants as field
use Rattle.script_notes.specs.declared.why.LineWord.TheVariants as word
use Rattle.script_notes.specs.declared.why.Why.{Why}
use Rattle.script_notes.specs.declared.why.Why.TheVariants.{BadField, FieldCount, Misplaced, NoCommand, NoFields, NoOutcome}
use Rattle.script_notes.specs.Faults.{is_event_count, unless, why_by, why_clear, why_day, why_edit, why_event, why_feed, why_fields, why_id, why_item, why_name, why_of_step, why_outcome, why_put, why_rating, why_step, why_unread, why_withdraw, word_named}
use Rattle.script_notes.specs.Heads.{caller_head, command_head, feed_head, fields_head, kept_head, step_head}
use Rattle.script_notes.specs.Laws.{WhyIsExact, WhyOfLinesIsExact}

-- there is a reason exactly where there is no value
abbrev IsExact : {X : Type 0} → Option Why → Option X → Type 0
IsExact why found = is_some why ≡ is_none found

map_exact : {X Y : Type 0} (why : Option Why) (found : Option X) (f : X → Y) → IsExact why found → IsExact why (option_map f found)
map_exact why None f e = e
map_exact why (Some x) f e = e

unless_exact : {X : Type 0} (found : Option X) (why : Why) → IsExact (unless (is_some found) why) found
unless_exact None why = refl
unless_exact (Some x) why = refl

then_exact : {X Y : Type 0} (found : Option X) (why : Why) (others : Option Why) (f : X → Option Y) → ((x : X) → IsExact others (f x)) → IsExact (option_or (unless (is_some found) why) others) (option_and_then f found)
then_exact None why others f e = refl
then_exact (Some x) why others f e = e x

-- ---- the fields of an event

stamp_some : (f : List ℕ) → has_shape (codes "dddd-dd-ddTdd:dd:ddZ") f ≡ is_some (stamp_of f)
stamp_some f = elim (cases_Bool (has_shape (codes "dddd-dd-ddTdd:dd:ddZ") f)) [ inl e ↦ rw e refl | inr e ↦ rw e refl ]

length_some : (f : List ℕ) → has_shape (codes "dd:dd:dd") f ≡ is_some (length_of f)
length_some f = elim (cases_Bool (has_shape (codes "dd:dd:dd") f)) [ inl e ↦ rw e refl | inr e ↦ rw e refl ]

day_some : (f : List ℕ) → has_shape (codes "dddd-dd-dd") f ≡ is_some (day_of f)
day_some f = elim (cases_Bool (has_shape (codes "dddd-dd-dd") f)) [ inl e ↦ rw e refl | inr e ↦ rw e refl ]

rating_exact : (k : ℕ) (country value : List ℕ) → IsExact (why_rating k country value) (rating_of country value)
rating_exact k [] [] = refl
rating_exact k [] (v ∷ vs) = refl
rating_exact k (c ∷ cs) value = map_exact (unless (is_some (number_in 0 255 value)) (BadField field.Rating (k + 1))) (number_in 0 255 value) _ (unless_exact (number_in 0 255 value) (BadField field.Rating (k + 1)))

-- GENRES, and the fields after it
abbrev listed_by : Option (List Genre) → Option (List RawDesc) → Why → Why → Option Why
listed_by genres further listed described = option_or (unless (is_some genres) listed) (unless (is_some further) described)

with_exact : (d e f g : List ℕ) (a b c j m : Why) (rated : Option Why) (id : Option ℕ) (start : Option Stamp) (lasts : Option Length) (rating : Option (Option RawRating)) (genres : Option (List Genre))
    (further : Option (List RawDesc)) → IsExact rated rating
    → IsExact (option_or (unless (is_some id) a) (option_or (unless (is_some start) b) (option_or (unless (is_some lasts) c) (option_or rated (listed_by genres further j m)))))
    (item_with d e f g id start lasts rating genres further)
with_exact d e f g a b c j m rated None start lasts rating genres further h = refl
with_exact d e f g a b c j m rated (Some id) None lasts rating genres further h = refl
with_exact d e f g a b c j m rated (Some id) (Some start) None rating genres further h = refl
with_exact d e f g a b c j m (Some why) (Some id) (Some start) (Some lasts) None genres further h = refl
with_exact d e f g a b c j m None (Some id) (Some start) (Some lasts) None genres further h = absurd cc
with_exact d e f g a b c j m (Some why) (Some id) (Some start) (Some lasts) (Some rating) genres further h = absurd cc
with_exact d e f g a b c j m None (Some id) (Some start) (Some lasts) (Some rating) None further h = refl
with_exact d e f g a b c j m None (Some id) (Some start) (Some lasts) (Some rating) (Some genres) None h = refl
with_exact d e f g a b c j m None (Some id) (Some start) (Some lasts) (Some rating) (Some genres) (Some further) h = refl

counted_exact : (k : ℕ) (fields : List (List ℕ)) → is_event_count (length fields) ≡ true → IsExact (why_event k fields) (item_of fields)
unfolding why_event item_of
counted_exact k (a ∷ b ∷ c ∷ d ∷ e ∷ f ∷ g ∷ h ∷ i ∷ j ∷ more) is =
    let rated = why_rating (k + 7) h i in
    let starts = BadField field.Start (k + 1) in
    let lasts = BadField field.Duration (k + 2) in
    let listed = BadField field.Genres (k + 9) in
    let described = BadField field.Descriptors (k + 9 + 1) in
    let rest = option_or rated (listed_by (genres_of j) (further_of more) listed described) in
    let item = item_with d e f g (number_in 0 65535 a) (stamp_of b) (length_of c) (rating_of h i) (genres_of j) (further_of more) in
    subst (λ (s : Bool). IsExact (option_or (why_id field.Event k a) (option_or (unless s starts) (option_or (unless (has_shape (codes "dd:dd:dd") c) lasts) rest))) item) (sym (stamp_some b))
    (subst (λ (l : Bool). IsExact (option_or (why_id field.Event k a) (option_or (unless (is_some (stamp_of b)) starts) (option_or (unless l lasts) rest))) item) (sym (length_some c))
    (with_exact d e f g (BadField field.Event k) starts lasts listed described rated (number_in 0 65535 a) (stamp_of b) (length_of c) (rating_of h i) (genres_of j) (further_of more)
    (rating_exact (k + 7) h i)))
counted_exact k fields is = absurd cc

not_counted : (fields : List (List ℕ)) → is_event_count (length fields) ≡ false → item_of fields ≡ None
unfolding item_of
not_counted (a ∷ b ∷ c ∷ d ∷ e ∷ f ∷ g ∷ h ∷ i ∷ j ∷ []) is = absurd cc
not_counted (a ∷ b ∷ c ∷ d ∷ e ∷ f ∷ g ∷ h ∷ i ∷ j ∷ one ∷ []) is = absurd cc
not_counted (a ∷ b ∷ c ∷ d ∷ e ∷ f ∷ g ∷ h ∷ i ∷ j ∷ one ∷ two ∷ more) is =
    no_descriptors d e f g (number_in 0 65535 a) (stamp_of b) (length_of c) (rating_of h i) (genres_of j)
not_counted fields is = refl

event_exact : (k : ℕ) (why : Why) (fields : List (List ℕ)) → IsExact (if is_event_count (length fields) then why_event k fields else Some why) (item_of fields)
event_exact k why fields = elim (cases_Bool (is_event_count (length fields))) [
  | inl e ↦ rw e (counted_exact k fields e)
  | inr e ↦ rw (e, not_counted fields e) refl
]

-- ---- the fields of an edit

put_exact : (k : ℕ) (fields : List (List ℕ)) → IsExact (why_put k fields) (put_of fields)
put_exact k [] = refl
put_exact k (service ∷ event) = go (number_in 0 65535 service)
  where
    more : IsExact (if is_event_count (length event) then why_event (k + 1) event else Some (FieldCount word.Put (length event + 1))) (item_of event)
    more = event_exact (k + 1) (FieldCount word.Put (length event + 1)) event

    go : (s : Option ℕ) → IsExact (if is_event_count (length event) then option_or (unless (is_some s) (BadField field.Service k)) (why_event (k + 1) event) else Some (FieldCount word.Put (length event + 1)))
        (option_and_then (λ s. option_map (λ i. Whole (Put s i)) (item_of event)) s)
    go None = elim (cases_Bool (is_event_count (length event))) [ inl e ↦ rw e refl | inr e ↦ rw e refl ]
    go (Some s) = map_exact (if is_event_count (length event) then why_event (k + 1) event else Some (FieldCount word.Put (length event + 1))) (item_of event) _ more

withdraw_exact : (k : ℕ) (fields : List (List ℕ)) → IsExact (why_withdraw k fields) (withdraw_of fields)
withdraw_exact k [] = refl
withdraw_exact k (s ∷ []) = refl
withdraw_exact k (s ∷ e ∷ []) =
    then_exact (number_in 0 65535 s) (BadField field.Service k) (why_id field.Event (k + 1) e) (λ s. option_map (λ e. Whole (Withdraw s e)) (number_in 0 65535 e))
    (λ x. map_exact (why_id field.Event (k + 1) e) (number_in 0 65535 e) _ (unless_exact (number_in 0 65535 e) (BadField field.Event (k + 1))))
withdraw_exact k (s ∷ e ∷ f ∷ fields) = refl

clear_exact : (k : ℕ) (fields : List (List ℕ)) → IsExact (why_clear k fields) (clear_of fields)
clear_exact k [] = refl
clear_exact k (s ∷ []) = map_exact (why_id field.Service k s) (number_in 0 65535 s) _ (unless_exact (number_in 0 65535 s) (BadField field.Service k))
clear_exact k (s ∷ f ∷ fields) = refl

name_exact : (k : ℕ) (fields : List (List ℕ)) → IsExact (why_name k fields) (name_of fields)
name_exact k [] = refl
name_exact k (s ∷ []) = refl
name_exact k (s ∷ p ∷ []) = refl
name_exact k (s ∷ p ∷ n ∷ []) = map_exact (why_id field.Service k s) (number_in 0 65535 s) _ (unless_exact (number_in 0 65535 s) (BadField field.Service k))
name_exact k (s ∷ p ∷ n ∷ f ∷ fields) = refl

day_exact : (k : ℕ) (fields : List (List ℕ)) → IsExact (why_day k fields) (day_head_of fields)
day_exact k [] = refl
day_exact k (s ∷ []) = refl
day_exact k (s ∷ d ∷ []) = refl
day_exact k (s ∷ d ∷ c ∷ []) =
    let counted = unless (is_some (number_in 0 2000 c)) (BadField field.Count (k + 2)) in
    let dated = BadField field.Date (k + 1) in
    let heads : ℕ → Option Head = λ s. option_and_then (λ d. option_map (λ n. OfDay s d n) (number_in 0 2000 c)) (day_of d) in
    subst (λ (b : Bool). IsExact (option_or (why_id field.Service k s) (option_or (unless b dated) counted)) (option_and_then heads (number_in 0 65535 s))) (sym (day_some d))
    (then_exact (number_in 0 65535 s) (BadField field.Service k) (option_or (unless (is_some (day_of d)) dated) counted) heads
    (λ x.
    then_exact (day_of d) dated counted (λ d. option_map (λ n. OfDay x d n) (number_in 0 2000 c))
    (λ y. map_exact counted (number_in 0 2000 c) _ (unless_exact (number_in 0 2000 c) (BadField field.Count (k + 2))))))
day_exact k (s ∷ d ∷ c ∷ f ∷ fields) = refl

-- ---- by the word that stands first

is_the : (w f : List ℕ) → is_word w f ≡ true → f ≡ w
is_the w f e = (bytes_eq-Decides f w).0 e

edit_exact : (k : ℕ) (fields : List (List ℕ)) → IsExact (why_edit k fields) (edit_head fields)
unfolding edit_head word_named
edit_exact k [] = refl
edit_exact k (w ∷ fields) =
    elim (cases_Bool (is_word (codes "put") w)) [
      | inl e ↦ rw (is_the (codes "put") w e) (put_exact (k + 1) fields)
      | inr put ↦ elim (cases_Bool (is_word (codes "withdraw") w)) [
        | inl e ↦ rw (is_the (codes "withdraw") w e) (withdraw_exact (k + 1) fields)
        | inr withdraw ↦ elim (cases_Bool (is_word (codes "clear") w)) [
          | inl e ↦ rw (is_the (codes "clear") w e) (clear_exact (k + 1) fields)
          | inr clear ↦ elim (cases_Bool (is_word (codes "name") w)) [
            | inl e ↦ rw (is_the (codes "name") w e) (name_exact (k + 1) fields)
            | inr name ↦ elim (cases_Bool (is_word (codes "day") w)) [
              | inl e ↦ rw (is_the (codes "day") w e) (day_exact (k + 1) fields)
              | inr day ↦ elim (cases_Bool (is_word (codes "publish") w)) [
                | inl e ↦ rw (is_the (codes "publish") w e) refl
                | inr publish ↦ elim (cases_Bool (is_word (codes "swap") w)) [
                  | inl e ↦ rw (is_the (codes "swap") w e) refl
                  | inr swap ↦ elim (cases_Bool (is_word (codes "tick") w)) [
                    | inl e ↦ rw (is_the (codes "tick") w e) refl
                    | inr tick ↦ elim (cases_Bool (is_word (codes "item") w)) [
                      | inl e ↦ rw (is_the (codes "item") w e) refl
                      | inr item ↦ rw (put, withdraw, clear, name, day, publish, swap, tick, item) refl
                    ]
                  ]
                ]
              ]
            ]
          ]
        ]
      ]
    ]

-- the number that the first field is
abbrev first_number : List (List ℕ) → Option ℕ
first_number [] = None
first_number (f ∷ fields) = number_in 0 255 f

-- N, and an edit
feed_fields : (who k : ℕ) (fields : List (List ℕ))
    → IsExact (why_feed k fields) (option_and_then (λ feed. option_map (feed_head who feed) (edit_head (drop 1 fields))) (first_number fields))
feed_fields who k [] = refl
feed_fields who k (f ∷ fields) =
    then_exact (number_in 0 255 f) (BadField field.Feed k) (why_edit (k + 1) fields) (λ feed. option_map (feed_head who feed) (edit_head fields))
    (λ feed. map_exact (why_edit (k + 1) fields) (edit_head fields) (feed_head who feed) (edit_exact (k + 1) fields))

-- a word that is no step, whatever fields are behind it
publish_exact : (who k : ℕ) (fields : List (List ℕ)) → IsExact (why_of_step k (Some word.Publish) fields) (command_head who (codes "publish" ∷ fields))
unfolding control_of
publish_exact who k [] = refl
publish_exact who k (f ∷ fields) = refl

swap_exact : (who k : ℕ) (fields : List (List ℕ)) → IsExact (why_of_step k (Some word.Swap) fields) (command_head who (codes "swap" ∷ fields))
unfolding control_of
swap_exact who k [] = refl
swap_exact who k (f ∷ fields) = refl

tick_exact : (who k : ℕ) (fields : List (List ℕ)) → IsExact (why_of_step k (Some word.Tick) fields) (command_head who (codes "tick" ∷ fields))
unfolding control_of
tick_exact who k [] = refl
tick_exact who k (m ∷ []) = go (moment_in m)
  where
    go : (o : Option ℕ) → IsExact (unless (is_some o) (BadField field.Moment (k + 1))) (step_head who (option_map control_step (option_map Tick (option_map moment_with o))) (codes "tick" ∷ m ∷ []))
    go None = refl
    go (Some t) = refl
tick_exact who k (m ∷ f ∷ fields) = refl

feed_exact : (who k : ℕ) (fields : List (List ℕ)) → IsExact (why_feed (k + 1) fields) (command_head who (codes "feed" ∷ fields))
unfolding control_of
feed_exact who k [] = refl
feed_exact who k (f ∷ fields) = feed_fields who (k + 1) (f ∷ fields)

other_exact : (who : ℕ) (why : Why) (w : List ℕ) (fields : List (List ℕ)) → is_word (codes "swap") w ≡ false → is_word (codes "tick") w ≡ false → is_word (codes "publish") w ≡ false → is_word (codes "feed") w ≡ false
    → IsExact (Some why) (command_head who (w ∷ fields))
unfolding control_of
other_exact who why w [] swap tick publish feed = rw (swap, tick, publish) refl
other_exact who why w (f ∷ fields) swap tick publish feed = rw (tick, publish, feed) refl

by_word : (who k : ℕ) (w x : List ℕ) (fields : List (List ℕ)) → w ≡ x → IsExact (why_step k (x ∷ fields)) (command_head who (x ∷ fields)) → IsExact (why_step k (w ∷ fields)) (command_head who (w ∷ fields))
by_word who k w x fields e h = subst (λ (v : List ℕ). IsExact (why_step k (v ∷ fields)) (command_head who (v ∷ fields))) (sym e) h

step_exact : (who k : ℕ) (fields : List (List ℕ)) → IsExact (why_step k fields) (command_head who fields)
unfolding word_named control_of
step_exact who k [] = refl
step_exact who k (w ∷ fields) =
    elim (cases_Bool (is_word (codes "feed") w)) [
      | inl e ↦ by_word who k w (codes "feed") fields (is_the (codes "feed") w e) (feed_exact who k fields)
      | inr feed ↦ elim (cases_Bool (is_word (codes "publish") w)) [
        | inl e ↦ by_word who k w (codes "publish") fields (is_the (codes "publish") w e) (publish_exact who k fields)
        | inr publish ↦ elim (cases_Bool (is_word (codes "swap") w)) [
          | inl e ↦ by_word who k w (codes "swap") fields (is_the (codes "swap") w e) (swap_exact who k fields)
          | inr swap ↦ elim (cases_Bool (is_word (codes "tick") w)) [
            | inl e ↦ by_word who k w (codes "tick") fields (is_the (codes "tick") w e) (tick_exact who k fields)
            | inr tick ↦
                let none = other_exact who NoFields w fields swap tick publish feed in
                elim (cases_Bool (is_word (codes "put") w)) [
                  | inl e ↦ ap is_some (let why : why_step k (w ∷ fields) ≡ Some (Misplaced word.Put) = rw (feed, publish, swap, tick, e) refl in why) ∙ none
                  | inr put ↦ elim (cases_Bool (is_word (codes "withdraw") w)) [
                    | inl e ↦ ap is_some (let why : why_step k (w ∷ fields) ≡ Some (Misplaced word.Withdraw) = rw (feed, publish, swap, tick, put, e) refl in why) ∙ none
                    | inr withdraw ↦ elim (cases_Bool (is_word (codes "clear") w)) [
                      | inl e ↦ ap is_some (let why : why_step k (w ∷ fields) ≡ Some (Misplaced word.Clear) = rw (feed, publish, swap, tick, put, withdraw, e) refl in why) ∙ none
                      | inr clear ↦ elim (cases_Bool (is_word (codes "name") w)) [
                        | inl e ↦ ap is_some (let why : why_step k (w ∷ fields) ≡ Some (Misplaced word.Name) = rw (feed, publish, swap, tick, put, withdraw, clear, e) refl in why) ∙ none
                        | inr name ↦ elim (cases_Bool (is_word (codes "day") w)) [
                          | inl e ↦ ap is_some (let why : why_step k (w ∷ fields) ≡ Some (Misplaced word.Day) = rw (feed, publish, swap, tick, put, withdraw, clear, name, e) refl in why) ∙ none
                          | inr day ↦ elim (cases_Bool (is_word (codes "item") w)) [
                            | inl e ↦ ap is_some (let why : why_step k (w ∷ fields) ≡ Some (Misplaced word.Item) = rw (feed, publish, swap, tick, put, withdraw, clear, name, day, e) refl in why) ∙ none
                            | inr item ↦ ap is_some (let why : why_step k (w ∷ fields) ≡ Some (NoCommand k) = rw (feed, publish, swap, tick, put, withdraw, clear, name, day, item) refl in why) ∙ none
                          ]
                        ]
                      ]
                    ]
                  ]
                ]
          ]
        ]
      ]
    ]

-- ---- a line

caller_exact : (caller : Option ℕ) (fields : List (List ℕ)) → IsExact (why_by caller fields) (caller_head caller fields)
unfolding control_of
caller_exact None fields = step_exact 0 1 fields
caller_exact (Some who) [] = refl
caller_exact (Some who) (c ∷ fields) = step_exact who 2 fields

kept_exact : (after : Bool) (n : ℕ) (w : List ℕ) (fields : List (List ℕ)) → IsExact (why_outcome after fields) (option_map (kept_head n) (kept_in after (w ∷ fields)))
kept_exact true n w fields = map_exact (unless (is_some (outcome_of_fields fields)) NoOutcome) (outcome_of_fields fields) (kept_head n) (unless_exact (outcome_of_fields fields) NoOutcome)
kept_exact false n w fields = refl

pub fields_exact : (after : Bool) (n : ℕ) (fields : List (List ℕ)) → IsExact (why_fields after fields) (fields_head after n fields)
unfolding control_of
fields_exact after n [] = refl
fields_exact after n (w ∷ fields) = elim (cases_Bool (is_word (codes "=") w)) [
  | inl e ↦ rw e (kept_exact after n w fields)
  | inr e ↦ rw e (caller_exact (caller_of (w ∷ fields)) (w ∷ fields))
]

pub item_exact : (fields : List (List ℕ)) → IsExact (why_item fields) (item_line fields)
unfolding item_line
item_exact [] = refl
item_exact (w ∷ fields) = elim (cases_Bool (is_word (codes "item") w)) [
  | inl e ↦ rw e (event_exact 2 (FieldCount word.Item (length fields)) fields)
  | inr e ↦ rw e refl
]

-- a line that is read at all, or not
line_exact : {X : Type 0} (why : Option Why) (f : List (List ℕ) → Option X) (line : List ℕ) → IsExact why (f (line_fields line)) → IsExact (option_or (why_unread line) why) (option_and_then f (record_of line))
line_exact why f line h = elim (cases_Bool (nat_le (length line) 16384)) [
  | inr long ↦ rw long refl
  | inl short ↦ elim (cases_Bool (is_utf8 line)) [
    | inr bytes ↦ rw (short, bytes) refl
    | inl text ↦ elim (cases_Bool (has_control line)) [
      | inl control ↦ rw (short, text, control) refl
      | inr clean ↦ rw (short, text, clean) h
    ]
  ]
]

pub why_is_exact : WhyIsExact
why_is_exact = (fields_exact, item_exact)

pub why_of_lines_is_exact : WhyOfLinesIsExact
why_of_lines_is_exact = (
  (λ after n line. line_exact (why_fields after (line_fields line)) (fields_head after n) line (fields_exact after n (line_fields line))),
  (λ line. line_exact (why_item (line_fields line)) item_line line (item_exact (line_fields line))),
)
