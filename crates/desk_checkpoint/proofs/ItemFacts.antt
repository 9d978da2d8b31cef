-- The item of an event within its limits gives the event, and has no fault.
use Rattle.std.proofs.Common.{◌≡◌, ℕ, ◌+◌, ◌*◌, ◌≤◌, Bool, true, false, not, ◌&&◌, ◌||◌, List, length, Option, Some, None, eqb, ltb, refl, ap, subst, ◌∙◌, arith}
use Rattle.std.specs.Prelude.{unwrap_or, option_map, is_none, is_some}
use Rattle.std.specs.List.{list_all, list_any}
use Rattle.std.proofs.lemmas.Bool.{cond-false}
use Rattle.std.proofs.lemmas.Bool.Decides.{nat_tests}
use Rattle.std.proofs.lemmas.List.Folds.{list_any_none}
use Rattle.std.proofs.lemmas.List.Elements.{All-weaker}
use Rattle.guide_model.specs.Coding.{coded_size}
use Rattle.guide_model.specs.Descriptors.{descriptors_size}
use Rattle.guide_model.proofs.SoundFacts.{none_outside}
use Rattle.si_lists.proofs.Outcomes.{mapped}
use Rattle.si_time.proofs.TextFacts.{moment_in-moment_text, duration_in-duration_text}
use Rattle.guide_model.specs.declared.event.Event.{Event}
use Rattle.guide_model.specs.declared.event.Rating.{Rating}
use Rattle.guide_model.specs.declared.event.Genre.{Genre}
use Rattle.descriptors.specs.Content.{HasNibbles}
use Rattle.descriptors.specs.EventDescriptors.{made_of_event}
use Rattle.journal_model.specs.declared.edit.RawRating.{RawRating}
use Rattle.journal_model.specs.declared.reply.Field.TheVariants as field
use Rattle.guide_limits.specs.Events.{end_of}
use Rattle.guide_limits.specs.Readings.{event_of, rating_of, read_moment, read_duration}
use Rattle.guide_limits.specs.Limits.{is_small, is_capital, IsRatingWithin, IsEventWithin, AreNamesWithin}
use Rattle.feed_book.specs.Replies.{refused_if, are_outside, is_outside, is_wide, rating_fails, misses_day, field_fault, name_fault}
use Rattle.feed_book.proofs.Faults.{not_outside}
use Rattle.desk_checkpoint.specs.Items.{raw_rating, event_item}

start_read : (event : Event) → IsEventWithin event → read_moment (event_item event).start ≡ Some event.start.0
start_read event within = moment_in-moment_text event.start.0 (omega (arith, within.lasts, within.window))

length_read : (event : Event) → IsEventWithin event → read_duration (event_item event).length ≡ Some event.seconds
length_read event within = duration_in-duration_text event.seconds (omega (arith, within.lasts))

rating_back : (o : Option Rating) → option_map rating_of (option_map raw_rating o) ≡ o
rating_back None = refl
rating_back (Some rating) = refl

pub event_back : (event : Event) → IsEventWithin event → event_of (event_item event) ≡ event
event_back event within = rw (start_read event within, length_read event within, rating_back event.rating) refl

-- ---- no rule on the item alone is broken

fine : {F : Type 0} (b : Bool) (f : F) (rest : Option F) → b ≡ false → rest ≡ None → refused_if b f rest ≡ None
fine b f rest p q = cond-false b (Some f) rest p ∙ q

three : (xs : List ℕ) (p : ℕ → Bool) → length xs ≡ 3 → list_all p xs ≡ true → not (eqb (length xs) 3 && list_all p xs) ≡ false
three xs p l h = rw (l, h) refl

neither : (a b : Bool) → a ≡ false → b ≡ false → (a || b) ≡ false
neither a b p q = rw (p, q) refl

country_fine : (o : Option Rating) → IsRatingWithin o
    → rating_fails (λ (r : RawRating). not (eqb (length r.country) 3 && list_all is_capital r.country)) (option_map raw_rating o) ≡ false
country_fine None h = refl
country_fine (Some rating) h = three rating.country is_capital h.0 h.1

value_fine : (o : Option Rating) → IsRatingWithin o
    → rating_fails (λ (r : RawRating). is_outside 1 15 r.value) (option_map raw_rating o) ≡ false
value_fine None h = refl
value_fine (Some rating) h = not_outside 1 15 rating.value h.2 h.3

narrow : (genre : Genre) → HasNibbles genre → is_wide genre ≡ false
narrow genre h = grind (arith, nat_tests)

pub fields_fine : (event : Event) → IsEventWithin event → field_fault None (event_item event) ≡ None
fields_fine event within =
    let item = event_item event in
    let start = unwrap_or (read_moment item.start) 0 in
    let seconds = unwrap_or (read_duration item.length) 0 in
    let start_is : start ≡ event.start.0 = ap (λ (o : Option ℕ). unwrap_or o 0) (start_read event within) in
    let seconds_is : seconds ≡ event.seconds = ap (λ (o : Option ℕ). unwrap_or o 0) (length_read event within) in
    let early : ltb (65536 * 86400) (start + seconds) ≡ false = rw (start_is, seconds_is) (late event within.window) in
    let lasts : is_outside 1 86399 seconds ≡ false = rw seconds_is (not_outside 1 86399 event.seconds within.lasts.0 within.lasts.1) in
    fine (is_none (read_moment item.start)) field.Start _ (ap is_none (start_read event within)) (
    fine (is_none (read_duration item.length) || is_outside 1 86399 seconds) field.Duration _ (neither _ _ (ap is_none (length_read event within)) lasts) (
    fine (ltb (65536 * 86400) (start + seconds) || misses_day None start) field.Window _ (neither _ _ early refl) (
    fine (not (eqb (length item.language) 3 && list_all is_small item.language)) field.Language _ (three event.language is_small within.language.0 within.language.1) (
    fine (is_outside 1 100 (coded_size item.name)) field.Name _ (not_outside 1 100 (coded_size event.name) within.named within.limits.name) (
    fine (is_outside 0 150 (coded_size item.short)) field.Short _ (not_outside 0 150 (coded_size event.short) (omega arith) within.limits.short) (
    fine (is_outside 0 1000 (length item.extended)) field.Extended _ (not_outside 0 1000 (length event.extended) (omega arith) within.limits.extended) (
    fine (rating_fails (λ (r : RawRating). not (eqb (length r.country) 3 && list_all is_capital r.country)) item.rating) field.Country _ (country_fine event.rating within.rating) (
    fine (rating_fails (λ (r : RawRating). is_outside 1 15 r.value) item.rating) field.Rating _ (value_fine event.rating within.rating) (
    fine (ltb 8 (length item.genres) || list_any is_wide item.genres) field.Genre _
    (neither _ _ (few (length event.genres) within.limits.genres) (list_any_none is_wide event.genres (All-weaker HasNibbles (λ (genre : Genre). is_wide genre ≡ false) narrow event.genres within.limits.levels))) (
    fine (are_outside (is_some item.rating) item.descriptors) field.Descriptor None
    (subst (λ (b : Bool). are_outside b event.descriptors ≡ false) (mapped raw_rating event.rating)
    (neither _ _ (short (descriptors_size event.descriptors) within.limits.room) (none_outside (made_of_event (is_some event.rating)) event.descriptors within.limits.descriptors))) refl))))))))))
  where
    late : (event : Event) → end_of event ≤ 65536 * 86400 → ltb (65536 * 86400) (event.start.0 + event.seconds) ≡ false
    late event h = grind (arith, nat_tests)

    few : (n : ℕ) → n ≤ 8 → ltb 8 n ≡ false
    few n h = grind (arith, nat_tests)

    short : (n : ℕ) → n ≤ 240 → ltb 240 n ≡ false
    short n h = grind (arith, nat_tests)

pub names_fine : (provider name : List ℕ) → AreNamesWithin provider name → name_fault provider name ≡ None
names_fine provider name within =
    fine (is_outside 0 100 (coded_size provider)) field.Provider _ (not_outside 0 100 (coded_size provider) (omega arith) within.provider)
    (fine (is_outside 1 100 (coded_size name)) field.ServiceName None (not_outside 1 100 (coded_size name) within.name.0 within.name.1) refl)
