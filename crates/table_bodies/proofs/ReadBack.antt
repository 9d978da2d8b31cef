-- Written bodies read back.
use Rattle.std.proofs.Common.{◌≡◌, ◌∙◌, ℕ, ◌+◌, ◌*◌, ◌/◌, ◌%◌, ◌<◌, ◌≤◌, List, [], ◌∷◌, ◌++◌, length, Option, Some, None, IfSome, sym, ap, ap₂, arith, le-leb, length-append}
use Rattle.std.specs.Prelude.{nat_le, option_map, option_and_then}
use Rattle.std.proofs.lemmas.Bool.{cond-true}
use Rattle.std.proofs.lemmas.List.Elements.{recursion_from_All}
use Rattle.si_lists.proofs.Lists.{three_of, five_of, all_two}
use Rattle.descriptors.specs.Content.{HasNibbles}
use Rattle.si_base.specs.Fields.{two, two_at}
use Rattle.si_time.specs.Moments.{moment_bcd, duration_bcd}
use Rattle.si_time.specs.Readings.{moment_from_bcd, duration_from_bcd}
use Rattle.si_time.proofs.RoundTrips.{moment_from_bcd-moment_bcd, duration_from_bcd-duration_bcd, length-moment_bcd, length-duration_bcd}
use Rattle.guide_model.specs.Coding.{coded_text}
use Rattle.guide_model.specs.declared.event.Event.{Event}
use Rattle.guide_model.specs.declared.event.Genre.{Genre}
use Rattle.guide_model.specs.declared.event.Rating.{Rating}
use Rattle.guide_model.specs.declared.screen.ScreenEvent.{ScreenEvent}
use Rattle.descriptors.specs.ParentalRating.{HasThreeLetters}
use Rattle.descriptors.specs.EventDescriptors.{event_descriptors, extended_events, content_of, rating_of}
use Rattle.descriptors.specs.Descriptors.{descriptors_bytes}
use Rattle.descriptors.specs.ShortEvent.{short_event}
use Rattle.descriptors.proofs.Loops.{length-descriptors_bytes}
use Rattle.descriptors.proofs.EventEntries.{length-parental_rating_body}
use Rattle.descriptors.proofs.Pieces.{length-coded_text, length-content_of, length-extended_events, extended_size-small}
use Rattle.guide_model.specs.declared.shown.Shown.TheVariants.{Text}
use Rattle.table_bodies.specs.Entries.{FitsEntry, descriptors_in, made, value_in}
use Rattle.table_bodies.proofs.EntryWritten.{descs_back, parts_of, entries_back}
use Rattle.table_bodies.specs.declared.eit.EitHead.{EitHead}
use Rattle.table_bodies.specs.ShownEvent.{event_of}
use Rattle.table_bodies.specs.Eit.{written_entry, eit_body, IsCodable, IsTyped, time_of, duration_of, event_in, eit_with, shown_event, EntryHasItsSize, EitReadsBack}
use Rattle.table_bodies.proofs.EventWritten.{descs_of, desc-bytes, event-shown}

pub entry-has_its_size : EntryHasItsSize
entry-has_its_size status e =
    let flags = two (4096 * (2 * status) + length (event_descriptors e)) in
    omega (
      arith,
      length-moment_bcd e.start.0,
      length-duration_bcd e.seconds,
      length-append (two e.id ++ moment_bcd e.start.0 ++ duration_bcd e.seconds ++ flags) (event_descriptors e),
      length-append (two e.id ++ moment_bcd e.start.0 ++ duration_bcd e.seconds) flags,
      length-append (two e.id ++ moment_bcd e.start.0) (duration_bcd e.seconds),
      length-append (two e.id) (moment_bcd e.start.0),
    )

content-small : (genres : List Genre) → length genres ≤ 8 → length (content_of genres) ≤ 18
content-small [] le = omega arith
content-small (g ∷ genres) le = omega (arith, le, length-content_of (g ∷ genres) (omega arith))

rating-small : (r : Option Rating) → IfSome r HasThreeLetters → length (rating_of r) ≤ 6
rating-small None three = omega arith
rating-small (Some r) three = omega (arith, length-parental_rating_body (r ∷ []) (three, tt))

descriptors-small : (e : Event) → IsCodable e → IsTyped e → length (event_descriptors e) < 4096
descriptors-small e p q =
    let name = coded_text e.name in
    let text = coded_text e.short in
    let short = short_event (record { language = e.language; name = Text e.name; short = Text e.short }) in
    let extended = extended_events e.language e.extended in
    let made = short ++ extended ++ content_of e.genres ++ rating_of e.rating in
    omega (
      arith,
      p.limits.name,
      p.limits.short,
      q.language,
      length-coded_text e.name,
      length-coded_text e.short,
      length-append (e.language ++ length name ∷ name) (length text ∷ text),
      length-append e.language (length name ∷ name),
      length-append made (descriptors_bytes e.descriptors),
      length-descriptors_bytes e.descriptors,
      p.limits.room,
      length-append (short ++ extended ++ content_of e.genres) (rating_of e.rating),
      length-append (short ++ extended) (content_of e.genres),
      length-append short extended,
      length-extended_events e.language e.extended q.language,
      extended_size-small e.extended q.extended.utf8 p.limits.extended,
      content-small e.genres p.limits.genres,
      rating-small e.rating q.rating,
    )

-- ---- written, and read back

time_back : (id : ℕ) (time duration : List ℕ) → length time ≡ 5 → time_of (two id ++ time ++ duration) ≡ time
time_back id time duration five =
    let t = five_of time five in
    ap (λ (bytes : List ℕ). time_of (two id ++ bytes ++ duration)) t.5 ∙ sym t.5

duration_back : (id : ℕ) (time duration : List ℕ) → length time ≡ 5 → length duration ≡ 3 → duration_of (two id ++ time ++ duration) ≡ duration
duration_back id time duration five three =
    let t = five_of time five in
    let d = three_of duration three in
    ap₂ (λ (xs ys : List ℕ). duration_of (two id ++ xs ++ ys)) t.5 d.3 ∙ sym d.3

abbrev IsBack : ℕ → Event → Type 0
IsBack status e = FitsEntry 10 (written_entry status e) × (value_in event_in (parts_of (written_entry status e)) ≡ Some (shown_event e))

event_back : (status : ℕ) (e : Event) → status < 8 → IsCodable e → IsTyped e → IsBack status e
event_back status e lt p q =
    let start = moment_bcd e.start.0 in
    let long = duration_bcd e.seconds in
    let five = length-moment_bcd e.start.0 in
    let three = length-duration_bcd e.seconds in
    let fields = two e.id ++ start ++ long in
    let id : 256 * (e.id / 256 % 256) + e.id % 256 ≡ e.id = omega (arith, q.id) in (
      record {
        fields = omega (arith, length-append (two e.id ++ start) long, length-append (two e.id) start, five, three);
        bits = omega (arith, lt);
        descriptors = descriptors-small e p q;
      },
      ap (option_and_then (event_in fields)) (ap descriptors_in (desc-bytes e) ∙ descs_back (descs_of e))
          ∙ ap₂ (λ (at for : Option ℕ). made (λ (start seconds : ℕ). event_of (two_at 0 fields) start seconds (descs_of e)) at for)
          (ap moment_from_bcd (time_back e.id start long five) ∙ moment_from_bcd-moment_bcd e.start.0 p.start)
          (ap duration_from_bcd (duration_back e.id start long five three) ∙ duration_from_bcd-duration_bcd e.seconds p.seconds)
          ∙ ap (λ (n : ℕ). Some (event_of n e.start.0 e.seconds (descs_of e))) id
          ∙ ap (λ (x : ScreenEvent). Some x) (event-shown e p q (recursion_from_All HasNibbles e.genres p.limits.levels)),
    )

-- the head is read back
same_head : (a : EitHead) (stream original : ℕ) → stream ≡ a.stream → original ≡ a.original
    → (let b : EitHead = record { stream = stream; original = original; segment_last = a.segment_last; last_table = a.last_table } in b ≡ a)
same_head a stream original s o = λ i. record { stream = s i; original = o i; segment_last = a.segment_last; last_table = a.last_table }

pub eit-reads_back : EitReadsBack
eit-reads_back head status events fits lt p q =
    let body = eit_body head status events in
    cond-true (nat_le 6 (length body)) _ None (le-leb 6 (length body) (omega arith))
    ∙ ap₂ (λ (h : EitHead) (read : Option (List ScreenEvent)). option_map (eit_with h) read)
    (same_head head _ _ (omega (arith, fits.stream)) (omega (arith, fits.original)))
    (entries_back 10 event_in (written_entry status) shown_event events
    (all_two IsCodable IsTyped (IsBack status) (λ e. event_back status e lt) events (recursion_from_All IsCodable events p) (recursion_from_All IsTyped events q)))
