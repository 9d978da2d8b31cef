-- An event within its limits, as a value of its type, has an entry of at most 1,578 bytes.
use Rattle.std.proofs.Common.{◌≡◌, ℕ, ◌≤◌, List, [], ◌∷◌, ◌++◌, length, arith, length-append}
use Rattle.std.specs.Prelude.{Option, Some, None, IsUtf8}
use Rattle.std.specs.List.{AllByRecursion}
use Rattle.guide_model.specs.Coding.{coded_text, coded_size}
use Rattle.guide_model.specs.declared.shown.Shown.TheVariants.{Text}
use Rattle.guide_model.specs.declared.event.Event.{Event}
use Rattle.guide_model.specs.declared.event.Genre.{Genre}
use Rattle.guide_model.specs.declared.event.Rating.{Rating}
use Rattle.guide_model.specs.declared.guide.ServiceGuide.{ServiceGuide}
use Rattle.descriptors.specs.Descriptors.{descriptors_bytes}
use Rattle.descriptors.specs.ShortEvent.{short_event}
use Rattle.descriptors.specs.EventDescriptors.{extended_events, content_of, rating_of, entry_size}
use Rattle.descriptors.proofs.EventEntries.{length-parental_rating_body}
use Rattle.descriptors.proofs.Loops.{length-descriptors_bytes}
use Rattle.descriptors.proofs.Pieces.{length-coded_text, length-extended_events, length-content_of, extended_size-small}
use Rattle.guide_limits.specs.Limits.{IsRatingWithin, IsEventWithin, IsServiceWithin}
use Rattle.table_bodies.specs.Eit.{IsTyped}
use Rattle.publication.specs.EitLaws.{AreSmallEntries, TypedEntriesAreSmall}

short_size : (language name text : List ℕ) → length language ≡ 3 → coded_size name ≤ 100 → coded_size text ≤ 150
    → length (short_event (record { language = language; name = Text name; short = Text text })) ≤ 257
short_size language name text three n t =
    let a = coded_text name in
    let b = coded_text text in
    omega (arith, three, n, t, length-coded_text name, length-coded_text text, length-append language (length a ∷ a ++ length b ∷ b), length-append a (length b ∷ b), length-append language (length a ∷ a), length-append (language ++ length a ∷ a) (length b ∷ b))

content_size : (genres : List Genre) → length genres ≤ 8 → length (content_of genres) ≤ 18
content_size [] few = omega arith
content_size (g ∷ genres) few = omega (arith, few, length-content_of (g ∷ genres) (omega arith))

rating_size : (rating : Option Rating) → IsRatingWithin rating → length (rating_of rating) ≤ 6
rating_size None within = omega arith
rating_size (Some r) within = omega (arith, length-parental_rating_body (r ∷ []) (within.0, tt))

entry_small : (e : Event) → IsEventWithin e → IsUtf8 e.extended → entry_size e ≤ 1578
entry_small e within utf8 =
    let short = short_event (record { language = e.language; name = Text e.name; short = Text e.short }) in
    let extended = extended_events e.language e.extended in
    let content = content_of e.genres in
    let rating = rating_of e.rating in
    omega (
      arith,
      short_size e.language e.name e.short within.language.0 within.limits.name within.limits.short,
      length-extended_events e.language e.extended within.language.0,
      extended_size-small e.extended utf8 within.limits.extended,
      content_size e.genres within.limits.genres,
      rating_size e.rating within.rating,
      length-append short (extended ++ content ++ rating),
      length-append extended (content ++ rating),
      length-append content rating,
      length-append (short ++ extended) (content ++ rating),
      length-append short extended,
      length-append ((short ++ extended) ++ content) rating,
      length-append (short ++ extended) content,
      length-append (short ++ extended ++ content ++ rating) (descriptors_bytes e.descriptors),
      length-descriptors_bytes e.descriptors,
      within.limits.room,
    )

entries_small : (es : List Event) → AllByRecursion IsEventWithin es → AllByRecursion IsTyped es → AreSmallEntries es
entries_small [] within typed = tt
entries_small (e ∷ es) within typed = (entry_small e within.0 (typed.0).extended.utf8, entries_small es within.1 typed.1)

pub typed_small : TypedEntriesAreSmall
typed_small guide within typed = go guide.services within.services typed
  where
    go : (ss : List ServiceGuide) → AllByRecursion IsServiceWithin ss → AllByRecursion (λ (s : ServiceGuide). AllByRecursion IsTyped s.events) ss → AllByRecursion (λ (s : ServiceGuide). AreSmallEntries s.events) ss
    go [] w t = tt
    go (s ∷ ss) w t = (entries_small s.events (w.0).events.each t.0, go ss w.1 t.1)
