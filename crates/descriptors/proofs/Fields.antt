-- Written bodies of texts are read back.
use Rattle.std.proofs.Common.{◌≡◌, ℕ, ◌+◌, ◌*◌, ◌/◌, ◌%◌, List, [], ◌∷◌, ◌++◌, Option, Some, sym, ap, ◌∙◌, arith}
use Rattle.std.specs.Option.{option_map, option_and_then}
use Rattle.si_lists.proofs.Lists.{three_of}
use Rattle.guide_model.specs.Decoding.{decoded, shown_bytes}
use Rattle.guide_model.specs.declared.shown.Shown.{Shown}
use Rattle.descriptors.specs.Lengths.{with_length, split_length, behind_length}
use Rattle.descriptors.proofs.Split.{lengths-read_back}
use Rattle.descriptors.specs.declared.short_event.ShortEvent.{ShortEvent}
use Rattle.descriptors.specs.declared.extended_event.ExtendedPiece.{ExtendedPiece}
use Rattle.descriptors.specs.ShortEvent as short
use Rattle.descriptors.specs.ExtendedEvent as extended

-- two pieces behind their lengths, the second to the end
both_back : {R : Type 0} (f : List ℕ → List ℕ → R) (name text : List ℕ)
    → option_and_then (λ parts. option_map (λ behind. f parts.0 behind) (behind_length parts.1)) (split_length (with_length name ++ with_length text)) ≡ Some (f name text)
both_back f name text =
    ap (λ (read : Option (List ℕ × List ℕ)). option_and_then (λ parts. option_map (λ behind. f parts.0 behind) (behind_length parts.1)) read) (lengths-read_back.split name (with_length text))
    ∙ ap (λ (read : Option (List ℕ)). option_map (λ behind. f name behind) read) (lengths-read_back.whole text)

-- ---- short_event

same_event : (language name text : List ℕ) (e : ShortEvent) → language ≡ e.language → decoded name ≡ e.name → decoded text ≡ e.short
    → short.short_event_of language name text ≡ e
same_event language name text e p q r =
    ap (λ (xs : List ℕ). record { language = xs; name = decoded name; short = decoded text }) p
    ∙ ap (λ (shown : Shown). record { language = e.language; name = shown; short = decoded text }) q
    ∙ ap (λ (shown : Shown). record { language = e.language; name = e.name; short = shown }) r

pub short_event-reads_back : short.ShortEventReadsBack
short_event-reads_back e fits =
    let name = shown_bytes e.name in
    let text = shown_bytes e.short in
    let t = three_of e.language fits.language in
    let language = t.0 ∷ t.1 ∷ t.2 ∷ [] in
    ap (λ (code : List ℕ). short.short_event_in (short.short_event_fields code name text)) t.3
    ∙ both_back (short.short_event_of language) name text
    ∙ ap Some (same_event language name text e (sym t.3) fits.name fits.short)

-- ---- extended_event

same_piece : (number last : ℕ) (language : List ℕ) (p : ExtendedPiece) → number ≡ p.number → last ≡ p.last → language ≡ p.language
    → record { number = number; last = last; language = language; text = p.text } ≡ p
same_piece number last language p e f g =
    ap (λ (n : ℕ). record { number = n; last = last; language = language; text = p.text }) e
    ∙ ap (λ (n : ℕ). record { number = p.number; last = n; language = language; text = p.text }) f
    ∙ ap (λ (xs : List ℕ). record { number = p.number; last = p.last; language = xs; text = p.text }) g

pub extended_event-reads_back : extended.ExtendedEventReadsBack
extended_event-reads_back p fits =
    let t = three_of p.language fits.language in
    let language = t.0 ∷ t.1 ∷ t.2 ∷ [] in
    let numbers = 16 * p.number + p.last in
    ap (λ (code : List ℕ). extended.extended_event_in (extended.extended_event_fields p.number p.last code p.text)) t.3
    ∙ both_back (λ items text. extended.extended_event_of numbers language text) [] p.text
    ∙ ap Some (same_piece (numbers / 16) (numbers % 16) language p (omega (arith, fits.last)) (omega (arith, fits.last)) (sym t.3))
