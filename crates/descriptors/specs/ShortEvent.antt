-- short_event_descriptor: the name of an event and a short text (EN 300 468, 6.2.37).
use Rattle.std.specs.Prelude.{◌≡◌, ℕ, List, [], ◌∷◌, ◌++◌, length, Option, Some, None}
use Rattle.std.specs.Option.{option_map, option_and_then}
use Rattle.guide_model.specs.Decoding.{decoded, shown_bytes, IsAsDecoded}
use Rattle.descriptors.specs.declared.short_event.ShortEvent.{ShortEvent}
use Rattle.descriptors.specs.Descriptors.{descriptor}
use Rattle.descriptors.specs.Lengths.{with_length, split_length, behind_length}

-- ---- written

-- ISO_639_language_code 24, event_name_length 8, event name, text_length 8, text
abbrev pub short_event_fields : List ℕ → List ℕ → List ℕ → List ℕ
short_event_fields language name text = language ++ with_length name ++ with_length text

abbrev pub short_event_body : ShortEvent → List ℕ
short_event_body e = short_event_fields e.language (shown_bytes e.name) (shown_bytes e.short)

abbrev pub short_event : ShortEvent → List ℕ
short_event e = descriptor 0x4D (short_event_body e)

-- ---- read

abbrev pub short_event_of : List ℕ → List ℕ → List ℕ → ShortEvent
short_event_of language name text = record { language = language; name = decoded name; short = decoded text }

-- the short_event that a body is; there is none where a length runs past the end or bytes are left over
abbrev pub short_event_in : List ℕ → Option ShortEvent
short_event_in [] = None
short_event_in (a ∷ []) = None
short_event_in (a ∷ b ∷ []) = None
short_event_in (a ∷ b ∷ c ∷ texts) =
    option_and_then (λ parts. option_map (λ text. short_event_of (a ∷ b ∷ c ∷ []) parts.0 text) (behind_length parts.1)) (split_length texts)

-- ---- laws

-- a language of three bytes, and texts that are shown as their bytes are
pub record IsShortEvent (e : ShortEvent) : Type 0 where
  pub language : length e.language ≡ 3
  pub name : IsAsDecoded e.name
  pub short : IsAsDecoded e.short

-- Reading a written short_event gives it back.
abbrev pub ShortEventReadsBack : Type 0
ShortEventReadsBack = (e : ShortEvent) → IsShortEvent e → short_event_in (short_event_body e) ≡ Some e
