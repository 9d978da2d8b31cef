-- extended_event_descriptor: a piece of the extended text of an event (EN 300 468, 6.2.15).
use Rattle.std.specs.Prelude.{◌≡◌, ℕ, ◌+◌, ◌*◌, ◌/◌, ◌%◌, ◌<◌, List, [], ◌∷◌, ◌++◌, length, Option, Some, None}
use Rattle.std.specs.Option.{option_map, option_and_then}
use Rattle.descriptors.specs.declared.extended_event.ExtendedPiece.{ExtendedPiece}
use Rattle.descriptors.specs.Descriptors.{descriptor}
use Rattle.descriptors.specs.Lengths.{with_length, split_length, behind_length}

-- ---- written

-- descriptor_number 4, last_descriptor_number 4, ISO_639_language_code 24, length_of_items 8 (0, and no items), text_length 8, text
abbrev pub extended_event_fields : ℕ → ℕ → List ℕ → List ℕ → List ℕ
extended_event_fields number last language text = (16 * number + last) ∷ language ++ 0 ∷ with_length text

abbrev pub extended_event_body : ExtendedPiece → List ℕ
extended_event_body p = extended_event_fields p.number p.last p.language p.text

abbrev pub extended_event : ExtendedPiece → List ℕ
extended_event p = descriptor 0x4E (extended_event_body p)

-- ---- read

abbrev pub extended_event_of : ℕ → List ℕ → List ℕ → ExtendedPiece
extended_event_of numbers language text = record { number = numbers / 16; last = numbers % 16; language = language; text = text }

-- the piece that a body is, without its items, which may be any bytes; there is none where a length runs past the end or bytes are left over
abbrev pub extended_event_in : List ℕ → Option ExtendedPiece
extended_event_in [] = None
extended_event_in (numbers ∷ []) = None
extended_event_in (numbers ∷ a ∷ []) = None
extended_event_in (numbers ∷ a ∷ b ∷ []) = None
extended_event_in (numbers ∷ a ∷ b ∷ c ∷ behind) =
    option_and_then (λ parts. option_map (λ text. extended_event_of numbers (a ∷ b ∷ c ∷ []) text) (behind_length parts.1)) (split_length behind)

-- ---- laws

-- a last number of 4 bits and a language of three bytes
pub record IsExtendedPiece (p : ExtendedPiece) : Type 0 where
  pub last : p.last < 16
  pub language : length p.language ≡ 3

-- Reading a written piece gives it back.
abbrev pub ExtendedEventReadsBack : Type 0
ExtendedEventReadsBack = (p : ExtendedPiece) → IsExtendedPiece p → extended_event_in (extended_event_body p) ≡ Some p
