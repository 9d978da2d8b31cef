-- What is asked of a line and of its fields.
use Rattle.std.proofs.Common.{◌≡◌, ◌∙◌, ◌<◌, ◌≤◌, ◌+◌, ℕ, true, false, ◌-◌, List, ◌∷◌, length, take, drop, length-drop, get_or, refl, ap, inl, inr, arith}
use Rattle.std.specs.Prelude.{Option, Some, None, is_some, option_map, codes, nat_le}
use Rattle.std.specs.Option.{option_or}
use Rattle.std.specs.Str.{IsUtf8, is_utf8}
use Rattle.std.proofs.lemmas.Bool.{cases_Bool}
use Rattle.std.proofs.lemmas.Bool.Decides.{nat_tests}
use Rattle.std.proofs.lemmas.List.{take_all}
use Rattle.std.proofs.lemmas.Str.{is_utf8-from_IsUtf8, IsUtf8-from_is_utf8}
use Rattle.guide_model.specs.Control.{has_control}
use Rattle.si_time.specs.Readings.{has_shape}
use Rattle.si_time.specs.declared.moment.Moment.{Moment}
use Rattle.script_notes.specs.declared.why.FieldName.TheVariants as field
use Rattle.script_notes.specs.declared.why.Why.TheVariants.{BadField, ControlCharacter, NotUtf8, TooLong}
use Rattle.script_notes.specs.Faults.{unless, why_event, why_id, why_listed, why_rating, why_unread}

short_enough : (n : ℕ) → n ≤ 16384 → nat_le n 16384 ≡ true
short_enough n le = grind (arith, nat_tests)

too_long : (n : ℕ) → 16384 < n → nat_le n 16384 ≡ false
too_long n lt = grind (arith, nat_tests)

pub unread_long : (line : List ℕ) → 16384 < length line → why_unread line ≡ Some TooLong
unread_long line lt = rw (too_long (length line) lt) refl

pub unread_bytes : (line : List ℕ) → length line ≤ 16384 → (IsUtf8 line → ⊥) → why_unread line ≡ Some NotUtf8
unread_bytes line le never = elim (cases_Bool (is_utf8 line)) [
  | inl e ↦ absurd (never (IsUtf8-from_is_utf8 line e))
  | inr e ↦ rw (short_enough (length line) le, e) refl
]

pub unread_control : (line : List ℕ) → length line ≤ 16384 → IsUtf8 line → has_control line ≡ true → why_unread line ≡ Some ControlCharacter
unread_control line le utf8 e = rw (short_enough (length line) le, is_utf8-from_IsUtf8 line utf8, e) refl

pub unread_none : (line : List ℕ) → length line ≤ 16384 → IsUtf8 line → has_control line ≡ false → why_unread line ≡ None
unread_none line le utf8 e = rw (short_enough (length line) le, is_utf8-from_IsUtf8 line utf8, e) refl

pub same_some : (r : Option Moment) (o : Option ℕ) → option_map (λ at. at.0) r ≡ o → is_some r ≡ is_some o
same_some r o e = is r ∙ ap is_some e
  where
    is : (r : Option Moment) → is_some r ≡ is_some (option_map (λ at. at.0) r)
    is None = refl
    is (Some at) = refl

abbrev Text : Type 0
Text = List ℕ

-- what stands after ten elements, as a pattern names it
abbrev pub rest_of_ten : List Text → List Text
rest_of_ten xs = take (length xs - 10) (drop 10 xs)

-- the ten fields of an event, and those after them
event_by : (k : ℕ) (xs : List Text) (a b c h i j : Text) (more : List Text) → 10 ≤ length xs
    → a ≡ get_or xs 0 a → b ≡ get_or xs 1 b → c ≡ get_or xs 2 c → h ≡ get_or xs 7 h → i ≡ get_or xs 8 i → j ≡ get_or xs 9 j → more ≡ drop 10 xs
    → why_event k xs ≡ option_or (why_id field.Event k a)
    (option_or (unless (has_shape (codes "dddd-dd-ddTdd:dd:ddZ") b) (BadField field.Start (k + 1)))
    (option_or (unless (has_shape (codes "dd:dd:dd") c) (BadField field.Duration (k + 2)))
    (option_or (why_rating (k + 7) h i) (why_listed (k + 9) j more))))
unfolding why_event
event_by k (a' ∷ b' ∷ c' ∷ d' ∷ e' ∷ f' ∷ g' ∷ h' ∷ i' ∷ j' ∷ rest) a b c h i j more low ea eb ec eh ei ej er = rw (ea, eb, ec, eh, ei, ej, er) refl
event_by k xs a b c h i j more low ea eb ec eh ei ej er = absurd (omega arith)

pub event_is : (k : ℕ) (xs : List Text) (a b c h i j : Text) → 10 ≤ length xs
    → a ≡ get_or xs 0 a → b ≡ get_or xs 1 b → c ≡ get_or xs 2 c → h ≡ get_or xs 7 h → i ≡ get_or xs 8 i → j ≡ get_or xs 9 j
    → why_event k xs ≡ option_or (why_id field.Event k a)
    (option_or (unless (has_shape (codes "dddd-dd-ddTdd:dd:ddZ") b) (BadField field.Start (k + 1)))
    (option_or (unless (has_shape (codes "dd:dd:dd") c) (BadField field.Duration (k + 2)))
    (option_or (why_rating (k + 7) h i) (why_listed (k + 9) j (rest_of_ten xs)))))
event_is k xs a b c h i j low ea eb ec eh ei ej = event_by k xs a b c h i j (rest_of_ten xs) low ea eb ec eh ei ej (take_all (length xs - 10) (drop 10 xs) (omega (arith, length-drop 10 xs)))
