-- The line of an event, part by part.
use Rattle.std.proofs.Common.{◌≡◌, ℕ, ◌++◌, ◌∷◌, [], List, refl, ◌∙◌, append_assoc}
use Rattle.std.specs.Prelude.{decimal, if◌then◌else◌, Result, Ok, Err, is_ok, OnOk}
use Rattle.std.specs.List.{join_with_byte}
use Rattle.guide_model.specs.declared.screen.ScreenEvent.{ScreenEvent}
use Rattle.guide_model.specs.Genres.{genres_text}
use Rattle.guide_text.specs.Fields.{shown_text, code_text, moment_field, duration_field, optional}
use Rattle.guide_text.specs.Guides.{country_text, value_text, event_line}

cons_append : (b : ℕ) (xs ys : List ℕ) → (b ∷ xs) ++ ys ≡ b ∷ (xs ++ ys)
cons_append b xs ys = refl

-- a line of eleven fields, in the parts that are written one behind the other
joined : (out w i s d l n h x c v g : List ℕ)
    → (((((out ++ w) ++ 9 ∷ (i ++ 9 ∷ (s ++ 9 ∷ (d ++ 9 ∷ l)))) ++ 9 ∷ (n ++ 9 ∷ (h ++ 9 ∷ x))) ++ 9 ∷ (c ++ 9 ∷ v)) ++ 9 ∷ g) ++ 10 ∷ []
    ≡ out ++ (join_with_byte 9 (w ∷ i ∷ s ∷ d ∷ l ∷ n ∷ h ∷ x ∷ c ∷ v ∷ g ∷ []) ++ 10 ∷ [])
joined out w i s d l n h x c v g = simp (append_assoc, cons_append)

pub event_parts : (out w : List ℕ) (e : ScreenEvent) (a b c d f : List ℕ) → a ≡ out ++ w
    → b ≡ a ++ 9 ∷ (decimal e.id ++ 9 ∷ (moment_field e.start.0 ++ 9 ∷ (duration_field e.seconds ++ 9 ∷ code_text e.language)))
    → c ≡ b ++ 9 ∷ (shown_text e.name ++ 9 ∷ (shown_text e.short ++ 9 ∷ shown_text e.extended))
    → d ≡ c ++ 9 ∷ (optional country_text e.rating ++ 9 ∷ optional value_text e.rating)
    → f ≡ d ++ 9 ∷ genres_text e.genres → f ++ 10 ∷ [] ≡ out ++ event_line w e
event_parts out w e a b c d f word times texts rating genres =
    rw (genres, rating, texts, times, word)
    (joined out w (decimal e.id) (moment_field e.start.0) (duration_field e.seconds) (code_text e.language) (shown_text e.name) (shown_text e.short) (shown_text e.extended)
    (optional country_text e.rating) (optional value_text e.rating) (genres_text e.genres))

-- what was appended, where it was, is known in other words
pub then_line : {T E : Type 0} (r : Result T E) (new was is none : List ℕ) → was ≡ is → new ≡ (if is_ok r then was else none) → OnOk r (new ≡ is)
then_line (Ok x) new was is none e h = h ∙ e
then_line (Err x) new was is none e h = tt
