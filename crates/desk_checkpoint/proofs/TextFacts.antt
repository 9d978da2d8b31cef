-- The text of a checkpoint, part by part.
use Rattle.std.proofs.Common.{◌≡◌, ◌<◌, ◌+◌, ◌-◌, ◌∙◌, ◌++◌, ◌∷◌, [], ℕ, zero, suc, List, Bool, true, length, take, flat_map, sym, ap, refl, subst, arith, append-nil, inl, inr}
use Rattle.std.specs.Prelude.{Option, Some, Result, OnOk, ◌==◌}
use Rattle.std.specs.List.{AllByRecursion, list_all}
use Rattle.std.proofs.Math.ListN.{get_or}
use Rattle.std.proofs.lemmas.Bool.{cases_Bool}
use Rattle.std.proofs.lemmas.Bool.Decides.{nat_tests}
use Rattle.std.proofs.lemmas.Grind.{flat_map-append}
use Rattle.std.proofs.lemmas.List.{flat_map_more, take_more}
use Rattle.si_lists.proofs.Filters.{list_all-more}
use Rattle.guide_model.specs.Control.{is_printing}
use Rattle.guide_model.specs.Decoding.{IsKept}
use Rattle.guide_model.specs.declared.event.Event.{Event}
use Rattle.guide_model.specs.declared.event.Rating.{Rating}
use Rattle.guide_model.specs.declared.guide.Guide.{Guide}
use Rattle.guide_model.specs.declared.guide.ServiceGuide.{ServiceGuide}
use Rattle.guide_limits.specs.Limits.{IsRatingWithin, is_capital, is_small}
use Rattle.mux_model.specs.declared.mux.Mux.{Mux}
use Rattle.mux_model.specs.Fed.{FedService, fed_services}
use Rattle.mux_model.specs.Sound.{IsSound}
use Rattle.journal_model.specs.declared.step.Step.TheVariants.{Tick}
use Rattle.journal_model.specs.declared.step.Entry.{Entry}
use Rattle.journal_model.specs.Steps.{Command, IsStepWithin}
use Rattle.desk_core.specs.Journal.{is_publish, publishes}
use Rattle.desk_core.specs.Publications.{before_publish, guide_after, publication}
use Rattle.desk_core.specs.Desks.{DeskState}
use Rattle.desk_core.proofs.MomentFacts.{InRange, moment_range, written_steps}
use Rattle.journal_text.specs.Lines.{Line, and_fields, no_fields, ended, line_text}
use Rattle.journal_text.proofs.LineFacts.{ended_line}
use Rattle.journal_text.proofs.PlainFields.{printing_kept}
use Rattle.desk_checkpoint.specs.Items.{put_edits}
use Rattle.desk_checkpoint.specs.Steps.{guide_steps, publication_steps, service_steps}
use Rattle.desk_checkpoint.specs.Text.{desk_steps, edits_of, feed_steps, put_text, service_text, step_text, steps_text}

-- ---- what is appended

-- a line of these fields is written
pub put_line : {E : Type 0} (r : Result (Unit {0}) E) (old new : List ℕ) (line : Line) (f : List ℕ) (fs : List (List ℕ)) → line ≡ and_fields no_fields (f ∷ fs)
    → OnOk r (new ≡ old ++ ended line) → OnOk r (new ≡ old ++ line_text (f ∷ fs))
put_line r old new line f fs is at = subst (λ (t : List ℕ). OnOk r (new ≡ old ++ t)) (ended_line line f fs is) at

-- the text of one element more of a list
pub next_piece : {X : Type 0} (f : X → List ℕ) (old middle new : List ℕ) (xs : List X) (i : ℕ) (x : X) → i < length xs → x ≡ get_or xs i x
    → middle ≡ old ++ flat_map f (take i xs) → new ≡ middle ++ f x → new ≡ old ++ flat_map f (take (i + 1) xs)
next_piece f old middle new xs i x lt at is more =
    more ∙ ap (λ (m : List ℕ). m ++ f x) is ∙ flat_map_more f old (take i xs) x
    ∙ ap (λ l. old ++ flat_map f (take i xs ++ l ∷ [])) at ∙ ap (λ l. old ++ flat_map f l) (sym (take_more xs i x lt))

-- an element of a list of which each has this
pub all_get : {X : Type 0} (P : X → Type 0) (xs : List X) (i : ℕ) (x : X) → AllByRecursion P xs → i < length xs → x ≡ get_or xs i x → P x
all_get P [] i x all lt at = absurd (omega arith)
all_get P (y ∷ ys) zero x all lt at = subst P (sym at) all.0
all_get P (y ∷ ys) (suc i) x all lt at = all_get P ys i x all.1 (omega arith) at

-- ---- codes of letters are kept

small_printing : (b : ℕ) → is_small b ≡ true → is_printing b ≡ true
small_printing b h = grind (arith, nat_tests)

capital_printing : (b : ℕ) → is_capital b ≡ true → is_printing b ≡ true
capital_printing b h = grind (arith, nat_tests)

pub small_kept : (code : List ℕ) → list_all is_small code ≡ true → IsKept code
small_kept code h = printing_kept code (list_all-more is_small is_printing small_printing code h)

pub kept_country : (rating : Option Rating) (found : Rating) → rating ≡ Some found → IsRatingWithin rating → IsKept found.country
kept_country rating found is within =
    let (long, letters, low, high) = subst (λ (o : Option Rating). IsRatingWithin o) is within in
    printing_kept found.country (list_all-more is_capital is_printing capital_printing found.country letters)

-- ---- steps

pub puts_text : (feed service : ℕ) (events : List Event) → steps_text (feed_steps feed (put_edits service events)) ≡ flat_map (put_text feed service) events
puts_text feed service [] = refl
puts_text feed service (e ∷ es) = ap (λ (t : List ℕ). put_text feed service e ++ t) (puts_text feed service es)

pub step_behind : (steps : List Command) (step : Command) → steps_text (steps ++ step ∷ []) ≡ steps_text steps ++ step_text step
step_behind steps step =
    flat_map-append step_text steps (step ∷ []) ∙ ap (λ (t : List ℕ). steps_text steps ++ t) (append-nil (step_text step))

services_text : (clears : Bool) (services : List FedService) (guides : List ServiceGuide)
    → steps_text (flat_map (service_steps (edits_of clears) services) guides) ≡ flat_map (service_text clears services) guides
services_text clears services [] = refl
services_text clears services (guide ∷ guides) =
    flat_map-append step_text (service_steps (edits_of clears) services guide) (flat_map (service_steps (edits_of clears) services) guides)
    ∙ ap (λ (t : List ℕ). service_text clears services guide ++ t) (services_text clears services guides)

pub guide_text : (clears : Bool) (mux : Mux) (guide : Guide) → steps_text (guide_steps (edits_of clears) mux guide)
    ≡ flat_map (service_text clears (fed_services mux)) guide.services ++ step_text (0, Tick guide.moment)
guide_text clears mux guide =
    step_behind (flat_map (service_steps (edits_of clears) (fed_services mux)) guide.services) (0, Tick guide.moment)
    ∙ ap (λ (t : List ℕ). t ++ step_text (0, Tick guide.moment)) (services_text clears (fed_services mux) guide.services)

pub desk_text : (shift : ℕ) (desk : DeskState) → steps_text (desk_steps shift desk)
    ≡ steps_text (publication_steps desk.mux (shift + publishes desk.entries) (publication desk.mux desk.entries (publishes desk.entries)))
    ++ steps_text (guide_steps (edits_of true) desk.mux (guide_after desk.mux desk.entries))
desk_text shift desk =
    flat_map-append step_text (publication_steps desk.mux (shift + publishes desk.entries) (publication desk.mux desk.entries (publishes desk.entries)))
    (guide_steps (edits_of true) desk.mux (guide_after desk.mux desk.entries))

-- ---- the moment of a publication can be written

entries_before : (P : Entry → Type 0) (n : ℕ) (entries : List Entry) → AllByRecursion P entries → AllByRecursion P (before_publish n entries)
entries_before P n [] all = tt
entries_before P n (e ∷ es) all = elim (cases_Bool (is_publish e.step)) [
  | inl is ↦ elim (cases_Bool (n == 1)) [
    | inl first ↦ rw (is, first) tt
    | inr later ↦ rw (is, later) (all.0, entries_before P (n - 1) es all.1)
  ]
  | inr other ↦ rw other (all.0, entries_before P n es all.1)
]

pub published_range : (mux : Mux) (journal : List Entry) (n : ℕ) → IsSound mux → AllByRecursion (λ (entry : Entry). IsStepWithin entry.step) journal
    → InRange (publication mux journal n).moment
published_range mux journal n sound within = elim (cases_Bool (n == 0)) [
  | inl none ↦ rw none (moment_range mux [] sound tt)
  | inr some ↦ rw some (moment_range mux (before_publish n journal) sound
      (written_steps (before_publish n journal) (entries_before (λ (entry : Entry). IsStepWithin entry.step) n journal within)))
]
