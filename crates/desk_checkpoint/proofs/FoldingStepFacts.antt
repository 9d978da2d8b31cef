-- The steps of a checkpoint can be asked, and lines can give them.
use Rattle.std.proofs.Common.{◌≡◌, ◌≢◌, ℕ, ◌-◌, ◌*◌, ◌<◌, true, List, [], ◌∷◌, ◌++◌, length, sym, ap, subst, arith, inl, inr}
use Rattle.std.specs.Prelude.{Option, Some, None, IfSome, ◌==◌, codes, option_map}
use Rattle.std.specs.List.{AllByRecursion, flat_map}
use Rattle.std.proofs.lemmas.Bool.{cases_Bool, cond-true, cond-false}
use Rattle.std.proofs.lemmas.List.Concat.{flat_map-cons}
use Rattle.si_lists.proofs.Lists.{all_append, all_map, all_through, all_to_map}
use Rattle.si_time.specs.Moments.{moment_text}
use Rattle.si_time.specs.Readings.{has_shape, moment_in, seconds_at, date_at_front, clock_at}
use Rattle.si_time.proofs.RoundTrips.{behind_test}
use Rattle.si_time.proofs.TextFacts.{moment_in-moment_text}
use Rattle.guide_model.specs.declared.event.Event.{Event}
use Rattle.guide_model.proofs.SoundFacts.{small_fit}
use Rattle.guide_model.specs.declared.event.Rating.{Rating}
use Rattle.guide_model.specs.declared.guide.ServiceGuide.{ServiceGuide}
use Rattle.guide_model.specs.declared.guide.Guide.{Guide}
use Rattle.mux_model.specs.Fed.{FedService, fed_services, feed_of}
use Rattle.mux_model.specs.declared.mux.Mux.{Mux}
use Rattle.mux_model.specs.Sound.{IsSound}
use Rattle.guide_limits.specs.Limits.{IsRatingWithin, IsEventWithin, IsServiceWithin, IsGuideWithin}
use Rattle.journal_model.specs.declared.edit.RawRating.{RawRating}
use Rattle.journal_model.specs.declared.edit.Edit.{Edit}
use Rattle.journal_model.specs.declared.edit.Edit.TheVariants.{Put}
use Rattle.journal_model.specs.declared.step.Step.{Step}
use Rattle.journal_model.specs.declared.step.Step.TheVariants.{Edit as edit, Tick, Publish}
use Rattle.journal_model.specs.declared.step.Entry.{Entry}
use Rattle.journal_model.specs.Edits.{IsShapedItem}
use Rattle.journal_model.specs.Steps.{IsStepWithin, Command}
use Rattle.script_lines.specs.Script.{IsShapedStep}
use Rattle.script_lines.proofs.Shapes.{duration_shaped}
use Rattle.desk_core.specs.Journal.{is_publish, moment_of, publishes, Legal}
use Rattle.desk_core.specs.Publications.{before_publish, publication, guide_after}
use Rattle.desk_core.proofs.MomentFacts.{InRange, written_steps, moment_range}
use Rattle.desk_core.proofs.WithinFacts.{publications_within, draft_within}
use Rattle.desk_checkpoint.specs.Items.{raw_rating, event_item, filling, refilling}
use Rattle.desk_checkpoint.specs.Steps.{service_steps, guide_steps, checkpoint_steps}

-- a step of both kinds
abbrev pub IsFine : Step → Type 0
IsFine step = IsStepWithin step × IsShapedStep step

-- ---- items

start_shaped : (t : ℕ) → t < 65536 * 86400 → has_shape (codes "dddd-dd-ddTdd:dd:ddZ") (moment_text t) ≡ true
unfolding moment_in
start_shaped t h =
    let text = moment_text t in
    (behind_test (has_shape (codes "dddd-dd-ddTdd:dd:ddZ") text) (seconds_at (date_at_front text) (clock_at 24 11 text)) t (moment_in-moment_text t h)).0

country_there : (o : Option Rating) → IsRatingWithin o → IfSome (option_map raw_rating o) (λ (r : RawRating). r.country ≢ [])
country_there None h = tt
country_there (Some rating) h = λ e. (let none : length rating.country ≡ 0 = ap length e in let three : length rating.country ≡ 3 = h.0 in omega arith)

item_shaped : (event : Event) → IsEventWithin event → IsShapedItem (event_item event)
item_shaped event within = record {
  start = start_shaped event.start.0 (omega (arith, within.lasts, within.window));
  length = duration_shaped event.seconds (omega (arith, within.lasts));
  country = country_there event.rating within.rating;
  descriptors = small_fit event.descriptors within.limits.room;
}

put_fine : (feed service : ℕ) (event : Event) → IsEventWithin event → IsFine (edit feed (Put service (event_item event)))
put_fine feed service event within = (tt, item_shaped event within)

-- ---- guides

-- a way whose edits can be asked, and given by lines
abbrev AreFine : (ServiceGuide → List Edit) → Type 0
AreFine edits = (feed : ℕ) (guide : ServiceGuide) → IsServiceWithin guide → AllByRecursion (λ (e : Edit). IsFine (edit feed e)) (edits guide)

filling_fine : AreFine filling
filling_fine feed guide within = (
  (tt, tt),
  all_through IsEventWithin (λ (e : Edit). IsFine (edit feed e)) (λ (event : Event). Put guide.service (event_item event))
      (put_fine feed guide.service) guide.events within.events.each,
)

refilling_fine : AreFine refilling
refilling_fine feed guide within = ((tt, tt), filling_fine feed guide within)

abbrev IsFineCommand : Command → Type 0
IsFineCommand command = IsFine command.1

services_fine : (edits : ServiceGuide → List Edit) → AreFine edits → (services : List FedService) (guides : List ServiceGuide)
    → AllByRecursion IsServiceWithin guides → AllByRecursion IsFineCommand (flat_map (service_steps edits services) guides)
services_fine edits way services [] h = tt
services_fine edits way services (guide ∷ guides) h =
    let feed = feed_of services guide.service in
    subst (AllByRecursion IsFineCommand) (sym (flat_map-cons (service_steps edits services) guide guides))
    (all_append IsFineCommand (service_steps edits services guide) (flat_map (service_steps edits services) guides)
    (all_to_map IsFineCommand (λ (e : Edit). (0, edit feed e)) (edits guide) (way feed guide h.0)) (services_fine edits way services guides h.1))

guide_fine : (edits : ServiceGuide → List Edit) → AreFine edits → (mux : Mux) (guide : Guide) → IsGuideWithin guide → InRange guide.moment
    → AllByRecursion IsFineCommand (guide_steps edits mux guide)
guide_fine edits way mux guide within early =
    all_append IsFineCommand (flat_map (service_steps edits (fed_services mux)) guide.services) ((0, Tick guide.moment) ∷ [])
    (services_fine edits way (fed_services mux) guide.services within.services) ((early, tt), tt)

-- ---- moments

abbrev AllWithin : List Entry → Type 0
AllWithin entries = AllByRecursion (λ (entry : Entry). IsStepWithin entry.step) entries

moment_early : (mux : Mux) (entries : List Entry) → IsSound mux → AllWithin entries → InRange (moment_of mux entries)
moment_early mux entries sound within = moment_range mux entries sound (written_steps entries within)

front_within : (n : ℕ) (entries : List Entry) → AllWithin entries → AllWithin (before_publish n entries)
front_within n [] h = tt
front_within n (x ∷ xs) h = elim (cases_Bool (is_publish x.step)) [
  | inl p ↦ elim (cases_Bool (n == 1)) [
    | inl one ↦ rw (p, one) tt
    | inr more ↦ rw (p, more) (h.0, front_within (n - 1) xs h.1)
  ]
  | inr p ↦ rw p (h.0, front_within n xs h.1)
]

latest_moment : (mux : Mux) (journal : List Entry) (n : ℕ) → IsSound mux → AllWithin journal → InRange (publication mux journal n).moment
latest_moment mux journal n sound within = elim (cases_Bool (n == 0)) [
  | inl none ↦ rw none (moment_early mux [] sound tt)
  | inr some ↦ rw some (moment_early mux (before_publish n journal) sound (front_within n journal within))
]

-- ---- the steps

steps_fine : (mux : Mux) (journal : List Entry) → IsSound mux → Legal mux journal → AllWithin journal
    → AllByRecursion IsFineCommand (checkpoint_steps mux journal)
steps_fine mux journal sound legal within =
    let count = publishes journal in
    let latest = publication mux journal count in
    let draft = guide_steps refilling mux (guide_after mux journal) in
    let second = guide_fine refilling refilling_fine mux (guide_after mux journal) (draft_within mux journal sound legal) (moment_early mux journal sound within) in
    let first = guide_fine filling filling_fine mux latest (publications_within mux journal count sound legal) (latest_moment mux journal count sound within) in
    let one = guide_steps filling mux latest ++ (0, Publish) ∷ [] in
    elim (cases_Bool (count == 0)) [
      | inl none ↦ subst (AllByRecursion IsFineCommand) (sym (ap (λ (l : List Command). l ++ draft) (cond-true (count == 0) [] one none))) second
      | inr some ↦ subst (AllByRecursion IsFineCommand) (sym (ap (λ (l : List Command). l ++ draft) (cond-false (count == 0) [] one some)))
          (all_append IsFineCommand one draft (all_append IsFineCommand (guide_steps filling mux latest) ((0, Publish) ∷ []) first ((tt, tt), tt)) second)
    ]

pub steps_within : (mux : Mux) (journal : List Entry) → IsSound mux → Legal mux journal → AllWithin journal
    → AllByRecursion (λ (command : Command). IsStepWithin command.1) (checkpoint_steps mux journal)
    × AllByRecursion (λ (command : Command). IsShapedStep command.1) (checkpoint_steps mux journal)
steps_within mux journal sound legal within =
    let fine = steps_fine mux journal sound legal within in (
      all_map IsFineCommand (λ (command : Command). IsStepWithin command.1) (λ command h. h.0) (checkpoint_steps mux journal) fine,
      all_map IsFineCommand (λ (command : Command). IsShapedStep command.1) (λ command h. h.1) (checkpoint_steps mux journal) fine,
    )
