-- The steps of a checkpoint read back, since what stands came from edits that lines gave, or from the multiplex.
use Rattle.std.proofs.Common.{◌≡◌, ◌==◌, ◌≤◌, ◌-◌, ◌++◌, ◌∷◌, [], ℕ, List, true, false, Option, Some, None, refl, sym, ap, subst, arith, length, map, inl, inr}
use Rattle.std.specs.Prelude.{IfSome, option_map, filter_map}
use Rattle.std.specs.List.{AllByRecursion, flat_map}
use Rattle.std.proofs.lemmas.Bool.{cases_Bool, cond-true, cond-false}
use Rattle.std.proofs.lemmas.Bool.Decides.{nat_tests}
use Rattle.std.proofs.lemmas.List.Concat.{flat_map-cons}
use Rattle.si_lists.proofs.Lists.{all_append, all_map, all_to_map, all_two}
use Rattle.si_lists.proofs.Filters.{list_all-more}
use Rattle.guide_model.specs.Decoding.{IsKept}
use Rattle.guide_model.proofs.CutFacts.{coded_size-bounds}
use Rattle.guide_model.specs.declared.event.Event.{Event}
use Rattle.guide_model.specs.declared.descriptor.RawDesc.{RawDesc}
use Rattle.guide_model.specs.Descriptors.{descriptors_size}
use Rattle.guide_model.proofs.HexTexts.{texts_size}
use Rattle.guide_model.specs.declared.event.Rating.{Rating}
use Rattle.guide_model.specs.declared.guide.ServiceGuide.{ServiceGuide}
use Rattle.guide_model.specs.declared.guide.Guide.{Guide}
use Rattle.mux_model.specs.Fed.{FedService, IsNamed, IsSoundFed, fed_services, feed_of}
use Rattle.mux_model.proofs.FedFacts.{fed_sound}
use Rattle.mux_model.specs.declared.mux.Mux.{Mux}
use Rattle.mux_model.specs.Sound.{IsSound}
use Rattle.journal_model.specs.declared.edit.RawRating.{RawRating}
use Rattle.journal_model.specs.declared.edit.Item.{Item}
use Rattle.journal_model.specs.declared.edit.Edit.{Edit}
use Rattle.journal_model.specs.declared.edit.Edit.TheVariants.{Put, Clear, Name}
use Rattle.journal_model.specs.declared.step.Step.{Step}
use Rattle.journal_model.specs.declared.step.Step.TheVariants.{Edit as edit, Tick, Publish}
use Rattle.journal_model.specs.declared.step.Entry.{Entry}
use Rattle.journal_model.specs.Edits.{IsTypedItem, IsTypedEdit}
use Rattle.journal_model.specs.Steps.{Command, IsStepWithin, IsTypedStep}
use Rattle.script_lines.specs.EditFields.{country_field, further_fields, rating_field}
use Rattle.script_lines.specs.Script.{IsShapedStep}
use Rattle.guide_limits.specs.KeptService.{KeptService}
use Rattle.guide_limits.specs.Guides.{kept_after}
use Rattle.guide_limits.specs.Standing.{names_in}
use Rattle.guide_limits.specs.Limits.{is_small, is_capital, AreNamesWithin, IsRatingWithin, IsEventWithin, IsServiceWithin}
use Rattle.guide_limits.proofs.NamesKept.{all_given, last_kept}
use Rattle.publication.proofs.StandingFacts.{OfEachItem, standing_all}
use Rattle.publication.proofs.TypedFacts.{IsGiven, edit_gives}
use Rattle.desk_core.specs.Journal.{accepted, is_publish, publishes}
use Rattle.desk_core.specs.Publications.{before_publish, guide_after, publication}
use Rattle.desk_core.proofs.TypedFacts.{accepted_typed}
use Rattle.desk_core.proofs.WithinFacts.{draft_within, publications_within}
use Rattle.journal_text.specs.Lines.{item_row}
use Rattle.journal_text.specs.Commands.{step_items}
use Rattle.journal_text.specs.CommandBack.{IsReadableCommand, IsShort, command_row}
use Rattle.journal_text.proofs.PlainFields.{is_written, written_kept}
use Rattle.desk_checkpoint.specs.Items.{event_item, filling, raw_rating, refilling}
use Rattle.desk_checkpoint.specs.Steps.{checkpoint_steps, guide_steps, service_steps}
use Rattle.desk_checkpoint.proofs.FoldingStepFacts.{steps_within}
use Rattle.desk_checkpoint.specs.Laws.{CanBeFolded, StepsAreReadable}
use Rattle.desk_checkpoint.proofs.RowSizes.{duration_size, genres_size, moment_size, most, number_size, row_size, small_size}

-- ---- events

small_written : (b : ℕ) → is_small b ≡ true → is_written b ≡ true
small_written b h = grind (arith, nat_tests)

capital_written : (b : ℕ) → is_capital b ≡ true → is_written b ≡ true
capital_written b h = grind (arith, nat_tests)

value_small : (o : Option Rating) → IsRatingWithin o → IfSome (option_map raw_rating o) (λ (r : RawRating). r.value ≤ 255)
value_small None h = tt
value_small (Some rating) h = let k = h.3 in omega arith

country_kept : (o : Option Rating) → IsRatingWithin o → IfSome (option_map raw_rating o) (λ (r : RawRating). IsKept r.country)
country_kept None h = tt
country_kept (Some rating) h = written_kept rating.country (list_all-more is_capital is_written capital_written rating.country h.1)

item_typed : (e : Event) → IsGiven e → IsEventWithin e → IsTypedItem (event_item e)
item_typed e given within = record {
  numbers = record { id = given.id; rating = value_small e.rating within.rating; genres = given.genres; descriptors = given.descriptors };
  language = written_kept e.language (list_all-more is_small is_written small_written e.language within.language.1);
  name = given.name;
  short = given.short;
  extended = given.extended;
  country = country_kept e.rating within.rating;
}

country_size : (o : Option Rating) → IsRatingWithin o → length (country_field (option_map raw_rating o)) ≤ 3
country_size None h = omega arith
country_size (Some rating) h = let k = h.0 in omega arith

rating_size : (o : Option Rating) → IsRatingWithin o → length (rating_field (option_map raw_rating o)) ≤ 9
rating_size None h = omega arith
rating_size (Some rating) h = small_size rating.value (let k = h.3 in omega arith)

further_size : (ds : List RawDesc) → descriptors_size ds ≤ 240 → most (further_fields ds) ≤ 1443
further_size [] h = omega arith
further_size (d ∷ ds) h = omega (arith, h, texts_size (d ∷ ds))

-- ---- steps

-- a step whose lines can be written
abbrev IsWritten : Step → Type 0
IsWritten s = IsTypedStep s × IsShort (command_row 0 s) × AllByRecursion (λ (item : Item). IsShort (item_row item)) (step_items s)

abbrev IsWrittenCommand : Command → Type 0
IsWrittenCommand command = (command.0 ≡ 0) × IsWritten command.1

put_short : (feed service : ℕ) (e : Event) → feed ≤ 255 → service ≤ 65535 → IsGiven e → IsEventWithin e → IsShort (command_row 0 (edit feed (Put service (event_item e))))
put_short feed service e narrow low given within =
    let item = event_item e in
    let name = (coded_size-bounds e.name).0 in
    let short = (coded_size-bounds e.short).0 in
    omega (
      arith,
      row_size (command_row 0 (edit feed (Put service item))),
      number_size 0 (omega arith),
      small_size feed (omega (arith, narrow)),
      small_size service low,
      small_size e.id given.id,
      moment_size e.start.0,
      duration_size e.seconds,
      within.language.0,
      name,
      within.limits.name,
      short,
      within.limits.short,
      within.limits.extended,
      country_size e.rating within.rating,
      rating_size e.rating within.rating,
      genres_size e.genres given.genres,
      within.limits.genres,
      further_size e.descriptors within.limits.room,
    )

put_written : (feed service : ℕ) (e : Event) → feed ≤ 255 → service ≤ 65535 → IsGiven e → IsEventWithin e → IsWritten (edit feed (Put service (event_item e)))
put_written feed service e narrow low given within =
    ((narrow, (low, item_typed e given within)), put_short feed service e narrow low given within, tt)

name_short : (feed service : ℕ) (provider name : List ℕ) → feed ≤ 255 → service ≤ 65535 → AreNamesWithin provider name
    → IsShort (command_row 0 (edit feed (Name service provider name)))
name_short feed service provider name narrow low within =
    omega (
      arith,
      row_size (command_row 0 (edit feed (Name service provider name))),
      number_size 0 (omega arith),
      small_size feed (omega (arith, narrow)),
      small_size service low,
      (coded_size-bounds provider).0,
      within.provider,
      (coded_size-bounds name).0,
      within.name.1,
    )

clear_short : (feed service : ℕ) → feed ≤ 255 → service ≤ 65535 → IsShort (command_row 0 (edit feed (Clear service)))
clear_short feed service narrow low =
    omega (arith, row_size (command_row 0 (edit feed (Clear service))), number_size 0 (omega arith), small_size feed (omega (arith, narrow)), small_size service low)

-- ---- services

-- a service that stands after edits that lines gave
record IsGivenService (guide : ServiceGuide) : Type 0 where
  service : guide.service ≤ 65535
  provider : IsKept guide.provider
  name : IsKept guide.name
  events : AllByRecursion IsGiven guide.events
  within : IsServiceWithin guide

-- a way whose edits can be written
abbrev AreWritten : (ServiceGuide → List Edit) → Type 0
AreWritten edits = (feed : ℕ) (guide : ServiceGuide) → feed ≤ 255 → IsGivenService guide → AllByRecursion (λ (e : Edit). IsWritten (edit feed e)) (edits guide)

filling_written : AreWritten filling
filling_written feed guide narrow given =
    let low = given.service in
    let put : Event → Edit = λ (e : Event). Put guide.service (event_item e) in (
      ((narrow, (low, given.provider, given.name)), name_short feed guide.service guide.provider guide.name narrow low given.within.names, tt),
      all_to_map (λ (e : Edit). IsWritten (edit feed e)) put guide.events
          (all_two IsGiven IsEventWithin (λ (e : Event). IsWritten (edit feed (put e))) (λ e one two. put_written feed guide.service e narrow low one two)
          guide.events given.events given.within.events.each),
    )

refilling_written : AreWritten refilling
refilling_written feed guide narrow given =
    (((narrow, given.service), clear_short feed guide.service narrow given.service, tt), filling_written feed guide narrow given)

-- ---- guides

kept_given : (s : FedService) (past : List Edit) → IsSoundFed s → IsNamed s → AllByRecursion IsTypedEdit past → IsServiceWithin (kept_after past s).guide
    → IsGivenService (kept_after past s).guide
kept_given s past sound kept typed within =
    let names = last_kept (s.provider, s.name) (filter_map (names_in s.service) past) (kept.0, kept.1) (all_given s.service past typed) in
    record {
      service = sound.service.1;
      provider = names.0;
      name = names.1;
      events = standing_all IsGiven s.service past (all_map IsTypedEdit (OfEachItem IsGiven) edit_gives past typed);
      within = within;
    }

abbrev guides_of : List Edit → List FedService → List ServiceGuide
guides_of past services = map (λ (kept : KeptService). kept.guide) (map (kept_after past) services)

all_kept_given : (past : List Edit) (services : List FedService) → AllByRecursion IsSoundFed services → AllByRecursion IsNamed services → AllByRecursion IsTypedEdit past
    → AllByRecursion IsServiceWithin (guides_of past services) → AllByRecursion IsGivenService (guides_of past services)
all_kept_given past [] sound named typed within = tt
all_kept_given past (s ∷ services) sound named typed within =
    (kept_given s past sound.0 named.0 typed within.0, all_kept_given past services sound.1 named.1 typed within.1)

feed_low : (services : List FedService) (id : ℕ) → AllByRecursion IsSoundFed services → feed_of services id ≤ 255
feed_low [] id sound = omega arith
feed_low (s ∷ services) id sound = elim (cases_Bool (s.service == id)) [
  | inl is ↦ rw is (let k = sound.0.feed.1 in omega arith)
  | inr other ↦ rw other (feed_low services id sound.1)
]

services_written : (edits : ServiceGuide → List Edit) → AreWritten edits → (services : List FedService) (guides : List ServiceGuide) → AllByRecursion IsSoundFed services
    → AllByRecursion IsGivenService guides → AllByRecursion IsWrittenCommand (flat_map (service_steps edits services) guides)
services_written edits way services [] sound given = tt
services_written edits way services (guide ∷ guides) sound given =
    let feed = feed_of services guide.service in
    let here = way feed guide (feed_low services guide.service sound) given.0 in
    subst (AllByRecursion IsWrittenCommand) (sym (flat_map-cons (service_steps edits services) guide guides))
    (all_append IsWrittenCommand (service_steps edits services guide) (flat_map (service_steps edits services) guides)
    (all_to_map IsWrittenCommand (λ (e : Edit). (0, edit feed e)) (edits guide)
    (all_map (λ (e : Edit). IsWritten (edit feed e)) (λ (e : Edit). IsWrittenCommand (0, edit feed e)) (λ e h. (refl, h)) (edits guide) here))
    (services_written edits way services guides sound given.1))

tick_written : (guide : Guide) → IsWritten (Tick guide.moment)
tick_written guide =
    (tt, omega (arith, row_size (command_row 0 (Tick guide.moment)), number_size 0 (omega arith), moment_size guide.moment.0), tt)

publish_written : IsWritten Publish
publish_written = (tt, omega (arith, row_size (command_row 0 Publish), number_size 0 (omega arith)), tt)

guide_written : (edits : ServiceGuide → List Edit) → AreWritten edits → (mux : Mux) (before : List Entry) → IsSound mux
    → AllByRecursion IsNamed (fed_services mux) → AllByRecursion IsTypedEdit (accepted before) → AllByRecursion IsServiceWithin (guide_after mux before).services
    → AllByRecursion IsWrittenCommand (guide_steps edits mux (guide_after mux before))
guide_written edits way mux before sound named typed within =
    let guide = guide_after mux before in
    let each = fed_sound mux sound in
    all_append IsWrittenCommand (flat_map (service_steps edits (fed_services mux)) guide.services) ((0, Tick guide.moment) ∷ [])
    (services_written edits way (fed_services mux) guide.services each (all_kept_given (accepted before) (fed_services mux) each named typed within)) ((refl, tick_written guide), tt)

-- ---- edits of the journal

abbrev HasTypedStep : Entry → Type 0
HasTypedStep entry = IsTypedStep entry.step

front_typed : (n : ℕ) (entries : List Entry) → AllByRecursion HasTypedStep entries → AllByRecursion HasTypedStep (before_publish n entries)
front_typed n [] h = tt
front_typed n (x ∷ xs) h = elim (cases_Bool (is_publish x.step)) [
  | inl p ↦ elim (cases_Bool (n == 1)) [
    | inl one ↦ rw (p, one) tt
    | inr more ↦ rw (p, more) (h.0, front_typed (n - 1) xs h.1)
  ]
  | inr p ↦ rw p (h.0, front_typed n xs h.1)
]

-- ---- the steps of a checkpoint

latest_written : (mux : Mux) (journal : List Entry) → CanBeFolded mux journal → (publishes journal == 0) ≡ false
    → AllByRecursion IsWrittenCommand (guide_steps filling mux (publication mux journal (publishes journal)))
latest_written mux journal can some =
    let count = publishes journal in
    let front = before_publish count journal in
    let is : publication mux journal count ≡ guide_after mux front = ap (guide_after mux) (cond-false (count == 0) [] front some) in
    let within = publications_within mux journal count can.sound can.legal in
    subst (λ (g : Guide). AllByRecursion IsServiceWithin g.services → AllByRecursion IsWrittenCommand (guide_steps filling mux g)) (sym is)
    (guide_written filling filling_written mux front can.sound can.named (accepted_typed front (front_typed count journal can.typed))) within.services

steps_written : (mux : Mux) (journal : List Entry) → CanBeFolded mux journal → AllByRecursion IsWrittenCommand (checkpoint_steps mux journal)
steps_written mux journal can =
    let count = publishes journal in
    let latest = publication mux journal count in
    let draft = guide_steps refilling mux (guide_after mux journal) in
    let second = guide_written refilling refilling_written mux journal can.sound can.named (accepted_typed journal can.typed) (draft_within mux journal can.sound can.legal).services in
    let one = guide_steps filling mux latest ++ (0, Publish) ∷ [] in
    elim (cases_Bool (count == 0)) [
      | inl none ↦ subst (AllByRecursion IsWrittenCommand) (sym (ap (λ (l : List Command). l ++ draft) (cond-true (count == 0) [] one none))) second
      | inr some ↦ subst (AllByRecursion IsWrittenCommand) (sym (ap (λ (l : List Command). l ++ draft) (cond-false (count == 0) [] one some)))
          (all_append IsWrittenCommand one draft
          (all_append IsWrittenCommand (guide_steps filling mux latest) ((0, Publish) ∷ []) (latest_written mux journal can some) ((refl, publish_written), tt)) second)
    ]

readable : (s : Step) → IsWritten s → IsStepWithin s → IsShapedStep s → IsReadableCommand 0 s
readable s written within shaped =
    record { caller = omega arith; shaped = shaped; within = within; typed = written.0; short = written.1; items_short = written.2 }

pub steps_readable : StepsAreReadable
steps_readable mux journal can =
    let steps = checkpoint_steps mux journal in
    let fine = steps_within mux journal can.sound can.legal can.within in
    let both = all_two (λ (c : Command). IsStepWithin c.1) (λ (c : Command). IsShapedStep c.1) (λ (c : Command). IsStepWithin c.1 × IsShapedStep c.1) (λ c one two. (one, two)) steps fine.0 fine.1 in
    all_two IsWrittenCommand (λ (c : Command). IsStepWithin c.1 × IsShapedStep c.1) (λ (c : Command). (c.0 ≡ 0) × IsReadableCommand 0 c.1)
    (λ c one two. (one.0, readable c.1 one.1 two.0 two.1)) steps (steps_written mux journal can) both
