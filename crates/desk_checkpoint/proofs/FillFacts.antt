-- The edits that fill a service are accepted, and leave what they were made from.
use Rattle.std.proofs.Common.{◌≡◌, ℕ, ◌+◌, ◌<◌, ◌≤◌, Bool, true, false, not, ◌&&◌, cond, List, [], ◌∷◌, ◌++◌, length, Option, Some, None, eqb, ltb, leb, refl, sym, ap, ◌∙◌, subst, arith, append-nil, append_assoc, length-append}
use Rattle.std.specs.Prelude.{option_map, unwrap_or}
use Rattle.std.specs.List.{AllByRecursion, find}
use Rattle.std.proofs.lemmas.Bool.{cond-false, cond-true, ne_eqb, eq-eqb}
use Rattle.std.proofs.lemmas.Bool.Decides.{nat_tests}
use Rattle.std.proofs.lemmas.List.Sums.{sum_by-append}
use Rattle.si_lists.proofs.Lists.{all_front, all_at}
use Rattle.guide_model.specs.declared.event.Event.{Event}
use Rattle.guide_model.specs.declared.guide.ServiceGuide.{ServiceGuide}
use Rattle.descriptors.specs.EventDescriptors.{entry_size}
use Rattle.mux_model.specs.Fed.{FedService}
use Rattle.journal_model.specs.declared.edit.Edit.{Edit}
use Rattle.journal_model.specs.declared.edit.Edit.TheVariants.{Put, Clear, Name}
use Rattle.journal_model.specs.declared.reply.DayFault.TheVariants as fault
use Rattle.journal_model.specs.declared.reply.Field.{Field}
use Rattle.journal_model.specs.declared.reply.Field.TheVariants as field
use Rattle.journal_model.specs.declared.reply.Reply.TheVariants as reply
use Rattle.guide_limits.specs.Events.{start_of, end_of, block_of, block_size}
use Rattle.guide_limits.specs.Readings.{event_of}
use Rattle.guide_limits.specs.Standing.{or_else, placed, standing, names_of, Names}
use Rattle.feed_book.specs.Replies.{refused_if, share_instant, without, put, place_fault, item_fault, put_reply, name_reply, reply_over, service_of}
use Rattle.guide_limits.specs.Sound.{IsBefore, AreApart}
use Rattle.guide_limits.specs.Limits.{IsEventWithin, AreWithin, IsServiceWithin}
use Rattle.guide_limits.specs.KeptService.{KeptService}
use Rattle.guide_limits.specs.Guides.{kept_after}
use Rattle.feed_book.specs.Accepted.{AreAccepted}
use Rattle.feed_book.proofs.LastWords.{standing_is, last_word-push}
use Rattle.feed_book.proofs.Accepted.{standing-after, names-push}
use Rattle.desk_checkpoint.specs.Items.{event_item, put_edits, filling, refilling}
use Rattle.desk_checkpoint.proofs.ItemFacts.{event_back, fields_fine, names_fine}

-- ---- the front of events

apart_front : (xs ys : List Event) → AreApart (xs ++ ys) → AreApart xs
apart_front [] ys h = tt
apart_front (x ∷ xs) ys h = (h.0, all_front (IsBefore x) xs ys h.1, apart_front xs ys h.2)

within_front : (xs ys : List Event) → AreWithin (xs ++ ys) → AreWithin xs
within_front xs ys within = record {
  apart = apart_front xs ys within.apart;
  few = omega (arith, length-append xs ys, within.few);
  each = all_front IsEventWithin xs ys within.each;
  blocks = λ block. front_below _ _ _ (sum_by-append (λ (event : Event). cond (eqb (block_of (start_of event)) block) (entry_size event) 0) xs ys) (within.blocks block);
}
  where
    front_below : (a b c : ℕ) → a ≡ b + c → a ≤ 20000 → b ≤ 20000
    front_below a b c e l = omega arith

-- ---- an event after all others

abbrev Precedes : Event → Event → Type 0
Precedes event earlier = (0 < earlier.seconds) × IsBefore earlier event

precede_last : (events : List Event) (event : Event) → AreApart (events ++ event ∷ []) → AllByRecursion (Precedes event) events
precede_last [] event h = tt
precede_last (e ∷ events) event h = ((h.0, all_at (IsBefore e) events event [] h.1), precede_last events event h.2)

not_up_to : (a b : Event) → Precedes a b → leb (start_of a) (start_of b) ≡ false
not_up_to a b h = let below : start_of b < start_of a = omega (arith, h.0, h.1) in grind (arith, nat_tests)

placed_last : (events : List Event) (event : Event) → AllByRecursion (Precedes event) events → placed event events ≡ events ++ event ∷ []
placed_last [] event h = refl
placed_last (e ∷ events) event h = cond-false _ _ _ (not_up_to event e h.0) ∙ ap (λ (es : List Event). e ∷ es) (placed_last events event h.1)

without_new : (events : List Event) (event : Event) → AllByRecursion (Precedes event) events → without event.id events ≡ events
without_new [] event h = refl
without_new (e ∷ events) event h =
    cond-true (not (eqb e.id event.id)) _ _ (ap not (ne_eqb e.id event.id h.0.1.1)) ∙ ap (λ (es : List Event). e ∷ es) (without_new events event h.1)

put_last : (events : List Event) (event : Event) → AllByRecursion (Precedes event) events → put event events ≡ events ++ event ∷ []
put_last events event h = ap (placed event) (without_new events event h) ∙ placed_last events event h

not_shared : (a b : Event) → Precedes a b → (not (eqb b.id a.id) && share_instant b a) ≡ false
not_shared a b h =
    let late : ltb (start_of a) (end_of b) ≡ false = over (end_of b) (start_of a) h.1.0 in
    rw late (ends (not (eqb b.id a.id)) (ltb (start_of b) (end_of a)))
  where
    over : (m n : ℕ) → m ≤ n → ltb n m ≡ false
    over m n l = grind (arith, nat_tests)

    ends : (p q : Bool) → (p && (q && false)) ≡ false
    ends true true = refl
    ends true false = refl
    ends false q = refl

none_shared : (events : List Event) (event : Event) → AllByRecursion (Precedes event) events
    → find (λ (other : Event). not (eqb other.id event.id) && share_instant other event) events ≡ None
none_shared [] event h = refl
none_shared (e ∷ events) event h = cond-false _ _ _ (not_shared event e h.0) ∙ none_shared events event h.1

place_fine : (events : List Event) (event : Event) → AreWithin (events ++ event ∷ []) → place_fault events event ≡ None
place_fine events event within =
    let before = precede_last events event within.apart in
    let is : put event events ≡ events ++ event ∷ [] = put_last events event before in
    let count = length (put event events) in
    let size = block_size (block_of (start_of event)) (put event events) in
    let few : ltb 2000 count ≡ false = rw is (up_to 2000 (length (events ++ event ∷ [])) within.few) in
    let small : ltb 20000 size ≡ false = rw is (up_to 20000 (block_size (block_of (start_of event)) (events ++ event ∷ [])) (within.blocks (block_of (start_of event)))) in
    ap (λ (o : Option Event). or_else (option_map (λ (other : Event). fault.Overlap other.id) o) (refused_if (ltb 2000 count) (fault.Range (field.Count count)) (refused_if (ltb 20000 size) (fault.Range (field.Segment size)) None))) (none_shared events event before)
    ∙ cond-false _ _ _ few ∙ cond-false _ _ _ small
  where
    up_to : (most n : ℕ) → n ≤ most → ltb most n ≡ false
    up_to most n l = grind (arith, nat_tests)

item_fine : (events : List Event) (event : Event) → AreWithin (events ++ event ∷ []) → item_fault None events (event_item event) ≡ None
item_fine events event within =
    let one = all_at IsEventWithin events event [] within.each in
    ap (λ (f : Option Field). or_else (option_map fault.Range f) (place_fault events (event_of (event_item event)))) (fields_fine event one)
    ∙ ap (place_fault events) (event_back event one) ∙ place_fine events event within

-- ---- puts in ascending order

abbrev pub AreFilled : List Edit → ℕ → List Edit → List Event → Type 0
AreFilled past service edits events = AreAccepted past edits × (standing service (past ++ edits) ≡ events)

puts_fill : (past : List Edit) (service : ℕ) (done todo : List Event) → standing service past ≡ done → AreWithin (done ++ todo)
    → AreFilled past service (put_edits service todo) (done ++ todo)
puts_fill past service done [] stand within = (tt, ap (standing service) (append-nil past) ∙ stand ∙ sym (append-nil done))
puts_fill past service done (event ∷ todo) stand within =
    let put_it : Edit = Put service (event_item event) in
    let regrouped : AreWithin ((done ++ event ∷ []) ++ todo) = subst AreWithin (sym (append_assoc done (event ∷ []) todo)) within in
    let front = within_front (done ++ event ∷ []) todo regrouped in
    let replied : reply_over (standing service past) put_it ≡ reply.Done = ap (λ (es : List Event). reply_over es put_it) stand ∙ ap put_reply (item_fine done event front) in
    let now : standing service (past ++ put_it ∷ []) ≡ done ++ event ∷ [] =
    standing-after past put_it replied (subst AreApart (sym stand) (apart_front done (event ∷ []) front.apart))
    ∙ ap (put (event_of (event_item event))) stand ∙ ap (λ (e : Event). put e done) (event_back event (all_at IsEventWithin done event [] front.each))
    ∙ put_last done event (precede_last done event front.apart) in
    let rest = puts_fill (past ++ put_it ∷ []) service (done ++ event ∷ []) todo now regrouped in
    ((replied, rest.0), ap (standing service) (sym (append_assoc past (put_it ∷ []) (put_edits service todo))) ∙ rest.1 ∙ append_assoc done (event ∷ []) todo)

names_stay : (past : List Edit) (service at : ℕ) (first : Names) (events : List Event)
    → names_of service first (past ++ put_edits at events) ≡ names_of service first past
names_stay past service at first [] = ap (names_of service first) (append-nil past)
names_stay past service at first (event ∷ events) =
    ap (names_of service first) (sym (append_assoc past (Put at (event_item event) ∷ []) (put_edits at events)))
    ∙ names_stay (past ++ Put at (event_item event) ∷ []) service at first events
    ∙ names-push service first past (Put at (event_item event))

-- ---- a service

-- these edits are accepted, and leave this of a service
pub record IsRebuilt (past edits : List Edit) (kept : KeptService) : Type 0 where
  pub accepted : AreAccepted past edits
  pub stands : (s : FedService) → s.service ≡ kept.guide.service → s.feed ≡ kept.feed → kept_after (past ++ edits) s ≡ kept

kept_is : (s : FedService) (past : List Edit) (kept : KeptService) → s.service ≡ kept.guide.service → s.feed ≡ kept.feed
    → names_of kept.guide.service (s.provider, s.name) past ≡ (kept.guide.provider, kept.guide.name)
    → standing kept.guide.service past ≡ kept.guide.events
    → kept_after past s ≡ kept
kept_is s past kept at feed names events =
    same (ap (λ n. names_of n (s.provider, s.name) past) at ∙ names) (ap (λ n. standing n past) at ∙ events)
  where
    same : {names : Names} {events : List Event} → names ≡ (kept.guide.provider, kept.guide.name) → events ≡ kept.guide.events
        → (let k : KeptService = record { feed = s.feed; guide = record { service = s.service; provider = names.0; name = names.1; events = events } } in k) ≡ kept
    same {names} {events} p q =
        let one : names.0 ≡ kept.guide.provider = ap (λ (n : Names). n.0) p in
        let two : names.1 ≡ kept.guide.name = ap (λ (n : Names). n.1) p in
        rw (feed, at, one, two, q) refl

pub filling_done : (past : List Edit) (kept : KeptService) → standing kept.guide.service past ≡ [] → IsServiceWithin kept.guide
    → IsRebuilt past (filling kept.guide) kept
filling_done past kept none within =
    let service = kept.guide.service in
    let name : Edit = Name service kept.guide.provider kept.guide.name in
    let named = past ++ name ∷ [] in
    let puts = put_edits service kept.guide.events in
    let replied : reply_over (standing service past) name ≡ reply.Done = ap name_reply (names_fine kept.guide.provider kept.guide.name within.names) in
    let empty : standing service named ≡ [] = standing-after past name replied (subst AreApart (sym none) tt) ∙ none in
    let filled = puts_fill named service [] kept.guide.events empty within.events in
    let whole : named ++ puts ≡ past ++ name ∷ puts = append_assoc past (name ∷ []) puts in
    record {
      accepted = (replied, filled.0);
      stands = λ s at feed. kept_is s (past ++ name ∷ puts) kept at feed
          (ap (names_of service (s.provider, s.name)) (sym whole) ∙ names_stay named service service (s.provider, s.name) kept.guide.events
          ∙ names-push service (s.provider, s.name) past name
          ∙ ap (λ (o : Option Names). unwrap_or o (names_of service (s.provider, s.name) past)) (cond-true (eqb service service) (Some (kept.guide.provider, kept.guide.name)) None (eq-eqb service service refl)))
          (ap (standing service) (sym whole) ∙ filled.1);
    }

cleared : (past : List Edit) (service : ℕ) → standing service (past ++ Clear service ∷ []) ≡ []
cleared past service =
    standing_is service (past ++ Clear service ∷ []) [] tt
    (λ id. sym (last_word-push service id past (Clear service) ∙ cond-true (eqb service service) None _ (eq-eqb service service refl)))

pub refilling_done : (past : List Edit) (kept : KeptService) → IsServiceWithin kept.guide → IsRebuilt past (refilling kept.guide) kept
refilling_done past kept within =
    let clear : Edit = Clear kept.guide.service in
    let filled = filling_done (past ++ clear ∷ []) kept (cleared past kept.guide.service) within in
    record {
      accepted = (refl, filled.accepted);
      stands = λ s at feed. ap (λ (p : List Edit). kept_after p s) (sym (append_assoc past (clear ∷ []) (filling kept.guide))) ∙ filled.stands s at feed;
    }

-- each of them is of the service
puts_own : (service : ℕ) (events : List Event) → AllByRecursion (λ (e : Edit). service_of e ≡ service) (put_edits service events)
puts_own service [] = tt
puts_own service (event ∷ events) = (refl, puts_own service events)

pub filling_own : (guide : ServiceGuide) → AllByRecursion (λ (e : Edit). service_of e ≡ guide.service) (filling guide)
filling_own guide = (refl, puts_own guide.service guide.events)

pub refilling_own : (guide : ServiceGuide) → AllByRecursion (λ (e : Edit). service_of e ≡ guide.service) (refilling guide)
refilling_own guide = (refl, filling_own guide)
