use Rattle.std.proofs.Common.{rules, ◌≡◌, ◌<◌, ◌≤◌, ◌+◌, ℕ, List, [], ◌∷◌, ◌++◌, length, map, take, get_or, sym, ap, ◌∙◌, subst}
use Rattle.std.specs.List.{All}
use Rattle.std.proofs.lemmas.List.{take_more, map-append}
use Rattle.std.proofs.lemmas.List.Elements.{All-push}
use Rattle.guide_model.specs.declared.event.Event.{Event}
use Rattle.eit_segments.specs.declared.event.EventAt.{EventAt}
use Rattle.eit_segments.specs.Laws.{at_of}
use Rattle.publication.proofs.events.events_at.Goals as goal

-- the places of the events so far, and of the next one
places_more : (events : List Event) (i : ℕ) (event : Event) → i < length events → event ≡ get_or events i event
    → map at_of (take i events) ++ at_of event ∷ [] ≡ map at_of (take (i + 1) events)
places_more events i event within here =
    let more : take (i + 1) events ≡ take i events ++ event ∷ [] = take_more events i event within ∙ ap (λ (e : Event). take i events ++ e ∷ []) (sym here) in
    sym (ap (map at_of) more ∙ map-append at_of (take i events) (event ∷ []))

IsSmall : EventAt → Type 0
IsSmall e = e.size ≤ 1578

pub loop-event-preserved : goal.loop-event-preserved
unfolding IsSmall
loop-event-preserved c =
    let pushed : c.push.new.self.items ≡ c.loop-event.at.items ++ c.event_at.result ∷ [] = search rules in
    record {
      events =
          pushed ∙ ap (λ (at : List EventAt). at ++ c.event_at.result ∷ []) c.loop-event.invariant.events
          ∙ ap (λ (e : EventAt). map at_of (take c.loop-event.event-index c.args.events.now) ++ e ∷ []) c.event_at.ensures.event
          ∙ places_more c.args.events.now c.loop-event.event-index c.event-item.result c.loop-event-test.true c.event-item.is;
      small =
          subst (All IsSmall) (sym pushed)
          (All-push IsSmall c.loop-event.at.items c.event_at.result c.loop-event.invariant.small c.event_at.ensures.small);
    }
