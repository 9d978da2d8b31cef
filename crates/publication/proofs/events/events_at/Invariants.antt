use Rattle.std.proofs.Common.{◌≡◌, ◌≤◌, map, take}
use Rattle.std.specs.List.{All}
use Rattle.eit_segments.specs.declared.event.EventAt.{EventAt}
use Rattle.eit_segments.specs.Laws.{at_of}
use Rattle.publication.proofs.events.events_at.Given as goal

-- the events so far have their places
abbrev pub invariant-loop-event : goal.invariant-loop-event
invariant-loop-event l = record {
  events : l.at.items ≡ map at_of (take l.event-index l.events);
  small : All (λ (e : EventAt). e.size ≤ 1578) l.at.items;
}
