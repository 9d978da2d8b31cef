-- Events within their limits can be placed and coded.
use Rattle.std.proofs.Common.{◌≡◌, ℕ, ◌*◌, ◌≤◌, List, [], ◌∷◌, map, sym, ap, ◌∙◌, subst, arith}
use Rattle.std.specs.List.{AllByRecursion, All}
use Rattle.std.specs.Prelude.{Option, Some, None, drop}
use Rattle.std.proofs.lemmas.List.Elements.{All-from_recursion, recursion_from_All, All-take, All-drop}
use Rattle.si_lists.proofs.Lists.{all_map}
use Rattle.guide_model.specs.declared.event.Event.{Event}
use Rattle.descriptors.specs.EventDescriptors.{IsWithinLimits}
use Rattle.guide_limits.specs.Events.{end_of}
use Rattle.guide_limits.specs.Limits.{IsEventWithin, AreWithin}
use Rattle.table_bodies.specs.Eit.{IsCodable}
use Rattle.eit_segments.specs.declared.event.EventAt.{EventAt}
use Rattle.eit_segments.specs.Schedule.{CanBePlaced}
use Rattle.eit_segments.specs.Laws.{at_of}
use Rattle.eit_segments.proofs.Few.{events_can_be_placed}
use Rattle.publication.specs.Present.{event_at}
use Rattle.publication.specs.EitLaws.{AreSmallEntries}

codable : (e : Event) → IsEventWithin e → IsCodable e
codable e within =
    let window : end_of e ≤ 65536 * 86400 = within.window in
    record {
      start = omega (arith, window, within.lasts.0);
      seconds = omega (arith, within.lasts.1);
      limits = within.limits;
    }

pub all_codable : (es : List Event) → AllByRecursion IsEventWithin es → All IsCodable es
all_codable es within = All-from_recursion IsCodable es (all_map IsEventWithin IsCodable codable es within)

pub all_limits : (es : List Event) → AllByRecursion IsEventWithin es → All IsWithinLimits es
all_limits es within = All-from_recursion IsWithinLimits es (all_map IsEventWithin IsWithinLimits (λ e w. w.limits) es within)

sizes_of : (es : List Event) → AllByRecursion (λ (e : EventAt). e.size ≤ 1578) (map at_of es) → AreSmallEntries es
sizes_of [] h = tt
sizes_of (e ∷ es) h = (h.0, sizes_of es h.1)

pub small_entries : (es : List Event) (at : List EventAt) → at ≡ map at_of es → All (λ (e : EventAt). e.size ≤ 1578) at → AreSmallEntries es
small_entries es at is small =
    sizes_of es (recursion_from_All (λ (e : EventAt). e.size ≤ 1578) (map at_of es) (subst (λ (l : List EventAt). All (λ (e : EventAt). e.size ≤ 1578) l) is small))

pub placed : (es : List Event) (at : List EventAt) → at ≡ map at_of es → AreWithin es → All (λ (e : EventAt). e.size ≤ 1578) at → CanBePlaced at
placed es at is within small = subst CanBePlaced (sym is) (events_can_be_placed es within (small_entries es at is small))

-- the same of lists that are read from memory
pub places_in : (es slice : List Event) (items at : List EventAt) → at ≡ items → items ≡ map at_of slice → slice ≡ es → at ≡ map at_of es
places_in es slice items at read made is = read ∙ made ∙ ap (map at_of) is

pub placed_in : (es slice : List Event) (items at : List EventAt) → at ≡ items → items ≡ map at_of slice → slice ≡ es → AreWithin es → All (λ (e : EventAt). e.size ≤ 1578) items → CanBePlaced at
placed_in es slice items at read made is within small =
    placed es at (places_in es slice items at read made is) within (subst (λ (l : List EventAt). All (λ (e : EventAt). e.size ≤ 1578) l) (sym read) small)

pub codable_at : (place : Option ℕ) (es got : List Event) → got ≡ event_at place es → All IsCodable es → All IsCodable got
codable_at None es got is all = subst (All IsCodable) (sym is) (All-from_recursion IsCodable [] tt)
codable_at (Some i) es got is all = subst (All IsCodable) (sym is) (All-take IsCodable 1 (drop i es) (All-drop IsCodable i es all))
