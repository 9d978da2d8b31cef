-- The index of a service's events: of each event what the rules look at.
use Rattle.std.specs.Prelude.{◌≡◌, ℕ, ◌+◌, ◌<◌, ◌≤◌, ◌^◌, Bool, not, ◌&&◌, ◌==◌, nat_lt, List, if◌then◌else◌, Option, None, option_map, find, length, map, sum_by, count_by}
use Rattle.std.specs.List.{All, AllByRecursion}
use Rattle.std.specs.List.Sorted.{IsNonDecreasingBy}
use Rattle.guide_model.specs.declared.event.Event.{Event}
use Rattle.guide_model.specs.declared.guide.ServiceGuide.{ServiceGuide}
use Rattle.feed_book.specs.declared.index.IndexedEvent.{IndexedEvent}
use Rattle.journal_model.specs.declared.reply.DayFault.{DayFault}
use Rattle.journal_model.specs.declared.reply.DayFault.TheVariants as fault
use Rattle.journal_model.specs.declared.reply.Field.TheVariants as field
use Rattle.descriptors.specs.EventDescriptors.{entry_size}
use Rattle.guide_limits.specs.Events.{start_of, block_of}
use Rattle.guide_limits.specs.Standing.{or_else}
use Rattle.feed_book.specs.Replies.{refused_if}
use Rattle.guide_limits.specs.Limits.{AreWithin, AreNamesWithin}

abbrev pub slot_of : Event → IndexedEvent
slot_of event = record { id = event.id; start = start_of event; seconds = event.seconds; size = entry_size event }

-- another event's slot that has an instant in common with this one
abbrev pub is_in_the_way : IndexedEvent → IndexedEvent → Bool
is_in_the_way slot other = not (other.id == slot.id) && (nat_lt other.start (slot.start + slot.seconds) && nat_lt slot.start (other.start + other.seconds))

abbrev pub other_ids : ℕ → IndexedEvent → Bool
other_ids id slot = not (slot.id == id)

-- what another slot adds to a block
abbrev pub share_of : IndexedEvent → IndexedEvent → ℕ
share_of slot other = if not (other.id == slot.id) && block_of other.start == block_of slot.start then other.size else 0

-- the rules on the place of an event, by the index
abbrev pub slot_fault : List IndexedEvent → IndexedEvent → Option DayFault
slot_fault slots slot =
    let count = 1 + count_by (other_ids slot.id) slots in
    let size = slot.size + sum_by (share_of slot) slots in
    or_else (option_map (λ (other : IndexedEvent). fault.Overlap other.id) (find (is_in_the_way slot) slots)) (
    refused_if (nat_lt 2000 count) (fault.Range (field.Count count)) (
    refused_if (nat_lt 20000 size) (fault.Range (field.Segment size)) None))

-- slots in order of their starts and of their ends, few and small enough to be added up
pub record AreSearchable (slots : List IndexedEvent) : Type 0 where
  pub few : length slots ≤ 2000
  pub early : All (λ (slot : IndexedEvent). slot.start < 2 ^ 63) slots
  pub small : All (λ (slot : IndexedEvent). slot.size ≤ 1578) slots
  pub starts : IsNonDecreasingBy (λ (slot : IndexedEvent). slot.start) slots
  pub ends : IsNonDecreasingBy (λ (slot : IndexedEvent). slot.start + slot.seconds) slots

-- the index is that of these events, which are within their limits
pub record AreIndexed (events : List Event) (slots : List IndexedEvent) : Type 0 where
  pub within : AreWithin events
  pub index : slots ≡ map slot_of events
  pub small : AllByRecursion (λ (event : Event). entry_size event ≤ 1578) events

-- a service with its index
pub record IsIndexed (guide : ServiceGuide) (slots : List IndexedEvent) : Type 0 where
  pub names : AreNamesWithin guide.provider guide.name
  pub events : AreIndexed guide.events slots
