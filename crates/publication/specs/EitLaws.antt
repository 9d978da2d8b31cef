-- That the sections of event information can be sent, for the layers above.
use Rattle.std.specs.Prelude.{◌≡◌, ℕ, ◌<◌, ◌≤◌, List, length, Some}
use Rattle.std.specs.List.{AllByRecursion}
use Rattle.si_base.specs.Fields.{two_at}
use Rattle.guide_model.specs.declared.event.Event.{Event}
use Rattle.guide_model.specs.declared.guide.Guide.{Guide}
use Rattle.guide_model.specs.declared.guide.ServiceGuide.{ServiceGuide}
use Rattle.descriptors.specs.EventDescriptors.{entry_size}
use Rattle.si_time.specs.declared.moment.Moment.{Moment}
use Rattle.mux_model.specs.Fed.{fed_services}
use Rattle.mux_model.specs.declared.mux.Mux.{Mux}
use Rattle.journal_model.specs.declared.edit.Edit.{Edit}
use Rattle.journal_model.specs.Edits.{IsTypedEdit}
use Rattle.guide_limits.specs.Guides.{book_after, guide_of}
use Rattle.guide_limits.specs.Limits.{IsServiceWithin, IsGuideWithin}
use Rattle.section_codec.specs.declared.table.NumberedBody.{NumberedBody}
use Rattle.section_codec.specs.Contents.{last_number}
use Rattle.section_codec.specs.Segments.{segment_last_in, GoBySegments}
use Rattle.table_bodies.specs.declared.eit.Eit.{Eit}
use Rattle.table_bodies.specs.Eit.{IsTyped, eit_in}
use Rattle.publication.specs.Eit.{Bearer}
use Rattle.publication.specs.Present.{present_of}
use Rattle.publication.specs.Schedule.{schedule_of}

-- each of these events has an entry of at most 1,578 bytes
abbrev pub AreSmallEntries : List Event → Type 0
AreSmallEntries events = AllByRecursion (λ (event : Event). entry_size event ≤ 1578) events

abbrev pub HasSmallEntries : Guide → Type 0
HasSmallEntries guide = AllByRecursion (λ (s : ServiceGuide). AreSmallEntries s.events) guide.services

-- the events of a guide have what each value of the type Event has
abbrev pub HasTypedEvents : Guide → Type 0
HasTypedEvents guide = AllByRecursion (λ (s : ServiceGuide). AllByRecursion IsTyped s.events) guide.services

-- The entries of a guide within its limits are small.
abbrev pub TypedEntriesAreSmall : Type 0
TypedEntriesAreSmall = (guide : Guide) → IsGuideWithin guide → HasTypedEvents guide → HasSmallEntries guide

-- The events that stand after edits as they are read are such, where the guide is within its limits.
abbrev pub ReadEditsLeaveTypedEvents : Type 0
ReadEditsLeaveTypedEvents =
    (mux : Mux) (past : List Edit) (moment : Moment) → AllByRecursion IsTypedEdit past
    → IsGuideWithin (guide_of (book_after (fed_services mux) past) moment) → HasTypedEvents (guide_of (book_after (fed_services mux) past) moment)

-- Sections of event information that can be sent, and that describe themselves: what they ask a receiver for is exactly their numbers.
pub record AreEit (sections : List NumberedBody) : Type 0 where
  pub below : last_number sections < 256
  pub bodies : AllByRecursion (λ (s : NumberedBody). (6 ≤ length s.body) × (length s.body ≤ 4084)) sections
  pub by_segments : GoBySegments sections
  -- each has the last number of its segment, which is not above the last number of the table
  pub told : AllByRecursion (λ (s : NumberedBody). (n : ℕ) × (segment_last_in s.number s.body ≡ Some n) × (n ≤ last_number sections)) sections

-- The sections of present and following are such, at whatever moment, and so are those of each table of a schedule, from whatever day on.
abbrev pub PresentIsFit : Type 0
PresentIsFit = (b : Bearer) (moment : ℕ) (service : ServiceGuide) → AreSmallEntries service.events → AreEit (present_of b moment service).sections

abbrev pub ScheduleIsFit : Type 0
ScheduleIsFit =
    (b : Bearer) (day : ℕ) (service : ServiceGuide) (table : ℕ) → IsServiceWithin service → AreSmallEntries service.events
    → AreEit (schedule_of b day service table).sections

-- Each of their bodies is read as event information.
abbrev pub EventsAreRead : Type 0
EventsAreRead =
    (b : Bearer) (moment : ℕ) (service : ServiceGuide) (table : ℕ) → b.stream < 65536 → b.original < 65536 → IsServiceWithin service → AllByRecursion IsTyped service.events
    → AllByRecursion (λ (s : NumberedBody). (eit : Eit) × (eit_in s.body ≡ Some eit)) (present_of b moment service).sections
    × AllByRecursion (λ (s : NumberedBody). (eit : Eit) × (eit_in s.body ≡ Some eit)) (schedule_of b moment service table).sections

-- a body that names a stream: it begins with transport_stream_id and original_network_id
abbrev pub Names : Bearer → List ℕ → Type 0
Names b body = (two_at 0 body ≡ b.stream) × (two_at 2 body ≡ b.original)

-- All of them name their stream.
abbrev pub EventsNameTheStream : Type 0
EventsNameTheStream =
    (b : Bearer) (moment : ℕ) (service : ServiceGuide) (table : ℕ) → b.stream < 65536 → b.original < 65536
    → AllByRecursion (λ (s : NumberedBody). Names b s.body) (present_of b moment service).sections
    × AllByRecursion (λ (s : NumberedBody). Names b s.body) (schedule_of b moment service table).sections
