-- The text of a checkpoint.
use Rattle.std.specs.Prelude.{ℕ, ◌+◌, ◌<◌, ◌++◌, Bool, true, false, List, [], Option, Some, None, flat_map, map, codes}
use Rattle.std.specs.List.{AllByRecursion}
use Rattle.section_codec.specs.declared.table.Key.{Key}
use Rattle.section_codec.specs.declared.table.NumberedBody.{NumberedBody}
use Rattle.version_book.specs.Book.{GivenVersion, GivenVersions}
use Rattle.ts_packets.specs.declared.pid_counter.PidCounter.{PidCounter}
use Rattle.ts_packets.specs.PidCounters.{kept_from}
use Rattle.cycle_timing.specs.Clock.{Clock}
use Rattle.cycle_player.specs.Sending.{Sending}
use Rattle.guide_model.specs.declared.event.Event.{Event}
use Rattle.guide_model.specs.declared.guide.ServiceGuide.{ServiceGuide}
use Rattle.mux_model.specs.Fed.{FedService, feed_of}
use Rattle.journal_model.specs.declared.edit.Edit.{Edit}
use Rattle.journal_model.specs.declared.edit.Edit.TheVariants.{Put}
use Rattle.journal_model.specs.declared.step.Step.TheVariants.{Edit as edit}
use Rattle.journal_model.specs.Steps.{Command}
use Rattle.desk_core.specs.Journal.{publishes}
use Rattle.desk_core.specs.Publications.{guide_after, publication}
use Rattle.desk_core.specs.Desks.{DeskState}
use Rattle.journal_text.specs.Lines.{line_text}
use Rattle.journal_text.specs.Commands.{command_text}
use Rattle.desk_checkpoint.specs.Items.{event_item, filling, refilling}
use Rattle.desk_checkpoint.specs.Steps.{steps_of}
use Rattle.desk_checkpoint.specs.Fields.{clock_fields, count_fields, counter_fields, section_fields, version_fields}

abbrev pub step_text : Command → List ℕ
step_text command = command_text command.0 command.1

-- the edits of a feed, asked by caller 0
abbrev pub feed_steps : ℕ → List Edit → List Command
feed_steps feed edits = map (λ (e : Edit). (0, edit feed e)) edits

-- the edits that make a service, after a clear or not
abbrev pub edits_of : Bool → ServiceGuide → List Edit
edits_of true guide = refilling guide
edits_of false guide = filling guide

abbrev pub steps_text : List Command → List ℕ
steps_text steps = flat_map step_text steps

-- the put of an event of a service
abbrev pub put_text : ℕ → ℕ → Event → List ℕ
put_text feed service event = step_text (0, edit feed (Put service (event_item event)))

-- the steps of a service, as of the feed that owns it
abbrev pub service_text : Bool → List FedService → ServiceGuide → List ℕ
service_text clears services guide = steps_text (feed_steps (feed_of services guide.service) (edits_of clears guide))

abbrev pub section_text : NumberedBody → List ℕ
section_text section = line_text (section_fields section)

-- a key with what it was last given: its version, and then the sections of its content
abbrev pub key_text : Key × GivenVersion → List ℕ
key_text entry = line_text (version_fields entry.0 entry.1.version) ++ flat_map section_text entry.1.content

-- each number of a list is a byte
abbrev pub AreBytes : List ℕ → Type 0
AreBytes numbers = AllByRecursion (λ (n : ℕ). n < 256) numbers

-- the bodies of its sections are of bytes
abbrev pub HasByteContent : Key × GivenVersion → Type 0
HasByteContent entry = AllByRecursion (λ (section : NumberedBody). AreBytes section.body) entry.1.content

-- each section's body is of bytes
abbrev pub HasByteBodies : GivenVersions → Type 0
HasByteBodies keys = AllByRecursion HasByteContent keys

abbrev pub counter_text : PidCounter → List ℕ
counter_text counter = line_text (counter_fields counter)

-- the clock, which is written where there is a bit rate
abbrev pub clock_text : Option ℕ → Clock → List ℕ
clock_text None clock = []
clock_text (Some rate) clock = line_text (clock_fields clock)

-- the parts of a checkpoint, each on its lines: how many publications there are, the clock, steps,
-- keys, counters, and the end
abbrev pub checkpoint_text : ℕ → Option ℕ → Clock → List Command → GivenVersions → List PidCounter
    → List ℕ
checkpoint_text count rate clock steps keys counters =
    line_text (count_fields count) ++ clock_text rate clock ++ steps_text steps
    ++ flat_map key_text keys ++ flat_map counter_text counters ++ codes "end\n"

-- the steps that a desk leaves after a checkpoint whose count was greater by the shift
abbrev pub desk_steps : ℕ → DeskState → List Command
desk_steps shift desk =
    let count = publishes desk.entries in
    steps_of desk.mux (shift + count) (publication desk.mux desk.entries count) (guide_after desk.mux desk.entries)

-- the checkpoint of a desk and of a player at its end, with the clock where the desk's multiplex
-- has a bit rate
abbrev pub start_text : ℕ → DeskState → Sending → List ℕ
start_text shift desk player =
    checkpoint_text (shift + publishes desk.entries) desk.mux.rate player.clock
    (desk_steps shift desk) player.book (kept_from 0 player.counters)
