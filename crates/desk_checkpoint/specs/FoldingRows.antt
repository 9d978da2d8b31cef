-- Worked checkpoints: of a journal without an entry, of one with a publish, and of one whose event was withdrawn after it.
use Rattle.std.specs.Prelude.{◌≡◌, List, [], ◌∷◌, Some, map, refl, codes}
use Rattle.si_time.specs.Readings.{readings_compute}
use Rattle.si_time.specs.Moments.{moments_compute}
use Rattle.guide_model.specs.declared.event.Event.{Event}
use Rattle.mux_model.specs.Rows.{row_mux, row_start}
use Rattle.journal_model.specs.declared.edit.Edit.TheVariants.{Name, Clear, Put, Withdraw}
use Rattle.journal_model.specs.declared.reply.Reply.TheVariants.{Done}
use Rattle.journal_model.specs.declared.step.Step.TheVariants.{Edit as edit, Tick, Publish}
use Rattle.journal_model.specs.declared.step.Outcome.TheVariants.{Edited, Ticked, Late, Published, Swapped}
use Rattle.journal_model.specs.declared.step.Entry.{Entry}
use Rattle.journal_model.specs.Rows.{row_journal}
use Rattle.desk_checkpoint.specs.Items.{event_item}
use Rattle.desk_checkpoint.specs.Steps.{checkpoint_steps, folded, shift_of}
use Rattle.journal_model.specs.Raising.{raised}

-- nothing was published: the names of the multiplex, and no event
row_empty : checkpoint_steps row_mux []
    ≡ (0, edit 1 (Clear 101)) ∷ (0, edit 1 (Name 101 (codes "Acme") (codes "One"))) ∷ (0, Tick row_start) ∷ []
row_empty = refl

-- the latest publication, and then what stands
row_published : checkpoint_steps row_mux row_journal
    ≡ (0, edit 1 (Name 101 (codes "Acme") (codes "News"))) ∷ (0, Tick row_start) ∷ (0, Publish)
    ∷ (0, edit 1 (Clear 101)) ∷ (0, edit 1 (Name 101 (codes "Acme") (codes "News"))) ∷ (0, Tick row_start) ∷ []
row_published = refl

-- a fresh desk takes each of these steps
row_taken : map (λ (entry : Entry). entry.outcome) (folded row_mux row_journal)
    ≡ Edited Done ∷ Ticked ∷ Published 1 ∷ Edited Done ∷ Edited Done ∷ Ticked ∷ []
row_taken = refl

-- an event of 13 October 1993, 12:45:00, that lasts half an hour, as the book keeps it and as the item gives it
abbrev row_event : Event
row_event = record {
  id = 7;
  start = record { 0 = 4257233100 };
  seconds = 1800;
  language = codes "eng";
  name = codes "News";
  short = [];
  extended = [];
  rating = Some (record { country = codes "GBR"; value = 4 });
  genres = [];
  descriptors = [];
}

row_item : event_item row_event ≡ record {
  id = 7;
  start = record { 0 = codes "1993-10-13T12:45:00Z" };
  length = record { 0 = codes "00:30:00" };
  language = codes "eng";
  name = codes "News";
  short = [];
  extended = [];
  rating = Some (record { country = codes "GBR"; value = 4 });
  genres = [];
  descriptors = [];
}
unfolding moments_compute
row_item = refl

-- the event is of the publication, and stands no longer
abbrev row_withdrawn : List Entry
row_withdrawn =
    record { who = 2; step = edit 1 (Put 101 (event_item row_event)); outcome = Edited Done }
    ∷ record { who = 0; step = Publish; outcome = Published 1 }
    ∷ record { who = 2; step = edit 1 (Withdraw 101 7); outcome = Edited Done }
    ∷ []

row_events : checkpoint_steps row_mux row_withdrawn
    ≡ (0, edit 1 (Name 101 (codes "Acme") (codes "One"))) ∷ (0, edit 1 (Put 101 (event_item row_event))) ∷ (0, Tick row_start) ∷ (0, Publish)
    ∷ (0, edit 1 (Clear 101)) ∷ (0, edit 1 (Name 101 (codes "Acme") (codes "One"))) ∷ (0, Tick row_start) ∷ []
unfolding readings_compute
row_events = refl

-- numbers of publications are raised by the count less 1, and by 0 where there is none
row_shifts : map shift_of (0 ∷ 1 ∷ 2 ∷ 5 ∷ []) ≡ 0 ∷ 0 ∷ 1 ∷ 4 ∷ []
row_shifts = refl

row_raised : map (raised 4) (Edited Done ∷ Ticked ∷ Late row_start ∷ Published 2 ∷ Swapped 1 row_start ∷ [])
    ≡ Edited Done ∷ Ticked ∷ Late row_start ∷ Published 6 ∷ Swapped 5 row_start ∷ []
row_raised = refl
