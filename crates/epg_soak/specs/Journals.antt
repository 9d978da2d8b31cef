-- Journals of the made load: each edit is done, and at the end the guide has just the events of all items.
use Rattle.std.specs.Prelude.{Bool, take, codes, bytes_eq, ◌≡◌, ◌≤◌, ℕ, ◌+◌, ◌==◌, List, ◌++◌, length, Option, Some, None, if◌then◌else◌}
use Rattle.std.specs.List.{AllByRecursion, filter, filter_map, sum_by}
use Rattle.si_causes.specs.Text.{text_lines}
use Rattle.si_time.specs.declared.moment.Moment.{Moment}
use Rattle.guide_model.specs.declared.guide.ServiceGuide.{ServiceGuide}
use Rattle.guide_model.specs.declared.guide.Guide.{Guide}
use Rattle.mux_model.specs.Fed.{fed_services}
use Rattle.journal_model.specs.declared.edit.Edit.{Edit}
use Rattle.journal_model.specs.declared.reply.Reply.TheVariants.{Done}
use Rattle.journal_model.specs.declared.step.Step.{Step}
use Rattle.journal_model.specs.declared.step.Step.TheVariants.{Edit as edit, Tick, Publish, Swap}
use Rattle.journal_model.specs.declared.step.Outcome.{Outcome}
use Rattle.journal_model.specs.declared.step.Outcome.TheVariants.{Edited}
use Rattle.journal_model.specs.declared.step.Entry.{Entry}
use Rattle.guide_limits.specs.Guides.{book_after, guide_of}
use Rattle.desk_core.specs.Journal.{Legal, accepted}
use Rattle.si_workload.specs.Texts.{feed_text}
use Rattle.epg_soak.specs.WorkloadLoad.{soak_mux, soak_edits}

-- the edit of a step, where it is one of this feed
abbrev pub edit_of : ℕ → Step → Option Edit
edit_of of_feed (edit feed e) = if feed == of_feed then Some e else None
edit_of of_feed (Tick at) = None
edit_of of_feed Publish = None
edit_of of_feed Swap = None

-- a feed's edits in a journal, in their order
abbrev pub edits_by : ℕ → List Entry → List Edit
edits_by feed journal = filter_map (λ (entry : Entry). edit_of feed entry.step) journal

-- these edits are the first of a feed of the load
abbrev pub AreFirst : ℕ → ℕ → List Edit → Type 0
AreFirst number feed edits = (rest : List Edit) × (soak_edits number feed ≡ edits ++ rest)

-- an edit is one of feed 1 or 2
abbrev pub IsOfFeeds : Step → Type 0
IsOfFeeds (edit feed e) = (1 ≤ feed) × (feed ≤ 2)
IsOfFeeds (Tick at) = Unit {0}
IsOfFeeds Publish = Unit {0}
IsOfFeeds Swap = Unit {0}

-- A legal journal over the multiplex of the load, in which each feed has made its first edits in their order; ticks, publishes and swaps
-- stand anywhere between them.
pub record IsSoakJournal (number : ℕ) (journal : List Entry) : Type 0 where
  pub legal : Legal soak_mux journal
  pub feeds : AllByRecursion (λ (entry : Entry). IsOfFeeds entry.step) journal
  pub first : AreFirst number 1 (edits_by 1 journal)
  pub second : AreFirst number 2 (edits_by 2 journal)

-- an edit has the outcome done
abbrev pub IsDoneStep : Step → Outcome → Type 0
IsDoneStep (edit feed e) outcome = outcome ≡ Edited Done
IsDoneStep (Tick at) outcome = Unit {0}
IsDoneStep Publish outcome = Unit {0}
IsDoneStep Swap outcome = Unit {0}

-- Each edit of such a journal is done.
abbrev pub MadeEditsAreDone : Type 0
MadeEditsAreDone =
    (number : ℕ) (journal : List Entry) → IsSoakJournal number journal
    → AllByRecursion (λ (entry : Entry). IsDoneStep entry.step entry.outcome) journal

-- the edit of a step
abbrev pub edit_in : Step → Option Edit
edit_in (edit feed e) = Some e
edit_in (Tick at) = None
edit_in Publish = None
edit_in Swap = None

-- all edits of a journal, in their order
abbrev pub edits_in : List Entry → List Edit
edits_in journal = filter_map (λ (entry : Entry). edit_in entry.step) journal

-- how many events a guide has
abbrev pub event_count : Guide → ℕ
event_count guide = sum_by (λ (s : ServiceGuide). length s.events) guide.services

-- a line that begins with `item,`
abbrev pub is_item : List ℕ → Bool
is_item line = bytes_eq (take 5 line) (codes "item,")

-- how many such lines a text has
abbrev pub item_lines : List ℕ → ℕ
item_lines text = length (filter is_item (text_lines text).0)

-- Once all edits of both feeds were made there are 120, all of them accepted, and the guide has just as many events as the texts of the feeds
-- have lines of items.
pub record IsCounted (number : ℕ) (journal : List Entry) : Type 0 where
  pub edits : length (edits_in journal) ≡ 120
  pub done : length (accepted journal) ≡ 120
  pub events : (moment : Moment)
      → event_count (guide_of (book_after (fed_services soak_mux) (accepted journal)) moment) ≡ item_lines (feed_text number 1) + item_lines (feed_text number 2)

abbrev pub MadeJournalsAreCounted : Type 0
MadeJournalsAreCounted =
    (number : ℕ) (journal : List Entry) → IsSoakJournal number journal → edits_by 1 journal ≡ soak_edits number 1
    → edits_by 2 journal ≡ soak_edits number 2 → IsCounted number journal
