-- The events that are shown once all edits of the made load were made.
use Rattle.std.specs.Prelude.{◌≡◌, ℕ, ◌+◌, List, length}
use Rattle.std.specs.List.{sum_by}
use Rattle.guide_model.specs.declared.screen.ScreenService.{ScreenService}
use Rattle.guide_model.specs.declared.screen.Screen.{Screen}
use Rattle.journal_model.specs.declared.step.Entry.{Entry}
use Rattle.desk_core.specs.Publications.{guide_after}
use Rattle.journal_air.specs.Screen.{screen_of}
use Rattle.si_workload.specs.Texts.{feed_text}
use Rattle.epg_soak.specs.WorkloadLoad.{soak_mux}
use Rattle.epg_soak.specs.Journals.{item_lines}
use Rattle.epg_soak.specs.Callers.{IsSoakRun}

-- how many events a screen has: those of the schedules, each of which is an `event` line of the text of a guide
abbrev pub shown_events : Screen → ℕ
shown_events screen = sum_by (λ (s : ScreenService). length s.events) screen.services

-- What is published behind all edits of such a run shows just as many events as the texts of the feeds have lines of items.
abbrev pub SoakRunsAreShown : Type 0
SoakRunsAreShown =
    (number : ℕ) (journal : List Entry) → IsSoakRun number journal → (clock : ℕ)
    → shown_events (screen_of soak_mux (guide_after soak_mux journal) clock) ≡ item_lines (feed_text number 1) + item_lines (feed_text number 2)
