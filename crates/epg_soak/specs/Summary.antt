-- The summary of a run of a load.
use Rattle.std.specs.Prelude.{ℕ, ◌+◌, ◌-◌, List, ◌++◌, length, Option, None, Some, codes, decimal}
use Rattle.guide_screen.specs.declared.need.Heard.{Heard}
use Rattle.guide_screen.specs.declared.need.Heard.TheVariants.{Whole, Wanting}
use Rattle.journal_model.specs.declared.step.Entry.{Entry}
use Rattle.desk_core.specs.Journal.{accepted}
use Rattle.si_workload.specs.Texts.{feed_text}
use Rattle.epg_soak.specs.Journals.{edits_in, item_lines}
use Rattle.epg_soak.specs.Events.{shown_events}

-- a word and a number
abbrev pub count_line : List ℕ → ℕ → List ℕ
count_line word n = word ++ codes " " ++ decimal n ++ codes "\n"

-- how many events a guide shows; none where it is wanting
abbrev pub events_shown : Option Heard → ℕ
events_shown None = 0
events_shown (Some (Wanting needs)) = 0
events_shown (Some (Whole screen)) = shown_events screen

abbrev pub guide_line : Option Heard → List ℕ
guide_line None = codes "guide wanting\n"
guide_line (Some (Wanting needs)) = codes "guide wanting\n"
guide_line (Some (Whole screen)) = codes "guide whole\n"

-- the lines of the journal: its edits, those that are done, the others, and all entries
abbrev pub journal_lines : List Entry → List ℕ
journal_lines journal =
    count_line (codes "edits") (length (edits_in journal)) ++ count_line (codes "done") (length (accepted journal))
    ++ count_line (codes "refused") (length (edits_in journal) - length (accepted journal)) ++ count_line (codes "entries") (length journal)

abbrev pub guide_lines : Option Heard → List ℕ
guide_lines guide = count_line (codes "events") (events_shown guide) ++ guide_line guide

-- what is said of this journal, and of the guide that was heard
abbrev pub summary_text : List Entry → Option Heard → List ℕ
summary_text journal guide = codes "services 8\n" ++ journal_lines journal ++ guide_lines guide

-- The summary of the load with this number: each edit is done, and the guide is whole and shows as many events as the feeds' texts have items.
abbrev pub soak_summary : ℕ → List ℕ
soak_summary number =
    codes "services 8\n" ++ count_line (codes "edits") 120 ++ count_line (codes "done") 120 ++ count_line (codes "refused") 0
    ++ count_line (codes "entries") 132 ++ count_line (codes "events") (item_lines (feed_text number 1) + item_lines (feed_text number 2))
    ++ codes "guide whole\n"
