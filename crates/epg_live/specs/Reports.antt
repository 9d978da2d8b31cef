-- What a report of `live` tells: its journal, which is a script that prints it again.
use Rattle.std.specs.Prelude.{◌≡◌, ◌≤◌, ℕ, List, ◌++◌, length, Ok}
use Rattle.std.specs.List.{AllByRecursion}
use Rattle.si_causes.specs.Text.{text_limit}
use Rattle.mux_model.specs.declared.mux.Mux.{Mux}
use Rattle.mux_config.specs.Texts.{described}
use Rattle.input_lines.specs.Ahead.{Ahead, Came}
use Rattle.journal_model.specs.declared.step.Entry.{Entry}
use Rattle.journal_text.specs.Back.{IsOfLines, IsReadable}
use Rattle.journal_text.specs.Entries.{journal_text}
use Rattle.epg_report.specs.declared.status.Status.{Status}
use Rattle.epg_report.specs.Texts.{fault_lines}
use Rattle.epg_play.specs.Script.{script_in}
use Rattle.epg_play.specs.Again.{Describes, PlaysAgain}
use Rattle.epg_live.specs.declared.reporting.Observed.{Observed}
use Rattle.epg_live.specs.Ends.{observed_text, run_text}

-- After each description of the multiplex that this text describes, the text of this journal is a script that prints it again, where its
-- entries can be read.
abbrev pub IsScript : List ℕ → List Entry → Type 0
IsScript text journal =
    (mux : Mux) (behind : Ahead) (block : List ℕ) → described text ≡ Came (Ok mux) behind → Describes block mux → AllByRecursion IsReadable journal
    → length (block ++ journal_text journal) ≤ text_limit → PlaysAgain mux journal (script_in (block ++ journal_text journal))

-- Reports that are one have one journal, and one text after it: no other line of a report begins as an entry does. The edits of both
-- journals were read from lines.
abbrev pub LiveReportsTellJournals : Type 0
LiveReportsTellJournals =
    (a b : List Entry) (o p : Observed) (s t : Status) → AllByRecursion IsOfLines a → AllByRecursion IsOfLines b
    → run_text a o ++ fault_lines s ≡ run_text b p ++ fault_lines t
    → (a ≡ b) × (observed_text o ++ fault_lines s ≡ observed_text p ++ fault_lines t)
