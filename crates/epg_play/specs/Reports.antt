-- What a report of `play` tells: its journal, the line on its bit rate, and how it ends.
use Rattle.std.specs.Prelude.{◌≡◌, ◌++◌, List, Option, Some, None}
use Rattle.std.specs.List.{AllByRecursion}
use Rattle.mux_model.specs.declared.mux.Mux.{Mux}
use Rattle.journal_model.specs.declared.step.Entry.{Entry}
use Rattle.journal_text.specs.Back.{IsOfLines}
use Rattle.journal_text.specs.Entries.{journal_text}
use Rattle.epg_play.specs.declared.stop.PlayStop.{PlayStop}
use Rattle.epg_play.specs.Leaves.{ending_text, rates_for, report_text}

-- Two reports tell the same: one journal, one line on the bit rate and one fault line, if any.
pub record TellTheSame (one other : Option Mux) (a b : List Entry) (s t : Option PlayStop)
    : Type 0 where
  pub journal : a ≡ b
  pub rates : rates_for one a ≡ rates_for other b
  pub ending : ending_text s ≡ ending_text t

-- Reports that are one tell the same, whatever their multiplexes: neither the line on the bit rate
-- nor the fault line goes on with a journal. The edits of both journals were read from lines.
abbrev pub ReportsTellJournals : Type 0
ReportsTellJournals =
    (one other : Option Mux) (a b : List Entry) (s t : Option PlayStop)
    → AllByRecursion IsOfLines a → AllByRecursion IsOfLines b
    → report_text one a ++ ending_text s ≡ report_text other b ++ ending_text t
    → TellTheSame one other a b s t

-- Without a bit rate a report is the text of its journal.
abbrev pub PlainReportsAreJournals : Type 0
PlainReportsAreJournals =
    (mux : Mux) (journal : List Entry) → mux.rate ≡ None
    → report_text (Some mux) journal ≡ journal_text journal
