use Rattle.std.proofs.Common.{◌≡◌, take}
use Rattle.std.specs.List.{AllByRecursion}
use Rattle.journal_text.specs.Back.{IsWritten}
use Rattle.journal_text.specs.Entries.{journal_text}
use Rattle.epg_report.proofs.journal.text_of.Given as goal

abbrev pub invariant-loop-entry : goal.invariant-loop-entry
invariant-loop-entry l = record {
  text : l.text.items ≡ journal_text (take l.entry-index l.entries);
  written : AllByRecursion IsWritten (take l.entry-index l.entries);
}
