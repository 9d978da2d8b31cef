use Rattle.std.proofs.Common.{arith}
use Rattle.epg_soak.proofs.JournalCounts.{done_few}
use Rattle.epg_soak.proofs.summary.put_journal.Goals as goal

pub overflow_sub-edits : goal.overflow_sub-edits
overflow_sub-edits c = omega (arith, c.edit_count-edits.ensures, c.done_count-done.ensures, done_few c.args.entries.now)
