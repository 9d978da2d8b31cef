use Rattle.std.proofs.Common.{◌+◌, ◌∙◌, ℕ, sym, ap, arith}
use Rattle.journal_model.specs.declared.step.Entry.{Entry}
use Rattle.desk_core.specs.Journal.{accepted_by}
use Rattle.si_lists.proofs.Counting.{counts_more, counts_same}
use Rattle.epg_soak.proofs.summary.done_count.Goals.{then-is_done, else-is_done}
use Rattle.epg_soak.proofs.summary.done_count.Goals as goal

pub loop-entry-preserved : goal.loop-entry-preserved
loop-entry-preserved c =
    let entries = c.args.entries.now in
    let i = c.loop-entry.entry-index in
    let entry = c.entry-item.result in
    let held = c.loop-entry.invariant in
    elim c.if-is_done.branch [
      | then-is_done w ↦ (
        w.count-is ∙ ap (λ (n : ℕ). n + 1) held.0
            ∙ sym (counts_more (λ (entry : Entry). accepted_by entry.step entry.outcome) entries i entry c.loop-entry-test.true c.entry-item.is (sym c.is_done.ensures ∙ w.if-is_done.true)),
        omega (arith, w.count-is, held.1),
      )
      | else-is_done w ↦ (
        w.count-is ∙ held.0 ∙ sym (counts_same (λ (entry : Entry). accepted_by entry.step entry.outcome) entries i entry c.loop-entry-test.true c.entry-item.is (sym c.is_done.ensures ∙ w.if-is_done.false)),
        omega (arith, w.count-is, held.1),
      )
    ]
