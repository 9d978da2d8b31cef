use Rattle.std.proofs.Common.{◌+◌, ◌∙◌, ℕ, sym, ap, arith}
use Rattle.journal_model.specs.declared.step.Entry.{Entry}
use Rattle.epg_soak.specs.Journals.{edit_in}
use Rattle.si_lists.proofs.Counting.{counts_more, counts_same}
use Rattle.epg_soak.proofs.summary.edit_count.Goals.{then-is_edit, else-is_edit}
use Rattle.epg_soak.proofs.summary.edit_count.Goals as goal

pub loop-entry-preserved : goal.loop-entry-preserved
loop-entry-preserved c =
    let entries = c.args.entries.now in
    let i = c.loop-entry.entry-index in
    let entry = c.entry-item.result in
    let held = c.loop-entry.invariant in
    elim c.if-is_edit.branch [
      | then-is_edit w ↦ (
        w.count-is ∙ ap (λ (n : ℕ). n + 1) held.0
            ∙ sym (counts_more (λ (entry : Entry). edit_in entry.step) entries i entry c.loop-entry-test.true c.entry-item.is (sym c.is_edit.ensures ∙ w.if-is_edit.true)),
        omega (arith, w.count-is, held.1),
      )
      | else-is_edit w ↦ (
        w.count-is ∙ held.0 ∙ sym (counts_same (λ (entry : Entry). edit_in entry.step) entries i entry c.loop-entry-test.true c.entry-item.is (sym c.is_edit.ensures ∙ w.if-is_edit.false)),
        omega (arith, w.count-is, held.1),
      )
    ]
