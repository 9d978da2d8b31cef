use Rattle.std.proofs.Common.{◌+◌, ◌∙◌, ℕ, sym, ap, arith}
use Rattle.journal_model.specs.declared.step.Entry.{Entry}
use Rattle.desk_core.specs.Publications.{aired_by}
use Rattle.si_lists.proofs.Counting.{counts_more, counts_same}
use Rattle.epg_audit.proofs.cycles.swap_count.Goals.{then-is_swapped, else-is_swapped}
use Rattle.epg_audit.proofs.cycles.swap_count.Goals as goal

pub loop-entry-preserved : goal.loop-entry-preserved
loop-entry-preserved c =
    let entries = c.args.entries.now in
    let i = c.loop-entry.entry-index in
    let entry = c.entry-item.result in
    let held = c.loop-entry.invariant in
    elim c.if-is_swapped.branch [
      | then-is_swapped w ↦ (
        w.count-is ∙ ap (λ (n : ℕ). n + 1) held.0
            ∙ sym (counts_more (λ (entry : Entry). aired_by entry.outcome) entries i entry c.loop-entry-test.true c.entry-item.is (sym c.is_swapped.ensures ∙ w.if-is_swapped.true)),
        omega (arith, w.count-is, held.1),
      )
      | else-is_swapped w ↦ (
        w.count-is ∙ held.0 ∙ sym (counts_same (λ (entry : Entry). aired_by entry.outcome) entries i entry c.loop-entry-test.true c.entry-item.is (sym c.is_swapped.ensures ∙ w.if-is_swapped.false)),
        omega (arith, w.count-is, held.1),
      )
    ]
