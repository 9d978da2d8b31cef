-- No more edits of a journal are done than it has.
use Rattle.std.proofs.Common.{◌≡◌, ◌≤◌, true, List, length, refl}
use Rattle.std.specs.Prelude.{is_some}
use Rattle.journal_model.specs.declared.step.Entry.{Entry}
use Rattle.journal_model.specs.declared.step.Step.{Step}
use Rattle.journal_model.specs.declared.step.Step.TheVariants.{Edit, Tick, Publish, Swap}
use Rattle.journal_model.specs.declared.step.Outcome.{Outcome}
use Rattle.desk_core.specs.Journal.{accepted, accepted_by}
use Rattle.epg_soak.specs.Journals.{edit_in, edits_in}
use Rattle.si_lists.proofs.Counting.{counts_fewer}

done_is_edit : (step : Step) (outcome : Outcome) → is_some (accepted_by step outcome) ≡ true → is_some (edit_in step) ≡ true
done_is_edit (Edit feed e) outcome is = refl
done_is_edit (Tick at) outcome is = cc is
done_is_edit Publish outcome is = cc is
done_is_edit Swap outcome is = cc is

pub done_few : (journal : List Entry) → length (accepted journal) ≤ length (edits_in journal)
done_few journal = counts_fewer (λ (entry : Entry). accepted_by entry.step entry.outcome) (λ (entry : Entry). edit_in entry.step) (λ entry is. done_is_edit entry.step entry.outcome is) journal
