-- Outcomes read back from their fields, however numbers are read that read back.
use Rattle.std.proofs.Common.{◌≡◌, ℕ, Some, refl}
use Rattle.std.specs.Prelude.{decimal}
use Rattle.std.specs.List.{AllByRecursion}
use Rattle.journal_model.specs.declared.reply.Field.{Field}
use Rattle.journal_model.specs.declared.reply.Field.TheVariants.{Count, Segment}
use Rattle.journal_model.specs.declared.reply.DayFault.{DayFault}
use Rattle.journal_model.specs.declared.reply.DayFault.TheVariants.{Range as BadField, Overlap as Overlaps}
use Rattle.journal_model.specs.declared.reply.Reply.TheVariants.{Done, Foreign, Range, Overlap, Member}
use Rattle.journal_model.specs.declared.step.Outcome.{Outcome}
use Rattle.journal_model.specs.declared.step.Outcome.TheVariants.{Edited, Ticked, Late, Published, Swapped}
use Rattle.journal_model.specs.Steps.{IsInWindow}
use Rattle.script_lines.specs.Outcomes.{Numeral, field_numbers, field_fields, field_of, fault_ids, fault_numbers, day_fault_fields, day_fault_of, outcome_ids, outcome_numbers, outcome_fields, outcome_by, reply_of}
use Rattle.script_lines.proofs.NumberBack.{moment_back}

module _ (id number : Numeral) (IsId IsNumber : ℕ → Type 0) (ids : (n : ℕ) → IsId n → id (decimal n) ≡ Some n) (numbers : (n : ℕ) → IsNumber n → number (decimal n) ≡ Some n) where
  field_back : (f : Field) → AllByRecursion IsNumber (field_numbers f) → field_of number (field_fields f) ≡ Some f
  unfolding field_of
  field_back (Count n) h = rw (numbers n h.0) refl
  field_back (Segment n) h = rw (numbers n h.0) refl
  field_back other h = refl

  fault_back : (fault : DayFault) → AllByRecursion IsId (fault_ids fault) → AllByRecursion IsNumber (fault_numbers fault) → day_fault_of id number (day_fault_fields fault) ≡ Some fault
  unfolding day_fault_of
  fault_back (BadField f) i h = rw (field_back f h) refl
  fault_back (Overlaps e) i h = rw (ids e i.0) refl

  pub outcome_back : (o : Outcome) → AllByRecursion IsId (outcome_ids o) → AllByRecursion IsNumber (outcome_numbers o) → IsInWindow o → outcome_by id number (outcome_fields o) ≡ Some o
  unfolding reply_of
  outcome_back (Edited Done) i h w = refl
  outcome_back (Edited (Foreign s)) i h w = rw (ids s i.0) refl
  outcome_back (Edited (Range f)) i h w = rw (field_back f h) refl
  outcome_back (Edited (Overlap e)) i h w = rw (ids e i.0) refl
  outcome_back (Edited (Member p fault)) i h w = rw (ids p i.0, fault_back fault i.1 h) refl
  outcome_back Ticked i h w = refl
  outcome_back (Late at) i h w = rw (moment_back at w) refl
  outcome_back (Published n) i h w = rw (numbers n h.0) refl
  outcome_back (Swapped n at) i h w = rw (numbers n h.0, moment_back at w) refl
