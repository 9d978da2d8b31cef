use Rattle.std.proofs.Common.{sym, inl, inr}
use Rattle.std.proofs.lemmas.Bool.{cases_Bool}
use Rattle.guide_model.proofs.PlainFacts.{plain_clean}
use Rattle.input_lines.proofs.records.is_refused.Goals as goal

pub returns-else-not-is_plain : goal.returns-else-not-is_plain
returns-else-not-is_plain c = elim (cases_Bool c.args.is_plain) [
  | inl e ↦ rw e (sym (plain_clean c.args.text.now (c.requires e)))
  | inr e ↦ absurd (cc)
]
