-- The text of a journal.
use Rattle.std.specs.Prelude.{ℕ, ◌++◌, List, [], ◌∷◌, codes, flat_map}
use Rattle.script_lines.specs.Outcomes.{outcome_fields}
use Rattle.journal_model.specs.declared.step.Entry.{Entry}
use Rattle.journal_model.specs.declared.step.Outcome.{Outcome}
use Rattle.journal_text.specs.Commands.{command_text}

-- fields with commas (44) between
abbrev pub with_commas : List (List ℕ) → List ℕ
with_commas [] = []
with_commas (field ∷ []) = field
with_commas (field ∷ other ∷ fields) = field ++ 44 ∷ with_commas (other ∷ fields)

-- an outcome, as its line has it behind `=,`
abbrev pub outcome_text : Outcome → List ℕ
outcome_text outcome = with_commas (outcome_fields outcome)

-- an entry: its command, and the outcome on the next line
abbrev pub entry_text : Entry → List ℕ
entry_text entry = command_text entry.who entry.step ++ (codes "=," ++ outcome_text entry.outcome ++ codes "\n")

abbrev pub journal_text : List Entry → List ℕ
journal_text journal = flat_map entry_text journal
