-- The text of a command.
use Rattle.std.specs.Prelude.{ℕ, ◌++◌, List, [], ◌∷◌, codes, decimal, flat_map}
use Rattle.si_time.specs.Moments.{moment_text}
use Rattle.journal_model.specs.declared.edit.Item.{Item}
use Rattle.script_lines.specs.EditFields.{edit_fields}
use Rattle.journal_model.specs.declared.step.Step.{Step}
use Rattle.journal_model.specs.declared.step.Step.TheVariants.{Edit as edit, Tick, Publish, Swap}
use Rattle.journal_text.specs.Lines.{items_of, line_text, item_text}

-- the fields of a step behind its caller's number
abbrev pub step_fields : Step → List (List ℕ)
step_fields (edit feed e) = codes "feed" ∷ decimal feed ∷ edit_fields e
step_fields (Tick at) = codes "tick" ∷ moment_text at.0 ∷ []
step_fields Publish = codes "publish" ∷ []
step_fields Swap = codes "swap" ∷ []

-- the items that stand on lines of their own behind it
abbrev pub step_items : Step → List Item
step_items (edit feed e) = items_of e
step_items other = []

-- the caller and the step on one line, and the items of a day
abbrev pub command_text : ℕ → Step → List ℕ
command_text who step = line_text (decimal who ∷ step_fields step) ++ flat_map item_text (step_items step)
