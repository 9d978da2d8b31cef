-- How the edits and the items ahead go on, and what they have.
use Rattle.std.specs.Prelude.{◌≡◌, ℕ, Bool, List}
use Rattle.std.specs.List.{AllByRecursion}
use Rattle.guide_model.specs.Decoding.{IsKept}
use Rattle.input_lines.specs.Ahead.{Ahead, IfCame, and_all}
use Rattle.journal_model.specs.declared.edit.Edit.{Edit}
use Rattle.journal_model.specs.Edits.{IsTypedEdit}
use Rattle.journal_model.specs.Steps.{IsTypedStep, IsStepInWindow}
use Rattle.script_lines.specs.declared.script.ScriptItem.{ScriptItem}
use Rattle.script_lines.specs.declared.script.ScriptItem.TheVariants.{Step as step}
use Rattle.script_lines.specs.Edits.{read_edit, first_edit, edits_ahead}
use Rattle.script_lines.specs.Script.{first_script_item, is_command, items_ahead}

-- The edits ahead are the first of them and those of what is ahead behind it.
abbrev pub EditsGoOn : Type 0
EditsGoOn = (lines : Ahead) → edits_ahead lines ≡ and_all (first_edit lines) (λ (edit : Edit). edits_ahead)

-- The edit of fields that may be kept has numbers as wide as their fields, and texts that may be kept, whatever lines are behind it; so
-- has each edit of the lines ahead.
abbrev pub ReadEditsAreTyped : Type 0
ReadEditsAreTyped = (at : ℕ) (fields : List (List ℕ)) (behind : Ahead) → AllByRecursion IsKept fields → IfCame IsTypedEdit (read_edit at fields behind)

abbrev pub EditsAheadAreTyped : Type 0
EditsAheadAreTyped = (lines : Ahead) → IfCame IsTypedEdit (first_edit lines) × AllByRecursion IsTypedEdit (edits_ahead lines).0

-- The items ahead are the first of them and those of what is ahead behind it, whatever stands behind the lines: the end, more
-- than a text may have, or a read that failed.
abbrev pub ItemsGoOn : Type 0
ItemsGoOn = (after : Bool) (lines : Ahead) → items_ahead after lines ≡ and_all (first_script_item after lines) (λ (item : ScriptItem). items_ahead (is_command item))

-- an item whose step is typed
abbrev pub IsTypedScriptItem : ScriptItem → Type 0
IsTypedScriptItem (step who s) = IsTypedStep s
IsTypedScriptItem other = Unit {0}

-- an item whose step, if it is a tick, is at a moment that can be written
abbrev pub IsScriptItemInWindow : ScriptItem → Type 0
IsScriptItemInWindow (step who s) = IsStepInWindow s
IsScriptItemInWindow other = Unit {0}

-- So is each of the items ahead.
abbrev pub ItemsAreTyped : Type 0
ItemsAreTyped = (after : Bool) (lines : Ahead) → AllByRecursion IsTypedScriptItem (items_ahead after lines).0

abbrev pub ItemsAreInWindow : Type 0
ItemsAreInWindow = (after : Bool) (lines : Ahead) → AllByRecursion IsScriptItemInWindow (items_ahead after lines).0
