-- The edits of a script's items have numbers as wide as their fields, and texts that may be kept; its ticks are at moments that can be
-- written.
use Rattle.std.proofs.Common.{ℕ, Bool, true, false, List, [], ◌∷◌}
use Rattle.std.specs.Prelude.{◌≤◌, Option, Some, None, IfSome, option_map, drop, codes, if◌then◌else◌}
use Rattle.std.specs.List.{AllByRecursion}
use Rattle.si_lists.proofs.Lists.{all_map, all_drop}
use Rattle.si_lists.proofs.Outcomes.{map_some, if_some}
use Rattle.guide_model.specs.Decoding.{IsKept}
use Rattle.input_lines.specs.Fields.{record_of}
use Rattle.input_lines.specs.Numbers.{is_word, number_in}
use Rattle.input_lines.specs.Ahead.{Ahead, Row, Found, Came, Stopped, IfCame, on_line}
use Rattle.input_lines.proofs.ValuesAhead.{then_came, line_came, values_came}
use Rattle.journal_model.specs.Edits.{IsTypedEdit}
use Rattle.journal_model.specs.declared.control.Control.{Control}
use Rattle.journal_model.specs.declared.control.Control.TheVariants.{Tick as tick, Publish as publish}
use Rattle.journal_model.specs.declared.step.Step.{Step}
use Rattle.journal_model.specs.declared.step.Step.TheVariants.{Swap}
use Rattle.journal_model.specs.declared.step.Outcome.{Outcome}
use Rattle.journal_model.specs.Steps.{Command, IsControlWithin, IsTypedStep, IsStepInWindow}
use Rattle.script_lines.specs.Controls.{control_of}
use Rattle.script_lines.specs.Edits.{read_edit}
use Rattle.script_lines.specs.declared.script.ScriptItem.{ScriptItem}
use Rattle.script_lines.specs.Script.{is_swap, control_step, short_step, feed_of, command_with, caller_of, command_by, read_command, is_outcome_line, kept_in, kept_item, step_item, read_item, item_on, is_command, items_ahead}
use Rattle.script_lines.specs.Laws.{IsTypedScriptItem, IsScriptItemInWindow, ItemsAreTyped, ItemsAreInWindow}
use Rattle.script_lines.proofs.ControlFacts.{control_window}
use Rattle.script_lines.proofs.EditTypes.{number_within, record_kept, read_typed}

abbrev IsSoundStep : Step → Type 0
IsSoundStep s = IsTypedStep s × IsStepInWindow s

abbrev IsSoundCommand : Command → Type 0
IsSoundCommand command = IsSoundStep command.1

abbrev IsSoundItem : ScriptItem → Type 0
IsSoundItem item = IsTypedScriptItem item × IsScriptItemInWindow item

control_sound : (c : Control) → IsControlWithin c → IsSoundStep (control_step c)
control_sound (tick at) within = (tt, within)
control_sound publish within = (tt, tt)

short_sound : (fields : List (List ℕ)) → IfSome (short_step fields) IsSoundStep
short_sound fields =
    if_some IsSoundStep (is_swap fields) (Some Swap) (option_map control_step (control_of fields)) (tt, tt)
    (map_some IsControlWithin IsSoundStep control_step (control_of fields) (control_window fields) control_sound)

abbrev IsFeed : ℕ → Type 0
IsFeed feed = feed ≤ 255

-- the number of a feed has 8 bits
feed_typed : (fields : List (List ℕ)) → IfSome (feed_of fields) IsFeed
feed_typed [] = tt
feed_typed (word ∷ []) = tt
feed_typed (word ∷ feed ∷ fields) = if_some IsFeed (is_word (codes "feed") word) (number_in 0 255 feed) None (number_within 255 feed) tt

command_sound : (who n : ℕ) (short : Option Step) (fields : List (List ℕ)) (behind : Ahead) → IfSome short IsSoundStep → AllByRecursion IsKept fields
    → IfCame IsSoundCommand (command_with who n short fields behind)
command_sound who n (Some short) fields behind sound kept = sound
command_sound who n None fields behind sound kept =
    then_came IsFeed IsSoundCommand (on_line n (feed_of fields) behind) _ (line_came IsFeed n (feed_of fields) behind (feed_typed fields))
    (λ feed more le. then_came IsTypedEdit IsSoundCommand (read_edit n (drop 2 fields) more) _ (read_typed n (drop 2 fields) more (all_drop IsKept 2 fields kept)) (λ e rest typed. ((le, typed), tt)))

caller_sound : (who : Option ℕ) (n : ℕ) (fields : List (List ℕ)) (behind : Ahead) → AllByRecursion IsKept fields → IfCame IsSoundCommand (command_by who n fields behind)
caller_sound (Some who) n fields behind kept = command_sound who n (short_step (drop 1 fields)) (drop 1 fields) behind (short_sound (drop 1 fields)) (all_drop IsKept 1 fields kept)
caller_sound None n fields behind kept = command_sound 0 n (short_step fields) fields behind (short_sound fields) kept

kept_sound : (n : ℕ) (found : Found Outcome) → IfCame IsSoundItem (kept_item n found)
kept_sound n (Came outcome behind) = (tt, tt)
kept_sound n (Stopped stop) = tt

line_sound : (after : Bool) (n : ℕ) (fields : List (List ℕ)) (behind : Ahead) → AllByRecursion IsKept fields → IfCame IsSoundItem (read_item after n fields behind)
line_sound after n fields behind kept = go (is_outcome_line fields)
  where
    go : (outcome : Bool) → IfCame IsSoundItem (if outcome then kept_item n (on_line n (kept_in after fields) behind) else step_item (read_command n fields behind))
    go true = kept_sound n (on_line n (kept_in after fields) behind)
    go false =
        then_came IsSoundCommand IsSoundItem (read_command n fields behind) _ (caller_sound (caller_of fields) n fields behind kept) (λ command rest sound. sound)

row_sound : (after : Bool) (row : Row) (behind : Ahead) → IfCame IsSoundItem (item_on after row.0 (record_of row.1) behind)
row_sound after row behind =
    then_came (AllByRecursion IsKept) IsSoundItem (on_line row.0 (record_of row.1) behind) _ (line_came (AllByRecursion IsKept) row.0 (record_of row.1) behind (record_kept row.1))
    (λ fields rest kept. line_sound after row.0 fields rest kept)

items_sound : (after : Bool) (lines : Ahead) → AllByRecursion IsSoundItem (items_ahead after lines).0
unfolding items_ahead
items_sound after lines = values_came (λ (after : Bool) (row : Row) (behind : Ahead). item_on after row.0 (record_of row.1) behind) is_command IsSoundItem row_sound after lines

pub items_typed : ItemsAreTyped
items_typed after lines = all_map IsSoundItem IsTypedScriptItem (λ item sound. sound.0) (items_ahead after lines).0 (items_sound after lines)

pub items_window : ItemsAreInWindow
items_window after lines = all_map IsSoundItem IsScriptItemInWindow (λ item sound. sound.1) (items_ahead after lines).0 (items_sound after lines)
