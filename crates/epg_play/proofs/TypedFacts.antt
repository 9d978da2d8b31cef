-- The edits of a script's commands, and those of its journals, have numbers as wide as their fields, and texts that may be kept; their ticks are at
-- moments that can be written.
use Rattle.std.proofs.Common.{ℕ, false, List, [], ◌∷◌, ◌++◌, Option, Some, None, take}
use Rattle.std.specs.Prelude.{Ok, Err}
use Rattle.std.specs.List.{AllByRecursion}
use Rattle.std.proofs.lemmas.List.Elements.{All-from_recursion, All-take, recursion_from_All}
use Rattle.input_lines.specs.Lines.{record_lines}
use Rattle.mux_model.specs.declared.mux.Mux.{Mux}
use Rattle.mux_config.specs.Descriptions.{Description, description_ahead}
use Rattle.input_lines.specs.Ahead.{Ahead, Came, Found, Stopped, Tail}
use Rattle.journal_model.specs.declared.step.Step.{Step}
use Rattle.journal_model.specs.declared.step.Entry.{Entry}
use Rattle.desk_core.specs.Journal.{entry_after, journal_after, journal_of}
use Rattle.desk_core.proofs.TypedFacts.{accepted_typed}
use Rattle.journal_model.specs.Steps.{Command, IsStepInWindow, IsTypedStep}
use Rattle.script_lines.specs.declared.script.ScriptItem.{ScriptItem}
use Rattle.script_lines.specs.declared.script.ScriptItem.TheVariants.{Step as step, Kept, End}
use Rattle.script_lines.specs.Script.{asked_by, items_ahead}
use Rattle.script_lines.specs.Laws.{IsTypedScriptItem, IsScriptItemInWindow}
use Rattle.script_lines.proofs.ItemFacts.{items_typed, items_window}
use Rattle.journal_air.specs.Laws.{HasTypedEdits}
use Rattle.epg_play.specs.Script.{Stop, commands_of, first_difference, played_items, script_of_lines, script_with, stop_of, up_to}

abbrev IsReadStep : Step → Type 0
IsReadStep s = IsTypedStep s × IsStepInWindow s

abbrev pub AreTypedCommands : List Command → Type 0
AreTypedCommands commands = AllByRecursion (λ (c : Command). IsReadStep c.1) commands

-- so are the first of them
pub first-typed : (n : ℕ) (commands : List Command) → AreTypedCommands commands → AreTypedCommands (take n commands)
first-typed n commands typed =
    recursion_from_All (λ (c : Command). IsReadStep c.1) (take n commands)
    (All-take (λ (c : Command). IsReadStep c.1) n commands (All-from_recursion (λ (c : Command). IsReadStep c.1) commands typed))

-- ---- a script

asked_typed : (items : List ScriptItem) → AllByRecursion IsTypedScriptItem items → AllByRecursion IsScriptItemInWindow items → AreTypedCommands (commands_of (asked_by items))
asked_typed [] typed window = tt
asked_typed (step who s ∷ items) typed window = ((typed.0, window.0), asked_typed items typed.1 window.1)
asked_typed (Kept n outcome ∷ items) typed window = asked_typed items typed.1 window.1
asked_typed (End ∷ items) typed window = asked_typed items typed.1 window.1

up_to-typed : (found : Option (ℕ × Stop)) (commands : List Command) (stop : Stop) → AreTypedCommands commands → AreTypedCommands (up_to found commands stop).0
up_to-typed None commands stop typed = typed
up_to-typed (Some found) commands stop typed = first-typed found.0 commands typed

-- the commands that are played behind a journal
pub played_typed : (mux : Mux) (before : List Entry) (behind : Ahead) → AreTypedCommands (played_items mux before (items_ahead false behind)).0
played_typed mux before behind =
    let items = items_ahead false behind in
    let asked = asked_by items.0 in
    up_to-typed (first_difference asked (journal_after mux before (commands_of asked))) (commands_of asked) (stop_of items.1)
    (asked_typed items.0 (items_typed false behind) (items_window false behind))

with_typed : (found : Found Description) → AreTypedCommands (script_with found).commands
with_typed (Came (Err fault) behind) = tt
with_typed (Came (Ok mux) behind) = played_typed mux [] behind
with_typed (Stopped stop) = tt

pub script-typed : (lines : List (List ℕ)) (tail : Tail) → AreTypedCommands (script_of_lines lines tail).commands
script-typed lines tail = with_typed (description_ahead (record { rows = record_lines 1 lines; tail = tail }))

-- ---- its journals

pub after_typed : (mux : Mux) (before : List Entry) (commands : List Command) → AreTypedCommands commands → AllByRecursion (λ (e : Entry). IsTypedStep e.step) (journal_after mux before commands)
after_typed mux before [] typed = tt
after_typed mux before (command ∷ commands) typed = (typed.0.0, after_typed mux (before ++ entry_after mux before command ∷ []) commands typed.1)

pub journal-typed : (mux : Mux) (commands : List Command) → AreTypedCommands commands → HasTypedEdits (journal_of mux commands)
journal-typed mux commands typed = accepted_typed (journal_of mux commands) (after_typed mux [] commands typed)

pub after_window : (mux : Mux) (before : List Entry) (commands : List Command) → AreTypedCommands commands → AllByRecursion (λ (e : Entry). IsStepInWindow e.step) (journal_after mux before commands)
after_window mux before [] typed = tt
after_window mux before (command ∷ commands) typed = (typed.0.1, after_window mux (before ++ entry_after mux before command ∷ []) commands typed.1)

pub journal-window : (mux : Mux) (commands : List Command) → AreTypedCommands commands → AllByRecursion (λ (e : Entry). IsStepInWindow e.step) (journal_of mux commands)
journal-window mux commands typed = after_window mux [] commands typed
