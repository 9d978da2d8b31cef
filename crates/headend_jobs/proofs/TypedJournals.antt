-- Journals of which each caller's edits and ticks were read from lines.
use Rattle.std.proofs.Common.{ℕ, ◌*◌, ◌<◌, List, [], ◌∷◌, Bool, true, false, map, subst, sym}
use Rattle.std.specs.Prelude.{Some, None, Option, IfSome, if◌then◌else◌}
use Rattle.std.specs.List.{AllByRecursion, cons_option}
use Rattle.si_lists.proofs.Lists.{all_map}
use Rattle.journal_model.specs.declared.edit.Edit.{Edit}
use Rattle.journal_model.specs.Edits.{IsTypedEdit}
use Rattle.feed_book.specs.Accepted.{is_done}
use Rattle.journal_model.specs.declared.step.Step.{Step}
use Rattle.journal_model.specs.declared.step.Step.TheVariants.{Edit as edit, Tick, Publish, Swap}
use Rattle.journal_model.specs.declared.step.Outcome.{Outcome}
use Rattle.journal_model.specs.declared.step.Outcome.TheVariants.{Edited, Ticked, Late, Published, Swapped}
use Rattle.journal_model.specs.declared.step.Entry.{Entry}
use Rattle.desk_core.specs.Journal.{accepted, accepted_by}
use Rattle.journal_model.specs.Steps.{Command, IsStepInWindow, command_of}
use Rattle.turn_lock.specs.Journal.{entries_of}
use Rattle.desk_hall.specs.Turn.{caller_of}
use Rattle.journal_air.specs.Laws.{HasTypedEdits}
use Rattle.headend_jobs.specs.Callers.{CommandsAre}
use Rattle.headend_jobs.proofs.WholeJournal.{of_all}

-- the edit of a step, where it is one, was read from lines, and so was the moment of a tick
abbrev pub IsReadStep : Step → Type 0
IsReadStep (edit feed e) = IsTypedEdit e
IsReadStep (Tick at) = at.0 < 65536 * 86400
IsReadStep Publish = Unit {0}
IsReadStep Swap = Unit {0}

abbrev pub AreReadCommands : List Command → Type 0
AreReadCommands commands = AllByRecursion (λ (c : Command). IsReadStep c.1) commands

-- Steps whose edits are typed make a journal whose accepted edits are.
module _ (P : Step → Type 0) (is_typed : (feed : ℕ) (e : Edit) → P (edit feed e) → IsTypedEdit e) where
  accepted_typed : (s : Step) (outcome : Outcome) → P s → IfSome (accepted_by s outcome) IsTypedEdit
  accepted_typed (edit feed e) (Edited reply) typed = go (is_done reply)
    where
      go : (done : Bool) → IfSome (if done then Some e else None) IsTypedEdit
      go true = is_typed feed e typed
      go false = tt
  accepted_typed (edit feed e) Ticked typed = tt
  accepted_typed (edit feed e) (Late at) typed = tt
  accepted_typed (edit feed e) (Published n) typed = tt
  accepted_typed (edit feed e) (Swapped n at) typed = tt
  accepted_typed (Tick at) outcome typed = tt
  accepted_typed Publish outcome typed = tt
  accepted_typed Swap outcome typed = tt

  pub entries_typed : (journal : List Entry) → AllByRecursion (λ (e : Entry). P e.step) journal → HasTypedEdits journal
  entries_typed [] all = tt
  entries_typed (e ∷ es) all = go (accepted_by e.step e.outcome) (accepted_typed e.step e.outcome all.0) (entries_typed es all.1)
    where
      go : (o : Option Edit) → IfSome o IsTypedEdit → AllByRecursion IsTypedEdit (accepted es) → AllByRecursion IsTypedEdit (cons_option o (accepted es))
      go None one rest = rest
      go (Some e) one rest = (one, rest)

commands_typed : (entries : List Entry) → AreReadCommands (map command_of entries) → AllByRecursion (λ (e : Entry). IsReadStep e.step) entries
commands_typed [] all = tt
commands_typed (e ∷ es) all = (all.0, commands_typed es all.1)

-- a caller whose commands are such
abbrev pub CallerIsRead : List Entry → ℕ → Type 0
CallerIsRead journal k = AllByRecursion (λ (e : Entry). IsReadStep e.step) (entries_of caller_of k journal)

pub caller_typed : (journal : List Entry) (who : ℕ) (commands : List Command) → CommandsAre journal who commands → AreReadCommands commands → CallerIsRead journal who
caller_typed journal who commands are typed = commands_typed (entries_of caller_of who journal) (subst AreReadCommands (sym are) typed)

-- a tick of it can be written
step_window : (s : Step) → IsReadStep s → IsStepInWindow s
step_window (edit feed e) read = tt
step_window (Tick at) read = read
step_window Publish read = tt
step_window Swap read = tt

-- where all callers are such
pub journal_window : (journal : List Entry) → ((k : ℕ) → CallerIsRead journal k) → AllByRecursion (λ (e : Entry). IsStepInWindow e.step) journal
journal_window journal each =
    all_map (λ (e : Entry). IsReadStep e.step) (λ (e : Entry). IsStepInWindow e.step) (λ e. step_window e.step) journal (of_all (λ k e. IsReadStep e.step) journal each)

pub journal_typed : (journal : List Entry) → ((k : ℕ) → CallerIsRead journal k) → HasTypedEdits journal
journal_typed journal each = entries_typed IsReadStep (λ feed e typed. typed) journal (of_all (λ k e. IsReadStep e.step) journal each)
