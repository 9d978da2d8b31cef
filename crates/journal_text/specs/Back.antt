-- What is written reads back: outcomes and entries.
use Rattle.std.specs.Prelude.{◌≡◌, ◌≤◌, ◌<◌, ◌^◌, ◌+◌, ℕ, true, false, List, [], ◌∷◌, ◌++◌, Some, codes}
use Rattle.std.specs.List.{AllByRecursion}
use Rattle.input_lines.specs.Numbers.{is_digit}
use Rattle.journal_model.specs.declared.step.Outcome.{Outcome}
use Rattle.journal_model.specs.declared.edit.Item.{Item}
use Rattle.input_lines.specs.Ahead.{Ahead, Tail, Came}
use Rattle.journal_model.specs.declared.step.Entry.{Entry}
use Rattle.journal_model.specs.Steps.{IsStepWithin, IsTypedStep, IsInWindow}
use Rattle.script_lines.specs.declared.script.ScriptItem.TheVariants.{Step as step, Kept}
use Rattle.journal_text.specs.Lines.{item_row}
use Rattle.journal_text.specs.CommandBack.{IsNumeralNumber, IsShort, ahead_of, command_lines, command_row}
use Rattle.journal_text.specs.Commands.{step_items}
use Rattle.journal_text.specs.Entries.{with_commas, outcome_text, entry_text, journal_text}
use Rattle.script_lines.specs.Script.{first_script_item, IsShapedStep}
use Rattle.script_lines.specs.Outcomes.{outcome_fields, outcome_of_fields, outcome_ids, outcome_numbers}

-- ---- outcomes

-- an outcome that reads back: its ids and places have 16 bits, its other numbers at most nine digits, and its moment can be written
pub record IsReadableOutcome (outcome : Outcome) : Type 0 where
  pub ids : AllByRecursion (λ n. n ≤ 65535) (outcome_ids outcome)
  pub numbers : AllByRecursion IsNumeralNumber (outcome_numbers outcome)
  pub window : IsInWindow outcome

-- The text of an outcome is its fields with commas between, and these are read as the outcome.
abbrev pub OutcomesReadBack : Type 0
OutcomesReadBack = (outcome : Outcome) → IsReadableOutcome outcome → outcome_of_fields (outcome_fields outcome) ≡ Some outcome

abbrev pub OutcomesAreFields : Type 0
OutcomesAreFields = (outcome : Outcome) → outcome_text outcome ≡ with_commas (outcome_fields outcome)

-- ---- entries

abbrev pub outcome_row : Outcome → List (List ℕ)
outcome_row outcome = codes "=" ∷ outcome_fields outcome

-- An entry that reads back. Its caller's number and the numbers of its outcome have at most nine digits, its moments can be
-- written, its starts, durations and days have their shapes, a rating names a country, a day has at most 2,000 items, and
-- each of its lines has at most 16,384 bytes.
pub record IsReadable (entry : Entry) : Type 0 where
  pub who : IsNumeralNumber entry.who
  pub shaped : IsShapedStep entry.step
  pub within : IsStepWithin entry.step
  pub typed : IsTypedStep entry.step
  pub outcome : IsReadableOutcome entry.outcome
  pub command_short : IsShort (command_row entry.who entry.step)
  pub items_short : AllByRecursion (λ (item : Item). IsShort (item_row item)) (step_items entry.step)
  pub outcome_short : IsShort (outcome_row entry.outcome)

-- The text of the entry reads as its step, and then as its outcome, whatever stands behind it.
pub record EntryReadsBack (entry : Entry) (n : ℕ) (rest : List ℕ) (tail : Tail) : Type 0 where
  pub behind : Ahead
  pub command : first_script_item false (ahead_of n (entry_text entry ++ rest) tail) ≡ Came (step entry.who entry.step) behind
  pub kept : first_script_item true behind ≡ Came (Kept (n + command_lines entry.step) entry.outcome) (ahead_of (n + command_lines entry.step + 1) rest tail)

abbrev pub EntriesReadBack : Type 0
EntriesReadBack = (entry : Entry) → IsReadable entry → (n : ℕ) (rest : List ℕ) (tail : Tail) → EntryReadsBack entry n rest tail

-- ---- journals

-- numbers of 64 bits, and a moment that can be written
pub record IsWritableOutcome (outcome : Outcome) : Type 0 where
  pub ids : AllByRecursion (λ n. n < 2 ^ 64) (outcome_ids outcome)
  pub numbers : AllByRecursion (λ n. n < 2 ^ 64) (outcome_numbers outcome)
  pub window : IsInWindow outcome

-- the ids and numbers of an outcome have 64 bits
abbrev pub HasWideNumbers : Outcome → Type 0
HasWideNumbers outcome =
    AllByRecursion (λ n. n < 2 ^ 64) (outcome_ids outcome) × AllByRecursion (λ n. n < 2 ^ 64) (outcome_numbers outcome)

-- so have those of an entry that was written, and its caller's number has
abbrev pub IsWritten : Entry → Type 0
IsWritten entry = (entry.who < 2 ^ 64) × HasWideNumbers entry.outcome

-- An entry whose edit was read from lines: the edit has its shapes, whatever length its lines have in the journal; the step
-- and the outcome have numbers as their types have them, and moments that can be written.
pub record IsOfLines (entry : Entry) : Type 0 where
  pub who : entry.who < 2 ^ 64
  pub shaped : IsShapedStep entry.step
  pub within : IsStepWithin entry.step
  pub typed : IsTypedStep entry.step
  pub outcome : IsWritableOutcome entry.outcome

-- Journals whose edits were read from lines are equal where their texts are.
abbrev pub JournalsDiffer : Type 0
JournalsDiffer = (a b : List Entry) → AllByRecursion IsOfLines a → AllByRecursion IsOfLines b → journal_text a ≡ journal_text b → a ≡ b

-- a text that no entry begins: it is empty, or its first byte is no digit
abbrev pub BeginsNoEntry : List ℕ → Type 0
BeginsNoEntry [] = Unit {0}
BeginsNoEntry (b ∷ bs) = is_digit b ≡ false

-- And so they are, and what stands behind them, where no entry begins there.
abbrev pub JournalsEnd : Type 0
JournalsEnd =
    (a b : List Entry) (u v : List ℕ) → AllByRecursion IsOfLines a → AllByRecursion IsOfLines b → BeginsNoEntry u → BeginsNoEntry v
    → journal_text a ++ u ≡ journal_text b ++ v → (a ≡ b) × (u ≡ v)
