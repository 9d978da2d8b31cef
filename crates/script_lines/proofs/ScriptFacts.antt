-- Commands and kept outcomes, by the fields of their lines.
use Rattle.std.proofs.lemmas.List.{take_all, length-drop}
use Rattle.std.proofs.Common.{◌≡◌, ◌+◌, ◌-◌, ℕ, List, length, take, drop, drop-drop, true, false, Bool, refl, sym, ap, ◌∙◌, arith}
use Rattle.std.specs.Prelude.{Option, Some, None, Ok, Err, Result, IfOk, if◌then◌else◌}
use Rattle.input_lines.specs.declared.stop.EditStop.{EditStop}
use Rattle.input_lines.specs.Ahead.{Ahead, Found, Came, Stopped, NoCommand, and_then, on_line}
use Rattle.script_lines.specs.Edits.{read_edit}
use Rattle.journal_model.specs.declared.step.Step.{Step}
use Rattle.script_lines.specs.declared.script.ScriptItem.{ScriptItem}
use Rattle.script_lines.specs.declared.script.ScriptItem.TheVariants.{Step as step, Kept, End}
use Rattle.script_lines.specs.Script.{command_with, command_of_caller, command_by, caller_of, feed_of, feed_command, short_step, is_outcome_line, kept_in, kept_item, step_item, read_command, read_item, IsRead, next_of}
use Rattle.input_lines.proofs.LineReads.{some_ok}

-- ---- a command of a caller

pub short_is : (who n : ℕ) (words : List (List ℕ)) (s : Step) → short_step words ≡ Some s → (a : Ahead) → command_of_caller who n words a ≡ Came (who, s) a
short_is who n words s e a = ap (λ o. command_with who n o words a) e

pub no_feed_is : (who n : ℕ) (words : List (List ℕ)) → short_step words ≡ None → feed_of words ≡ None → (a : Ahead) → command_of_caller who n words a ≡ Stopped (NoCommand n)
no_feed_is who n words none other a =
    ap (λ o. command_with who n o words a) none
    ∙ ap (λ o. and_then (on_line n o a) (λ f rest. feed_command who f (read_edit n (drop 2 words) rest))) other

-- the edit of a feed, behind its two fields
pub feed_is : (who n from feed : ℕ) (words fields : List (List ℕ)) → words ≡ drop from fields → short_step words ≡ None → feed_of words ≡ Some feed → (a : Ahead)
    → command_of_caller who n words a ≡ feed_command who feed (read_edit n (drop (from + 2) fields) a)
feed_is who n from feed words fields same none some a =
    ap (λ o. command_with who n o words a) none
    ∙ ap (λ o. and_then (on_line n o a) (λ f more. feed_command who f (read_edit n (drop 2 words) more))) some
    ∙ ap (λ l. feed_command who feed (read_edit n l a)) (ap (drop 2) same ∙ drop-drop 2 from fields)

-- what stands behind the first
behind_first : (words : List (List ℕ)) → take (length words - 1) (drop 1 words) ≡ drop 1 words
behind_first words = take_all (length words - 1) (drop 1 words) (omega (arith, length-drop 1 words))

pub caller_is : (n who : ℕ) (words fields : List (List ℕ)) → words ≡ fields → Some who ≡ caller_of words → (a : Ahead) → read_command n fields a ≡ command_of_caller who n (take (length words - 1) (drop 1 words)) a
caller_is n who words fields same e a =
    ap (λ l. read_command n l a) (sym same) ∙ ap (λ (o : Option ℕ). command_by o n words a) (sym e) ∙ ap (λ l. command_of_caller who n l a) (sym (behind_first words))

pub nobody_is : (n : ℕ) (words fields : List (List ℕ)) → words ≡ fields → None ≡ caller_of words → (a : Ahead) → read_command n fields a ≡ command_of_caller 0 n words a
nobody_is n words fields same e a = ap (λ l. read_command n l a) (sym same) ∙ ap (λ (o : Option ℕ). command_by o n words a) (sym e)

-- ---- the item of a line

abbrev item_if : Bool → Bool → ℕ → List (List ℕ) → Ahead → Found ScriptItem
item_if outcome_line after n fields behind = if outcome_line then kept_item n (on_line n (kept_in after fields) behind) else step_item (read_command n fields behind)

pub kept_is : (after : Bool) (n : ℕ) (fields : List (List ℕ)) → is_outcome_line fields ≡ true → (a : Ahead) → read_item after n fields a ≡ kept_item n (on_line n (kept_in after fields) a)
kept_is after n fields line a = ap (λ b. item_if b after n fields a) line

pub step_is : (after : Bool) (n : ℕ) (fields : List (List ℕ)) → is_outcome_line fields ≡ false → (a : Ahead) → read_item after n fields a ≡ step_item (read_command n fields a)
step_is after n fields line a = ap (λ b. item_if b after n fields a) line

-- an item of lines is no end
pub item_is_next : (r : Result ScriptItem EditStop) → IfOk r IsRead → some_ok r ≡ next_of r
item_is_next (Ok (step who s)) read = refl
item_is_next (Ok (Kept n outcome)) read = refl
item_is_next (Ok End) read = absurd read
item_is_next (Err stop) read = refl
