-- A line is read as its head, and then the items of a day.
use Rattle.std.proofs.Common.{◌≡◌, ℕ, Bool, true, false, List, drop, refl}
use Rattle.std.specs.Prelude.{Option, Some, None, if◌then◌else◌, option_map, option_and_then}
use Rattle.input_lines.specs.Fields.{record_of}
use Rattle.input_lines.specs.Ahead.{Ahead, Found, Came, Stopped, and_then, on_line}
use Rattle.journal_model.specs.declared.edit.Edit.TheVariants.{Day}
use Rattle.journal_model.specs.declared.step.Step.{Step}
use Rattle.journal_model.specs.declared.step.Outcome.{Outcome}
use Rattle.script_lines.specs.declared.heads.Head.{Head}
use Rattle.script_lines.specs.declared.heads.Head.TheVariants.{Whole, OfDay}
use Rattle.script_lines.specs.Edits.{edit_from, items_of}
use Rattle.script_lines.specs.Heads.{edit_head}
use Rattle.script_lines.specs.Script.{caller_of, command_by, command_with, feed_command, feed_of, is_outcome_line, item_on, kept_in, kept_item, short_step, step_item}
use Rattle.script_notes.specs.Heads.{caller_head, feed_head, fields_head, kept_head, line_head, step_head, with_items}

-- what is made of items

twice : {T U V W : Type 0} (found : Found T) (f : T → U) (g : U → V) (h : V → W)
    → and_then (and_then (and_then found (λ t rest. let r : Found U = Came (f t) rest in r)) (λ u rest. let r : Found V = Came (g u) rest in r)) (λ v rest. let r : Found W = Came (h v) rest in r)
    ≡ and_then found (λ t rest. let r : Found W = Came (h (g (f t))) rest in r)
twice (Came t rest) f g h = refl
twice (Stopped stop) f g h = refl

edit_is : (who n feed : ℕ) (found : Option Head) (a : Ahead) → step_item (feed_command who feed (edit_from n found a)) ≡ and_then (on_line n (option_map (feed_head who feed) found) a) with_items
edit_is who n feed None a = refl
edit_is who n feed (Some (Whole e)) a = refl
edit_is who n feed (Some (OfDay service date count)) a = twice (items_of count a) (λ items. Day service date items) _ _

feed_is : (who n : ℕ) (feed : Option ℕ) (fields : List (List ℕ)) (a : Ahead)
    → step_item (and_then (on_line n feed a) (λ f more. feed_command who f (edit_from n (edit_head (drop 2 fields)) more)))
    ≡ and_then (on_line n (option_and_then (λ f. option_map (feed_head who f) (edit_head (drop 2 fields))) feed) a) with_items
feed_is who n None fields a = refl
feed_is who n (Some feed) fields a = edit_is who n feed (edit_head (drop 2 fields)) a

command_is : (who n : ℕ) (short : Option Step) (fields : List (List ℕ)) (a : Ahead) → step_item (command_with who n short fields a) ≡ and_then (on_line n (step_head who short fields) a) with_items
command_is who n (Some s) fields a = refl
command_is who n None fields a = feed_is who n (feed_of fields) fields a

caller_is : (n : ℕ) (who : Option ℕ) (fields : List (List ℕ)) (a : Ahead) → step_item (command_by who n fields a) ≡ and_then (on_line n (caller_head who fields) a) with_items
caller_is n (Some who) fields a = command_is who n (short_step (drop 1 fields)) (drop 1 fields) a
caller_is n None fields a = command_is 0 n (short_step fields) fields a

kept_is : (n : ℕ) (kept : Option Outcome) (a : Ahead) → kept_item n (on_line n kept a) ≡ and_then (on_line n (option_map (kept_head n) kept) a) with_items
kept_is n None a = refl
kept_is n (Some outcome) a = refl

fields_is : (after outcome : Bool) (n : ℕ) (fields : List (List ℕ)) (a : Ahead)
    → (if outcome then kept_item n (on_line n (kept_in after fields) a) else step_item (command_by (caller_of fields) n fields a))
    ≡ and_then (on_line n (if outcome then option_map (kept_head n) (kept_in after fields) else caller_head (caller_of fields) fields) a) with_items
fields_is after true n fields a = kept_is n (kept_in after fields) a
fields_is after false n fields a = caller_is n (caller_of fields) fields a

record_is : (after : Bool) (n : ℕ) (fields : Option (List (List ℕ))) (a : Ahead) → item_on after n fields a ≡ and_then (on_line n (option_and_then (fields_head after n) fields) a) with_items
record_is after n None a = refl
record_is after n (Some fields) a = fields_is after (is_outcome_line fields) n fields a

pub line_is : (after : Bool) (n : ℕ) (line : List ℕ) (a : Ahead) → item_on after n (record_of line) a ≡ and_then (on_line n (line_head after n line) a) with_items
line_is after n line a = record_is after n (record_of line) a
