-- How a checkpoint is read, part by part.
use Rattle.std.proofs.Common.{◌≡◌, ◌≤◌, ◌-◌, ◌∙◌, ℕ, zero, suc, Bool, true, false, List, [], ◌∷◌, length, refl, ap, sym, arith}
use Rattle.std.specs.Prelude.{Option, Some, None, Ok, Err, Result, option_map, if◌then◌else◌}
use Rattle.input_lines.specs.Fields.{record_of}
use Rattle.input_lines.specs.Ahead.{Ahead, Row, Tail, Found, Came, Stopped, Stop, NoCommand, and_then, first_row, missing_at, on_line}
use Rattle.input_lines.proofs.ValuesAhead.{Within, then_within, row_within, line_within}
use Rattle.journal_model.specs.Steps.{Command}
use Rattle.script_lines.specs.Script.{caller_of, read_command}
use Rattle.script_lines.proofs.ItemsAhead.{caller_within}
use Rattle.desk_checkpoint.specs.declared.part.Part.TheVariants.{Step as step}
use Rattle.desk_checkpoint.specs.Fields.{begins_step, part_of}
use Rattle.desk_checkpoint.specs.Checkpoints.{Checkpoint, is_end, steps_may_come, with_part}
use Rattle.desk_checkpoint.specs.Reads.{NumberedPart, and_part, first_part, on_part, part_on, read_on, step_part, upto}

-- ---- with each part fewer lines are left

part_within : (k : ℕ) (may : Bool) (n : ℕ) (fields : List (List ℕ)) (behind : Ahead) → length behind.rows ≤ k → Within k (part_on may n fields behind)
part_within k may n fields behind h = go (begins_step fields) may
  where
    go : (is_step step_may : Bool)
        → Within k (if is_step then (if step_may then step_part n (read_command n fields behind) else Stopped (NoCommand n)) else on_line n (option_map (λ part. (n, part)) (part_of fields)) behind)
    go true false = tt
    go true true = then_within k k (read_command n fields behind) (λ (c : Command) rest. let r : Found NumberedPart = Came (n, step c.1) rest in r) (caller_within k n (caller_of fields) fields behind h) (λ c rest few. few)
    go false step_may = line_within k n (option_map (λ part. (n, part)) (part_of fields)) behind h

first_within : (may : Bool) (lines : Ahead) → Within (length lines.rows - 1) (first_part may lines)
first_within may lines =
    let k = length lines.rows - 1 in
    then_within k k (first_row missing_at lines) (λ (row : Row) behind. and_then (on_line row.0 (record_of row.1) behind) (λ fields more. part_on may row.0 fields more)) (row_within missing_at lines.rows lines.tail)
    (λ row behind le. then_within k k (on_line row.0 (record_of row.1) behind) (λ fields more. part_on may row.0 fields more) (line_within k row.0 (record_of row.1) behind le) (λ fields more few. part_within k may row.0 fields more few))

-- ---- as many parts as there may be

abbrev Next : Type 0
Next = Checkpoint → Ahead → Result Checkpoint Stop

same_part : (k : ℕ) (part : NumberedPart) (found : Option Checkpoint) (behind : Ahead) (f g : Next) → ((cp : Checkpoint) → f cp behind ≡ g cp behind) → and_part f part found behind ≡ and_part g part found behind
same_part k part None behind f g same = refl
same_part k part (Some cp) behind f g same = ap (λ (r : Result Checkpoint Stop). if is_end part.1 then Ok cp else r) (same cp)

same_on : (k : ℕ) (cp : Checkpoint) (found : Found NumberedPart) (f g : Next) → Within k found → ((cp : Checkpoint) (behind : Ahead) → length behind.rows ≤ k → f cp behind ≡ g cp behind) → on_part f cp found ≡ on_part g cp found
same_on k cp (Came part behind) f g h same = same_part k part (with_part cp part.1) behind f g (λ next. same next behind h)
same_on k cp (Stopped stop) f g h same = refl

none_on : (cp : Checkpoint) (rows : List Row) (tail : Tail) (f : Next) → length rows ≤ 0 → on_part f cp (first_part (steps_may_come cp) (record { rows = rows; tail = tail })) ≡ Err (missing_at tail)
none_on cp [] tail f h = refl
none_on cp (row ∷ rows) tail f h = absurd (omega arith)

enough : (n m : ℕ) (cp : Checkpoint) (lines : Ahead) → length lines.rows ≤ n → length lines.rows ≤ m → upto n cp lines ≡ upto m cp lines
enough zero zero cp lines h k = refl
enough zero (suc m) cp lines h k = sym (none_on cp lines.rows lines.tail (upto m) h)
enough (suc n) zero cp lines h k = none_on cp lines.rows lines.tail (upto n) k
enough (suc n) (suc m) cp lines h k =
    same_on (length lines.rows - 1) cp (first_part (steps_may_come cp) lines) (upto n) (upto m) (first_within (steps_may_come cp) lines) (λ next behind le. enough n m next behind (omega arith) (omega arith))

go_on : (n : ℕ) (cp : Checkpoint) (lines : Ahead) → length lines.rows ≤ n → upto n cp lines ≡ on_part read_on cp (first_part (steps_may_come cp) lines)
go_on zero cp lines h = sym (none_on cp lines.rows lines.tail read_on h)
go_on (suc n) cp lines h =
    same_on (length lines.rows - 1) cp (first_part (steps_may_come cp) lines) (upto n) read_on (first_within (steps_may_come cp) lines) (λ next behind le. enough n (length behind.rows) next behind (omega arith) (omega arith))

-- the first part, and what is read behind it
pub read_goes_on : (cp : Checkpoint) (lines : Ahead) → read_on cp lines ≡ on_part read_on cp (first_part (steps_may_come cp) lines)
read_goes_on cp lines = go_on (length lines.rows) cp lines (omega arith)

-- ---- by what comes first

pub read_part : (cp next : Checkpoint) (lines behind : Ahead) (part : NumberedPart) → first_part (steps_may_come cp) lines ≡ Came part behind → with_part cp part.1 ≡ Some next → is_end part.1 ≡ false → read_on cp lines ≡ read_on next behind
read_part cp next lines behind part e is more =
    read_goes_on cp lines ∙ ap (on_part read_on cp) e ∙ ap (λ (o : Option Checkpoint). and_part read_on part o behind) is
    ∙ ap (λ (b : Bool). let r : Result Checkpoint Stop = if b then Ok next else read_on next behind in r) more

pub read_end : (cp next : Checkpoint) (lines behind : Ahead) (part : NumberedPart) → first_part (steps_may_come cp) lines ≡ Came part behind → with_part cp part.1 ≡ Some next → is_end part.1 ≡ true → read_on cp lines ≡ Ok next
read_end cp next lines behind part e is more =
    read_goes_on cp lines ∙ ap (on_part read_on cp) e ∙ ap (λ (o : Option Checkpoint). and_part read_on part o behind) is
    ∙ ap (λ (b : Bool). let r : Result Checkpoint Stop = if b then Ok next else read_on next behind in r) more

pub read_refused : (cp : Checkpoint) (lines behind : Ahead) (part : NumberedPart) → first_part (steps_may_come cp) lines ≡ Came part behind → with_part cp part.1 ≡ None → read_on cp lines ≡ Err (NoCommand part.0)
read_refused cp lines behind part e none =
    read_goes_on cp lines ∙ ap (on_part read_on cp) e ∙ ap (λ (o : Option Checkpoint). and_part read_on part o behind) none

pub read_stopped : (cp : Checkpoint) (lines : Ahead) (stop : Stop) → first_part (steps_may_come cp) lines ≡ Stopped stop → read_on cp lines ≡ Err stop
read_stopped cp lines stop e = read_goes_on cp lines ∙ ap (on_part read_on cp) e
