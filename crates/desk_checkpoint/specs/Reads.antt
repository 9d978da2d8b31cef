-- The checkpoint that the lines ahead are.
use Rattle.std.specs.Prelude.{ℕ, Bool, zero, suc, List, length, Option, Some, None, Ok, Err, Result, option_and_then, option_map, if◌then◌else◌}
use Rattle.input_lines.specs.Fields.{record_of}
use Rattle.input_lines.specs.Ahead.{Ahead, Found, Came, Stopped, Stop, NoCommand, and_then, first_row, missing_at, on_line}
use Rattle.cycle_player.specs.declared.clock.Clock.{Clock}
use Rattle.mux_model.specs.declared.mux.Mux.{Mux}
use Rattle.journal_model.specs.Steps.{Command}
use Rattle.script_lines.specs.Script.{read_command}
use Rattle.desk_checkpoint.specs.declared.part.Part.{Part}
use Rattle.desk_checkpoint.specs.declared.part.Part.TheVariants.{Step as step}
use Rattle.desk_checkpoint.specs.declared.head.Head.{Head}
use Rattle.desk_checkpoint.specs.Fields.{begins_step, clock_of, count_of, part_of}
use Rattle.desk_checkpoint.specs.Checkpoints.{Checkpoint, counted, is_end, steps_may_come, with_part}

-- ---- parts

-- a part, with the number of its line
abbrev pub NumberedPart : Type 0
NumberedPart = ℕ × Part

-- the step whose line has number n
abbrev pub step_part : ℕ → Found Command → Found NumberedPart
step_part n found = and_then found (λ command behind. Came (n, step command.1) behind)

-- the part whose line has number n and these fields: a step, which may have more lines, where one may come; or another
abbrev pub part_on : Bool → ℕ → List (List ℕ) → Ahead → Found NumberedPart
part_on step_may n fields behind =
    if begins_step fields then (if step_may then step_part n (read_command n fields behind) else Stopped (NoCommand n))
    else on_line n (option_map (λ part. (n, part)) (part_of fields)) behind

-- the part that begins with the first line ahead; a line has to come
abbrev pub first_part : Bool → Ahead → Found NumberedPart
first_part step_may lines =
    and_then (first_row missing_at lines) (λ row behind. and_then (on_line row.0 (record_of row.1) behind) (λ fields more. part_on step_may row.0 fields more))

-- ---- a checkpoint

-- what is read where this is the checkpoint so far with its last part, or no part may stand there
abbrev pub and_part : (Checkpoint → Ahead → Result Checkpoint Stop) → NumberedPart → Option Checkpoint → Ahead → Result Checkpoint Stop
and_part next part None behind = Err (NoCommand part.0)
and_part next part (Some cp) behind = if is_end part.1 then Ok cp else next cp behind

abbrev pub on_part : (Checkpoint → Ahead → Result Checkpoint Stop) → Checkpoint → Found NumberedPart → Result Checkpoint Stop
on_part next cp (Stopped stop) = Err stop
on_part next cp (Came part behind) = and_part next part (with_part cp part.1) behind

-- what is read behind these parts of a checkpoint, so many at most
abbrev pub upto : ℕ → Checkpoint → Ahead → Result Checkpoint Stop
upto zero cp lines = Err (missing_at lines.tail)
upto (suc n) cp lines = on_part (upto n) cp (first_part (steps_may_come cp) lines)

-- the parts are no more than the lines
abbrev pub read_on : Checkpoint → Ahead → Result Checkpoint Stop
read_on cp lines = upto (length lines.rows) cp lines

-- the line `checkpoint,COUNT`
abbrev pub count_line : Ahead → Found ℕ
count_line lines = and_then (first_row missing_at lines) (λ row behind. on_line row.0 (option_and_then count_of (record_of row.1)) behind)

-- the line `clock,MOMENT,BITS`
abbrev pub clock_line : Ahead → Found Clock
clock_line lines =
    and_then (first_row missing_at lines)
    (λ row behind. on_line row.0 (option_and_then clock_of (record_of row.1)) behind)

-- the clock's line where there is a bit rate; where there is none, the clock stands at 0
abbrev pub no_clock : Clock
no_clock = record { moment = 0; bits = 0 }

abbrev pub clock_ahead : Option ℕ → Ahead → Found Clock
clock_ahead None lines = Came no_clock lines
clock_ahead (Some rate) lines = clock_line lines

-- what stands before the parts, at this bit rate or without one
abbrev pub head_ahead : Option ℕ → Ahead → Found Head
head_ahead rate lines =
    and_then (count_line lines)
    (λ count behind. and_then (clock_ahead rate behind)
    (λ clock more. Came (record { count = count; clock = clock }) more))

-- and the parts behind it up to the end
abbrev pub behind_head : Mux → Found Head → Result Checkpoint Stop
behind_head mux (Stopped stop) = Err stop
behind_head mux (Came head behind) = read_on (counted mux head.count head.clock) behind

-- The checkpoint of a multiplex that the lines ahead are, up to its end; or the stop, at the first line that may not stand there.
abbrev pub checkpoint_in : Mux → Ahead → Result Checkpoint Stop
checkpoint_in mux lines = behind_head mux (head_ahead mux.rate lines)
