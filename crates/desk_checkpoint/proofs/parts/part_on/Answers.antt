use Rattle.std.proofs.Common.{◌≡◌, ◌∙◌, List, ℕ, Bool, true, false, refl, ap, sym, subst}
use Rattle.std.specs.Prelude.{None, Ok, Err, option_map, if◌then◌else◌}
use Rattle.input_lines.specs.declared.stop.EditStop.TheVariants.{NoCommand as Refused}
use Rattle.input_lines.specs.Ahead.{Ahead, Came, Found, NoCommand, Stopped, on_line}
use Rattle.input_lines.specs.Reads.{Says}
use Rattle.input_lines.proofs.LineReads.{read_as, read_said, read_then, read_unread, read_value}
use Rattle.journal_model.specs.Steps.{Command}
use Rattle.script_lines.specs.Script.{read_command}
use Rattle.desk_checkpoint.specs.declared.part.Part.{Part}
use Rattle.desk_checkpoint.specs.declared.part.Part.TheVariants.{Step as step}
use Rattle.desk_checkpoint.specs.Fields.{begins_step, part_of}
use Rattle.desk_checkpoint.specs.Reads.{NumberedPart, part_on, step_part}
use Rattle.desk_checkpoint.proofs.parts.part_on.Goals as goal

is_step : (may : Bool) (n : ℕ) (fields : List (List ℕ)) → begins_step fields ≡ true → may ≡ true → (a : Ahead) → part_on may n fields a ≡ step_part n (read_command n fields a)
is_step may n fields e m a =
    ap (λ (b : Bool). if b then (if may then step_part n (read_command n fields a) else Stopped (NoCommand n)) else on_line n (option_map (λ part. (n, part)) (part_of fields)) a) e
    ∙ ap (λ (b : Bool). let f : Found NumberedPart = if b then step_part n (read_command n fields a) else Stopped (NoCommand n) in f) m

is_misplaced : (may : Bool) (n : ℕ) (fields : List (List ℕ)) → begins_step fields ≡ true → may ≡ false → (a : Ahead) → part_on may n fields a ≡ on_line {T = NumberedPart} n None a
is_misplaced may n fields e m a =
    ap (λ (b : Bool). if b then (if may then step_part n (read_command n fields a) else Stopped (NoCommand n)) else on_line n (option_map (λ part. (n, part)) (part_of fields)) a) e
    ∙ ap (λ (b : Bool). let f : Found NumberedPart = if b then step_part n (read_command n fields a) else Stopped (NoCommand n) in f) m

is_other : (may : Bool) (n : ℕ) (fields : List (List ℕ)) → begins_step fields ≡ false → (a : Ahead) → part_on may n fields a ≡ on_line n (option_map (λ part. (n, part)) (part_of fields)) a
is_other may n fields e a =
    ap (λ (b : Bool). if b then (if may then step_part n (read_command n fields a) else Stopped (NoCommand n)) else on_line n (option_map (λ part. (n, part)) (part_of fields)) a) e

pub returns-then-not-begins_step-clause-reads : goal.returns-then-not-begins_step-clause-reads
returns-then-not-begins_step-clause-reads g c =
    let n = c.args.at in
    let fields = c.args.fields.now in
    let found = λ (l : List (List ℕ)). option_map (λ (part : Part). (n, part)) (part_of l) in
    read_as g.S.Source.left g.S.Source.faults g.S.Source.same g.met.S.Source.same_at_once g.met.S.Source.same_later (part_on c.args.step_may n fields) (on_line n (found fields)) c.args.lines.now c.args.lines.now c.said_on.result
    (is_other c.args.step_may n fields (ap begins_step (sym c.as_slice.ensures) ∙ sym c.begins_step.ensures ∙ c.if-not-begins_step.true))
    (read_said g.S.Source.left g.S.Source.faults g.S.Source.same g.met.S.Source.same_at_once g.met.S.Source.same_later n (found fields) c.args.lines.now c.said_on.result
    (subst (λ (l : List (List ℕ)). Says n (found l) c.said_on.result) c.as_slice-then-not-begins_step.ensures c.said_on.ensures.says))

pub returns-then-not-step_may-clause-reads : goal.returns-then-not-step_may-clause-reads
returns-then-not-step_may-clause-reads g c =
    let n = c.args.at in
    let fields = c.args.fields.now in
    read_as g.S.Source.left g.S.Source.faults g.S.Source.same g.met.S.Source.same_at_once g.met.S.Source.same_later (part_on c.args.step_may n fields) (on_line n None) c.args.lines.now c.args.lines.now (Err (Refused n))
    (is_misplaced c.args.step_may n fields (ap begins_step (sym c.as_slice.ensures) ∙ sym c.begins_step.ensures ∙ c.if-not-begins_step.false) c.if-not-step_may.true)
    (read_said g.S.Source.left g.S.Source.faults g.S.Source.same g.met.S.Source.same_at_once g.met.S.Source.same_later n None c.args.lines.now (Err (Refused n)) (refl, refl))

pub returns-in-Ok-clause-reads : goal.returns-in-Ok-clause-reads
returns-in-Ok-clause-reads g c =
    let n = c.args.at in
    let fields = c.args.fields.now in
    let first = read_command n fields in
    let next : Command → Ahead → Found NumberedPart = λ command behind. Came (n, step command.1) behind in
    let part : NumberedPart = (n, step c.in-Ok.command.1) in
    read_as g.S.Source.left g.S.Source.faults g.S.Source.same g.met.S.Source.same_at_once g.met.S.Source.same_later (part_on c.args.step_may n fields) (λ a. step_part n (first a)) c.args.lines.now c.read_command.new.lines (Ok part)
    (is_step c.args.step_may n fields (ap begins_step (sym c.as_slice.ensures) ∙ sym c.begins_step.ensures ∙ c.if-not-begins_step.false) c.if-not-step_may.false)
    (read_then g.S.Source.left g.S.Source.faults g.S.Source.same g.met.S.Source.same_at_once g.met.S.Source.same_later first next c.args.lines.now c.read_command.new.lines c.read_command.new.lines c.in-Ok.command (Ok part) c.in-Ok.ensures.reads
    (read_value g.S.Source.left g.S.Source.faults g.S.Source.same g.met.S.Source.same_at_once g.met.S.Source.same_later (next c.in-Ok.command) part c.read_command.new.lines (λ a. refl)))

pub returns-in-Err-clause-reads : goal.returns-in-Err-clause-reads
returns-in-Err-clause-reads g c =
    let n = c.args.at in
    let fields = c.args.fields.now in
    let first = read_command n fields in
    let next : Command → Ahead → Found NumberedPart = λ command behind. Came (n, step command.1) behind in
    read_as g.S.Source.left g.S.Source.faults g.S.Source.same g.met.S.Source.same_at_once g.met.S.Source.same_later (part_on c.args.step_may n fields) (λ a. step_part n (first a)) c.args.lines.now c.read_command.new.lines _
    (is_step c.args.step_may n fields (ap begins_step (sym c.as_slice.ensures) ∙ sym c.begins_step.ensures ∙ c.if-not-begins_step.false) c.if-not-step_may.false)
    (read_unread g.S.Source.left g.S.Source.faults g.S.Source.same g.met.S.Source.same_at_once g.met.S.Source.same_later first next c.args.lines.now c.read_command.new.lines c.in-Err.stop c.in-Err.ensures.reads)
