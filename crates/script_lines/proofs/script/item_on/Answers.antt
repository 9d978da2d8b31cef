use Rattle.std.proofs.Common.{◌≡◌, ◌∙◌, List, ℕ, true, false, refl, ap, sym, subst}
use Rattle.std.specs.Prelude.{Ok, Err}
use Rattle.input_lines.specs.Ahead.{Ahead, Came, Found, on_line}
use Rattle.input_lines.specs.Reads.{Says}
use Rattle.input_lines.proofs.LineReads.{read_as, read_said, read_then, read_unread, read_value}
use Rattle.journal_model.specs.declared.step.Outcome.{Outcome}
use Rattle.journal_model.specs.Steps.{Command}
use Rattle.script_lines.specs.declared.script.ScriptItem.{ScriptItem}
use Rattle.script_lines.specs.declared.script.ScriptItem.TheVariants.{Step as step, Kept}
use Rattle.script_lines.specs.Script.{is_outcome_line, kept_in, kept_item, read_command, read_item, step_item}
use Rattle.script_lines.proofs.ScriptFacts.{kept_is, step_is}
use Rattle.script_lines.proofs.script.item_on.Goals as goal

pub returns-in-Ok-clause-reads : goal.returns-in-Ok-clause-reads
returns-in-Ok-clause-reads g c =
    let line : is_outcome_line c.args.fields.now ≡ true = ap is_outcome_line (sym c.as_slice.ensures) ∙ sym c.starts_outcome.ensures ∙ c.if-starts_outcome.true in
    let kept = kept_in c.args.after c.args.fields.now in
    let next : Outcome → Ahead → Found ScriptItem = λ outcome rest. Came (Kept c.args.at outcome) rest in
    let item : ScriptItem = Kept c.args.at c.in-Ok.outcome in
    read_as g.S.Source.left g.S.Source.faults g.S.Source.same g.met.S.Source.same_at_once g.met.S.Source.same_later (read_item c.args.after c.args.at c.args.fields.now) (λ a. kept_item c.args.at (on_line c.args.at kept a)) c.args.lines.now c.args.lines.now (Ok item) (kept_is c.args.after c.args.at c.args.fields.now line)
    (read_then g.S.Source.left g.S.Source.faults g.S.Source.same g.met.S.Source.same_at_once g.met.S.Source.same_later (on_line c.args.at kept) next c.args.lines.now c.args.lines.now c.args.lines.now c.in-Ok.outcome (Ok item)
    (read_said g.S.Source.left g.S.Source.faults g.S.Source.same g.met.S.Source.same_at_once g.met.S.Source.same_later c.args.at kept c.args.lines.now (Ok c.in-Ok.outcome) (ap (kept_in c.args.after) (sym c.as_slice-then-starts_outcome.ensures) ∙ c.in-Ok.ensures.says))
    (read_value g.S.Source.left g.S.Source.faults g.S.Source.same g.met.S.Source.same_at_once g.met.S.Source.same_later (next c.in-Ok.outcome) item c.args.lines.now (λ a. refl)))

pub returns-in-Err-clause-reads : goal.returns-in-Err-clause-reads
returns-in-Err-clause-reads g c =
    let line : is_outcome_line c.args.fields.now ≡ true = ap is_outcome_line (sym c.as_slice.ensures) ∙ sym c.starts_outcome.ensures ∙ c.if-starts_outcome.true in
    let kept = kept_in c.args.after c.args.fields.now in
    let next : Outcome → Ahead → Found ScriptItem = λ outcome rest. Came (Kept c.args.at outcome) rest in
    read_as g.S.Source.left g.S.Source.faults g.S.Source.same g.met.S.Source.same_at_once g.met.S.Source.same_later (read_item c.args.after c.args.at c.args.fields.now) (λ a. kept_item c.args.at (on_line c.args.at kept a)) c.args.lines.now c.args.lines.now (Err c.in-Err.stop) (kept_is c.args.after c.args.at c.args.fields.now line)
    (read_unread g.S.Source.left g.S.Source.faults g.S.Source.same g.met.S.Source.same_at_once g.met.S.Source.same_later (on_line c.args.at kept) next c.args.lines.now c.args.lines.now c.in-Err.stop
    (read_said g.S.Source.left g.S.Source.faults g.S.Source.same g.met.S.Source.same_at_once g.met.S.Source.same_later c.args.at kept c.args.lines.now (Err c.in-Err.stop)
    (subst (λ (l : List (List ℕ)). Says {T = Outcome} c.args.at (kept_in c.args.after l) (Err c.in-Err.stop)) c.as_slice-then-starts_outcome.ensures c.in-Err.ensures.says)))

pub returns-in-Ok-read_command-clause-reads : goal.returns-in-Ok-read_command-clause-reads
returns-in-Ok-read_command-clause-reads g c =
    let line : is_outcome_line c.args.fields.now ≡ false = ap is_outcome_line (sym c.as_slice.ensures) ∙ sym c.starts_outcome.ensures ∙ c.if-starts_outcome.false in
    let first = read_command c.args.at c.args.fields.now in
    let next : Command → Ahead → Found ScriptItem = λ command rest. Came (step command.0 command.1) rest in
    let command = c.in-Ok-read_command.command in
    let item : ScriptItem = step command.0 command.1 in
    read_as g.S.Source.left g.S.Source.faults g.S.Source.same g.met.S.Source.same_at_once g.met.S.Source.same_later (read_item c.args.after c.args.at c.args.fields.now) (λ a. step_item (first a)) c.args.lines.now c.read_command.new.lines (Ok item) (step_is c.args.after c.args.at c.args.fields.now line)
    (read_then g.S.Source.left g.S.Source.faults g.S.Source.same g.met.S.Source.same_at_once g.met.S.Source.same_later first next c.args.lines.now c.read_command.new.lines c.read_command.new.lines command (Ok item) c.in-Ok-read_command.ensures.reads
    (read_value g.S.Source.left g.S.Source.faults g.S.Source.same g.met.S.Source.same_at_once g.met.S.Source.same_later (next command) item c.read_command.new.lines (λ a. refl)))

pub returns-in-Err-read_command-clause-reads : goal.returns-in-Err-read_command-clause-reads
returns-in-Err-read_command-clause-reads g c =
    let line : is_outcome_line c.args.fields.now ≡ false = ap is_outcome_line (sym c.as_slice.ensures) ∙ sym c.starts_outcome.ensures ∙ c.if-starts_outcome.false in
    let first = read_command c.args.at c.args.fields.now in
    let next : Command → Ahead → Found ScriptItem = λ command rest. Came (step command.0 command.1) rest in
    read_as g.S.Source.left g.S.Source.faults g.S.Source.same g.met.S.Source.same_at_once g.met.S.Source.same_later (read_item c.args.after c.args.at c.args.fields.now) (λ a. step_item (first a)) c.args.lines.now c.read_command.new.lines (Err c.in-Err-read_command.stop) (step_is c.args.after c.args.at c.args.fields.now line)
    (read_unread g.S.Source.left g.S.Source.faults g.S.Source.same g.met.S.Source.same_at_once g.met.S.Source.same_later first next c.args.lines.now c.read_command.new.lines c.in-Err-read_command.stop c.in-Err-read_command.ensures.reads)
