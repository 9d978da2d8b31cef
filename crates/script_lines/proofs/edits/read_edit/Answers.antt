use Rattle.std.proofs.Common.{◌≡◌, ◌≤◌, List, ℕ, length, drop, arith, inl, inr, ap, subst}
use Rattle.std.specs.Prelude.{Ok, Err}
use Rattle.std.proofs.lemmas.Grind.{common_steps}
use Rattle.input_lines.specs.Ahead.{on_line}
use Rattle.input_lines.specs.Reads.{ReadOf}
use Rattle.input_lines.proofs.LineReads.{read_refused, read_said, read_then, read_unread}
use Rattle.journal_model.specs.declared.edit.Edit.{Edit}
use Rattle.script_lines.specs.Heads.{edit_head}
use Rattle.script_lines.specs.Edits.{read_edit, with_items}
use Rattle.script_lines.proofs.EditFacts.{past_fields}
use Rattle.script_lines.proofs.edits.read_edit.Goals as goal

pub returns-in_default-clause-reads : goal.returns-in_default-clause-reads
returns-in_default-clause-reads g c =
    let past : length c.as_slice.result.now ≤ c.args.from = elim c.in_default.ensures.lookup.0 [ inl h ↦ omega arith | inr h ↦ omega arith ] in
    let all : length c.args.fields.now ≤ c.args.from = omega (arith, past, ap length c.as_slice.ensures) in
    read_refused g.S.Source.left g.S.Source.faults g.S.Source.same g.met.S.Source.same_at_once g.met.S.Source.same_later (read_edit c.args.at (drop c.args.from c.args.fields.now)) c.args.at c.args.lines.now
    (λ a. past_fields c.args.from c.args.fields.now c.args.at a all)

pub returns-in-Ok-clause-reads : goal.returns-in-Ok-clause-reads
returns-in-Ok-clause-reads g c =
    let same : c.in-Some.fields.now ≡ drop c.args.from c.args.fields.now = grind (arith, common_steps) in
    let head = edit_head c.in-Some.fields.now in
    subst (λ (l : List (List ℕ)). ReadOf g.S.Source.left g.S.Source.faults g.S.Source.same (read_edit c.args.at l) c.args.lines.now c.with_items.new.lines c.with_items.result) same
    (read_then g.S.Source.left g.S.Source.faults g.S.Source.same g.met.S.Source.same_at_once g.met.S.Source.same_later (on_line c.args.at head) with_items c.args.lines.now c.args.lines.now c.with_items.new.lines c.in-Ok.head c.with_items.result
    (read_said g.S.Source.left g.S.Source.faults g.S.Source.same g.met.S.Source.same_at_once g.met.S.Source.same_later c.args.at head c.args.lines.now (Ok c.in-Ok.head) c.in-Ok.ensures.says) c.with_items.ensures.reads)

pub returns-in-Err-clause-reads : goal.returns-in-Err-clause-reads
returns-in-Err-clause-reads g c =
    let same : c.in-Some.fields.now ≡ drop c.args.from c.args.fields.now = grind (arith, common_steps) in
    let head = edit_head c.in-Some.fields.now in
    subst (λ (l : List (List ℕ)). ReadOf {T = Edit} g.S.Source.left g.S.Source.faults g.S.Source.same (read_edit c.args.at l) c.args.lines.now c.args.lines.now (Err c.in-Err.stop)) same
    (read_unread g.S.Source.left g.S.Source.faults g.S.Source.same g.met.S.Source.same_at_once g.met.S.Source.same_later (on_line c.args.at head) with_items c.args.lines.now c.args.lines.now c.in-Err.stop
    (read_said g.S.Source.left g.S.Source.faults g.S.Source.same g.met.S.Source.same_at_once g.met.S.Source.same_later c.args.at head c.args.lines.now (Err c.in-Err.stop) c.in-Err.ensures.says))
