use Rattle.std.proofs.Common.{◌≡◌, ◌∙◌, [], ap, sym, subst, arith}
use Rattle.std.specs.Prelude.{Option, None, Some}
use Rattle.input_lines.proofs.LineReads.{read_memory}
use Rattle.script_notes.specs.declared.head.LineHead.{LineHead}
use Rattle.script_notes.specs.declared.head.LineHead.TheVariants as head
use Rattle.script_notes.specs.declared.noting.Held.TheVariants.{Nothing, Attached}
use Rattle.script_notes.specs.declared.noting.Noting.TheVariants.{Item, Bad}
use Rattle.script_notes.specs.declared.why.Why.{Why}
use Rattle.script_notes.specs.Faults.{why_line}
use Rattle.script_notes.specs.Heads.{line_head}
use Rattle.script_notes.specs.Notings.{told, unattached}
use Rattle.script_notes.specs.Walks.{day_walk, head_walk, line_walk}
use Rattle.script_notes.specs.Whys.{CanBeSaid}
use Rattle.input_lines.specs.Ahead.{Found, Came}
use Rattle.script_notes.specs.declared.noting.Noting.{Noting}
use Rattle.script_notes.proofs.NoteReads.{line_noted, noted_as}
use Rattle.script_notes.proofs.SaidFacts.{line_said}
use Rattle.script_notes.proofs.reading.note_line.Goals as goal

pub returns-in_default-clause-reads : goal.returns-in_default-clause-reads
returns-in_default-clause-reads g c =
    read_memory g.S.Source.left g.S.Source.faults g.S.Source.same g.met.S.Source.same_at_once g.met.S.Source.same_later (line_walk c.args.after (c.args.at, c.args.lines.now.line)) c.args.lines.now

pub returns-in-Some-Whole-clause-reads : goal.returns-in-Some-Whole-clause-reads
returns-in-Some-Whole-clause-reads g c =
    let why = told (why_line c.args.after c.args.lines.now.line) in
    let is : line_head c.args.after c.args.at c.args.lines.now.line ≡ Some (head.Whole c.in-Some-Whole.item) =
    ap (line_head c.args.after c.args.at) (sym c.line.ensures) ∙ sym c.in-Ok.ensures.value ∙ c.in-Some-Whole.is ∙ ap (λ (h : LineHead). Some h) c.in-Some-Whole.field-0-is in
    line_noted g.S.Source.left g.S.Source.faults g.S.Source.same g.met.S.Source.same_at_once g.met.S.Source.same_later c.args.after (c.args.at, c.args.lines.now.line) (Item c.in-Some-Whole.item) Nothing c.args.lines.now c.requires.going tt (omega arith)
    (λ a. ap (λ (h : Option LineHead). head_walk why c.args.at h a) is)

pub returns-in-Some-OfDay-clause-reads : goal.returns-in-Some-OfDay-clause-reads
returns-in-Some-OfDay-clause-reads g c =
    let why = told (why_line c.args.after c.args.lines.now.line) in
    let day = c.in-Some-OfDay.day in
    let is : line_head c.args.after c.args.at c.args.lines.now.line ≡ Some (head.OfDay day) =
    ap (line_head c.args.after c.args.at) (sym c.line.ensures) ∙ sym c.in-Ok.ensures.value ∙ c.in-Some-OfDay.is ∙ ap (λ (h : LineHead). Some h) c.in-Some-OfDay.field-0-is in
    noted_as g.S.Source.left g.S.Source.faults g.S.Source.same g.met.S.Source.same_at_once g.met.S.Source.same_later (line_walk c.args.after (c.args.at, c.args.lines.now.line)) (day_walk day day.count []) c.args.lines.now c.read_day.new.lines c.read_day.result
    c.requires.going (λ a. ap (λ (h : Option LineHead). head_walk why c.args.at h a) is) c.read_day.ensures.reads

pub returns-in-Ok-why_of_line-clause-reads : goal.returns-in-Ok-why_of_line-clause-reads
returns-in-Ok-why_of_line-clause-reads g c =
    let why = told (why_line c.args.after c.args.lines.now.line) in
    let is : line_head c.args.after c.args.at c.args.lines.now.line ≡ None = ap (line_head c.args.after c.args.at) (sym c.line.ensures) ∙ sym c.in-Ok.ensures.value ∙ c.in-None.is in
    let same : why ≡ c.in-Ok-why_of_line.why = ap (λ l. told (why_line c.args.after l)) (sym c.line-in-None.ensures) ∙ sym c.in-Ok-why_of_line.ensures in
    line_noted g.S.Source.left g.S.Source.faults g.S.Source.same g.met.S.Source.same_at_once g.met.S.Source.same_later c.args.after (c.args.at, c.args.lines.now.line) (Bad c.args.at c.in-Ok-why_of_line.why) Attached c.args.lines.now c.requires.going tt (omega arith)
    (λ a. ap (λ (h : Option LineHead). head_walk why c.args.at h a) is ∙ ap (λ (w : Why). let r : Found Noting = Came (Bad c.args.at w) (unattached a) in r) same)

pub returns-in-Ok-why_of_line-clause-sound : goal.returns-in-Ok-why_of_line-clause-sound
returns-in-Ok-why_of_line-clause-sound g c = (tt, subst (λ (w : Why). CanBeSaid w) (sym c.in-Ok-why_of_line.ensures) (line_said c.args.after c.line-in-None.result.now))

pub returns-in-Err-clause-reads : goal.returns-in-Err-clause-reads
returns-in-Err-clause-reads g c =
    read_memory g.S.Source.left g.S.Source.faults g.S.Source.same g.met.S.Source.same_at_once g.met.S.Source.same_later (line_walk c.args.after (c.args.at, c.args.lines.now.line)) c.args.lines.now
