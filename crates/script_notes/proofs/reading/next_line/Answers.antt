use Rattle.std.proofs.Common.{sym, subst, ℕ}
use Rattle.std.specs.Prelude.{Ok, Some, None}
use Rattle.input_lines.specs.Going.{HasEnded}
use Rattle.script_notes.specs.declared.noting.Held.{Held}
use Rattle.script_notes.specs.declared.noting.Held.TheVariants.{Line}
use Rattle.script_notes.specs.Held.{IsHeldBy}
use Rattle.script_notes.specs.Walks.{IsRowRead}
use Rattle.script_notes.proofs.RowReads.{ended_row, held_row, plain_row}
use Rattle.script_notes.proofs.reading.next_line.Goals as goal

pub returns-in-Nothing : goal.returns-in-Nothing
returns-in-Nothing g c =
    subst (λ (h : Held). IsRowRead g.S.Source.left g.S.Source.faults g.S.Source.same h c.args.lines.now c.next_record_line.new.lines c.next_record_line.result) (sym c.in-Nothing.is)
    (plain_row g.S.Source.left g.S.Source.faults g.S.Source.same g.met.S.Source.same_at_once g.met.S.Source.same_later c.args.lines.now c.next_record_line.new.lines c.next_record_line.result c.requires.going c.next_record_line.ensures)

pub returns-in-Line : goal.returns-in-Line
returns-in-Line g c =
    subst (λ (h : Held). IsRowRead g.S.Source.left g.S.Source.faults g.S.Source.same h c.args.lines.now c.args.lines.now (Ok (Some c.number.result))) (sym c.in-Line.is)
    (subst (λ (n : ℕ). IsRowRead g.S.Source.left g.S.Source.faults g.S.Source.same Line c.args.lines.now c.args.lines.now (Ok (Some n))) (sym c.number.ensures.value)
    (held_row g.S.Source.left g.S.Source.faults g.S.Source.same g.met.S.Source.same_at_once g.met.S.Source.same_later c.args.lines.now c.requires.going))

pub returns-in-Ended : goal.returns-in-Ended
returns-in-Ended g c =
    let done : HasEnded g.S.Source.left c.args.lines.now = subst (λ (h : Held). IsHeldBy g.S.Source.left h c.args.lines.now) c.in-Ended.is c.requires.held in
    subst (λ (h : Held). IsRowRead g.S.Source.left g.S.Source.faults g.S.Source.same h c.args.lines.now c.args.lines.now (Ok None)) (sym c.in-Ended.is)
    (ended_row g.S.Source.left g.S.Source.faults g.S.Source.same g.met.S.Source.same_at_once g.met.S.Source.same_later c.args.lines.now c.requires.going done)
