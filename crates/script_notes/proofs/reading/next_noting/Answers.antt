use Rattle.script_notes.proofs.NoteReads.{ended_by, noting_came, noting_ends, noting_stopped}
use Rattle.script_notes.proofs.reading.next_noting.Goals as goal

pub returns-in-Ok-None-clause-reads : goal.returns-in-Ok-None-clause-reads
returns-in-Ok-None-clause-reads g c =
    let k = rw c.in-Ok-None.field-0-is at c.in-Ok-None.ensures in
    noting_ends g.S.Source.left g.S.Source.faults g.S.Source.same g.met.S.Source.same_at_once g.met.S.Source.same_later c.args.after c.args.held.now c.args.lines.now c.next_line.new.lines k

pub returns-in-Ok-clause-reads : goal.returns-in-Ok-clause-reads
returns-in-Ok-clause-reads g c =
    let row = rw c.in-Ok-Some.field-0-is at c.in-Ok-Some.ensures in
    noting_came g.S.Source.left g.S.Source.faults g.S.Source.same g.met.S.Source.same_at_once g.met.S.Source.same_later c.args.after c.args.held.now c.in-Ok.now c.args.lines.now c.next_line.new.lines c.note_line.new.lines c.in-Ok-Some.at c.in-Ok.noting
    c.requires.going row c.in-Ok.ensures.sound.0 c.in-Ok.ensures.reads

pub returns-in-Err-note_line-clause-reads : goal.returns-in-Err-note_line-clause-reads
returns-in-Err-note_line-clause-reads g c =
    let row = rw c.in-Ok-Some.field-0-is at c.in-Ok-Some.ensures in
    noting_stopped g.S.Source.left g.S.Source.faults g.S.Source.same g.met.S.Source.same_at_once g.met.S.Source.same_later c.args.after c.args.held.now c.args.lines.now c.next_line.new.lines c.note_line.new.lines c.in-Ok-Some.at c.in-Err-note_line.stop
    c.requires.going row c.in-Err-note_line.ensures.reads

pub returns-in-Ok-None-clause-going : goal.returns-in-Ok-None-clause-going
returns-in-Ok-None-clause-going g c = let k = rw c.in-Ok-None.field-0-is at c.in-Ok-None.ensures in k.takes.looked.going

pub returns-in-Ok-None-clause-held : goal.returns-in-Ok-None-clause-held
returns-in-Ok-None-clause-held g c =
    let k = rw c.in-Ok-None.field-0-is at c.in-Ok-None.ensures in
    ended_by g.S.Source.left c.args.held.now c.next_line.new.lines k.takes.done

pub returns-in-Ok-clause-going : goal.returns-in-Ok-clause-going
returns-in-Ok-clause-going g c = c.in-Ok.ensures.reads.takes.looked.going

pub returns-in-Ok-clause-held : goal.returns-in-Ok-clause-held
returns-in-Ok-clause-held g c = c.in-Ok.ensures.reads.held_by
