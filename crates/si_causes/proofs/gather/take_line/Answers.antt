use Rattle.std.proofs.Common.{◌++◌, ◌+◌, take, drop, length, ap, sym, ◌∙◌}
use Rattle.std.proofs.Math.Seq.{drop-length}
use Rattle.si_causes.specs.Lines.{first_line, after_line, has_end}
use Rattle.si_causes.proofs.LineFacts.{lf_found, lf_none, first_line_whole, after_line_none}
use Rattle.si_causes.proofs.gather.take_line.Goals as goal

pub returns-in-Some-clause-line : goal.returns-in-Some-clause-line
returns-in-Some-clause-line c =
    let p = lf_found c.bytes-piece.result.now c.in-Some.at (sym c.in-Some.ensures.place) in
    c.add.ensures ∙ ap (λ l. take 16386 (c.args.line.now ++ l)) (c.split_at.ensures.front ∙ sym p.1 ∙ ap first_line c.bytes-piece.ensures)

pub returns-in-Some-clause-held : goal.returns-in-Some-clause-held
returns-in-Some-clause-held c =
    let p = lf_found c.bytes-piece.result.now c.in-Some.at (sym c.in-Some.ensures.place) in
    c.consume.ensures ∙ ap (drop (c.in-Some.at + 1)) (sym c.bytes-piece.ensures) ∙ sym p.2 ∙ ap after_line c.bytes-piece.ensures

pub returns-in-Some-clause-found : goal.returns-in-Some-clause-found
returns-in-Some-clause-found c =
    sym (lf_found c.bytes-piece.result.now c.in-Some.at (sym c.in-Some.ensures.place)).0 ∙ ap has_end c.bytes-piece.ensures

pub returns-in-None-clause-line : goal.returns-in-None-clause-line
returns-in-None-clause-line c =
    let none = lf_none c.bytes-piece.result.now (sym c.in-None.ensures.place) in
    c.add-in-None.ensures ∙ ap (λ l. take 16386 (c.args.line.now ++ l)) (sym (first_line_whole c.bytes-piece.result.now none) ∙ ap first_line c.bytes-piece.ensures)

pub returns-in-None-clause-held : goal.returns-in-None-clause-held
returns-in-None-clause-held c =
    let piece = c.bytes-piece.result.now in
    let none = lf_none piece (sym c.in-None.ensures.place) in
    c.consume-in-None.ensures ∙ ap (drop (length piece)) (sym c.bytes-piece.ensures) ∙ drop-length piece ∙ sym (after_line_none piece none) ∙ ap after_line c.bytes-piece.ensures

pub returns-in-None-clause-found : goal.returns-in-None-clause-found
returns-in-None-clause-found c =
    sym (lf_none c.bytes-piece.result.now (sym c.in-None.ensures.place)) ∙ ap has_end c.bytes-piece.ensures
