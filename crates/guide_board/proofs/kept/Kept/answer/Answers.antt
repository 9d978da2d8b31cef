use Rattle.std.proofs.Common.{rules, ◌≡◌, ap, sym, ◌∙◌, Some, None}
use Rattle.std.specs.List.{find}
use Rattle.std.specs.Prelude.{is_some}
use Rattle.guide_board.specs.Lines.{is_line}
use Rattle.guide_board.proofs.Sheets.{answered, not_served, serves_found}
use Rattle.guide_board.proofs.kept.Kept.answer.Goals as goal

pub returns-in-Some : goal.returns-in-Some
returns-in-Some c =
    let found : find (is_line c.args.service) c.self.inside.lines.items ≡ Some c.in-Some.line.now = search rules in
    rw (← c.self.view_is) (record { answer = answered _ _ _ _ c.self.invariant _ c.in-Some.line.now found; served = sym (serves_found _ _ _ _ c.self.invariant _ ∙ ap is_some found) })

pub returns-in-None : goal.returns-in-None
returns-in-None c =
    let found : find (is_line c.args.service) c.self.inside.lines.items ≡ None = search rules in
    rw (← c.self.view_is) (record { answer = not_served _ _ _ _ c.self.invariant _ found; served = sym (serves_found _ _ _ _ c.self.invariant _ ∙ ap is_some found) })
