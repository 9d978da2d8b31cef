use Rattle.std.proofs.Common.{rules, ◌≡◌}
use Rattle.std.specs.Arc.{arc_value}
use Rattle.guide_board.specs.Lines.{lines_of}
use Rattle.guide_board.proofs.Sheets.{opening_sheet}
use Rattle.guide_board.proofs.writer.opening.Goals as goal

pub invariant_of-result : goal.invariant_of-result
invariant_of-result c =
    let z : (arc_value c.in_ok-sheet.sheet).later ≡ 0 = search rules in
    let n : (arc_value c.in_ok-sheet.sheet).number ≡ c.args.number = search rules in
    let l : (arc_value c.in_ok-sheet.sheet).lines.items ≡ lines_of c.args.guide.now.guide = search rules in
    opening_sheet _ _ _ _ _ _ z n l c.begin-count.ensures.log
