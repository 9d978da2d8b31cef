use Rattle.std.proofs.Common.{take, drop, sym, ap, ◌∙◌, take-append-drop}
use Rattle.std.proofs.lemmas.List.{map-append}
use Rattle.si_lists.proofs.Outcomes.{on_err}
use Rattle.air_monitor.specs.Heard.{AppendsFrontOf, line_at, lines_at}
use Rattle.air_monitor.proofs.done_line.push_lines.Goals as goal

pub returns-in_err-push_line-clause-memory : goal.returns-in_err-push_line-clause-memory
returns-in_err-push_line-clause-memory c =
    let i = c.loop-done.done-index in
    let shown = c.args.shown.now in
    on_err c.from_residual.result (AppendsFrontOf c.args.lines.now c.push_line.new.lines (lines_at c.args.packet shown)) (
      lines_at c.args.packet (take i shown),
      (lines_at c.args.packet (drop i shown), ap (lines_at c.args.packet) (sym (take-append-drop i shown)) ∙ map-append (line_at c.args.packet) (take i shown) (drop i shown)),
      c.in_err-push_line.ensures.memory ∙ c.loop-done.invariant,
    )
