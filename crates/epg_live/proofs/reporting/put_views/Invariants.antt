use Rattle.std.proofs.Common.{◌≡◌, ◌++◌, take}
use Rattle.epg_live.specs.Views.{views_text}
use Rattle.epg_live.proofs.reporting.put_views.Given as goal

abbrev pub invariant-loop-line : goal.invariant-loop-line
invariant-loop-line l = l.out.items ≡ l.fn.out.items ++ views_text (take l.line-index l.lines)
