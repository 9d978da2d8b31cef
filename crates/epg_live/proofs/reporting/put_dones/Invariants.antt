use Rattle.std.proofs.Common.{◌≡◌, ◌++◌, take}
use Rattle.epg_live.specs.Ends.{done_text}
use Rattle.epg_live.proofs.reporting.put_dones.Given as goal

abbrev pub invariant-loop-line : goal.invariant-loop-line
invariant-loop-line l = l.out.items ≡ l.initial.out.items ++ done_text (take l.line-index l.dones)
