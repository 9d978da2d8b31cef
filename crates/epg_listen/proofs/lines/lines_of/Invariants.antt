use Rattle.std.proofs.Common.{◌≡◌, map, take}
use Rattle.guide_receiver.specs.Dones.{at_packet}
use Rattle.guide_receiver.specs.Texts.{done_lines}
use Rattle.epg_listen.proofs.lines.lines_of.Given as goal

abbrev pub invariant-loop-done : goal.invariant-loop-done
invariant-loop-done l = l.text.items ≡ done_lines (map (at_packet l.number) (take l.done-index l.dones))
