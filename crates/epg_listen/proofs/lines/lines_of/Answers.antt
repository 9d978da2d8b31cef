use Rattle.std.proofs.Common.{refl}
use Rattle.epg_listen.proofs.LineFacts.{lines_next}
use Rattle.epg_listen.proofs.lines.lines_of.Goals as goal

pub loop-done-preserved : goal.loop-done-preserved
loop-done-preserved c =
    lines_next c.args.number c.args.dones.now c.loop-done.done-index _ _ c.loop-done.text.items c.write_done.new.out.items c.loop-done-test.true refl c.loop-done.invariant c.in_ok-write_done.ensures.line
