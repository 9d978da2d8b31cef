use Rattle.std.proofs.Common.{arith}
use Rattle.guide_receiver.proofs.Latest.{clock-step}
use Rattle.guide_receiver.proofs.clock.clock_behind.Goals as goal
use Rattle.guide_receiver.proofs.clock.clock_behind.Goals.{in-Some, in_default}

pub loop-section-preserved : goal.loop-section-preserved
loop-section-preserved c = λ past is.
    clock-step past c.args.sections.now c.loop-section.section-index c.section-item.result c.loop-section.clock c.in_ok-at.field-0 c.match-branch-2.clock
    c.loop-section-test.true c.section-item.is (c.loop-section.invariant past is) c.in_ok-at.ensures
    (elim c.match-branch-2.branch [ in-Some w ↦ grind arith | in_default w ↦ grind arith ])
