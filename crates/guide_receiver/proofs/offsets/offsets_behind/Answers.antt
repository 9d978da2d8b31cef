use Rattle.std.proofs.Common.{arith}
use Rattle.guide_receiver.proofs.Latest.{told-step}
use Rattle.guide_receiver.proofs.offsets.offsets_behind.Goals as goal
use Rattle.guide_receiver.proofs.offsets.offsets_behind.Goals.{in-Some, in_default}

pub loop-section-preserved : goal.loop-section-preserved
loop-section-preserved c =
    told-step c.args.sections.now c.loop-section.section-index c.section-item.result c.loop-section.told c.in_ok-offsets.field-0 c.match-branch-2.told
    c.loop-section-test.true c.section-item.is c.loop-section.invariant c.in_ok-offsets.ensures
    (elim c.match-branch-2.branch [ in-Some w ↦ grind arith | in_default w ↦ grind arith ])
