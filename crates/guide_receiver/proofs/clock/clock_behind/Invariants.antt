use Rattle.std.proofs.Common.{◌++◌, List, take}
use Rattle.ts_demux.specs.declared.section.RawSection.{RawSection}
use Rattle.guide_receiver.specs.Latest.{IsClock}
use Rattle.guide_receiver.proofs.clock.clock_behind.Given as goal

abbrev pub invariant-loop-section : goal.invariant-loop-section
invariant-loop-section l = (past : List RawSection) → IsClock past l.fn.before → IsClock (past ++ take l.section-index l.sections) l.clock
