use Rattle.std.proofs.Common.{◌≡◌, ◌++◌, List, map, take}
use Rattle.sub_collect.specs.Marks.{Taken, all_took, dones_over}
use Rattle.sub_collect.specs.Collectors.{CollectorStandsOver}
use Rattle.guide_receiver.specs.Counting.{counted_among}
use Rattle.guide_receiver.specs.Known.{AreKnown}
use Rattle.guide_receiver.specs.Latest.{keys_shown_over, kept_keys, AreLatest}
use Rattle.guide_receiver.specs.Dones.{done_key}
use Rattle.guide_receiver.proofs.receiver.count_all.Given as goal

abbrev pub invariant-loop-section : goal.invariant-loop-section
invariant-loop-section l =
    AreKnown l.collector l.known × ((past : List Taken) → CollectorStandsOver past l.fn.collector
    → CollectorStandsOver (past ++ all_took (counted_among (take l.section-index l.sections))) l.collector
    × (l.shown ≡ l.fn.shown ++ map done_key (dones_over past (all_took (counted_among (take l.section-index l.sections)))))
    × (AreLatest (keys_shown_over past) (kept_keys l.fn.latest) → AreLatest (keys_shown_over (past ++ all_took (counted_among (take l.section-index l.sections)))) (kept_keys l.latest)))
