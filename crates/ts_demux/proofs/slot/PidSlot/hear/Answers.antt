use Rattle.std.proofs.Common.{sym, subst}
use Rattle.ts_demux.specs.Steps.{IsOpen, still_open}
use Rattle.ts_demux.proofs.Machine.{open_behind-open}
use Rattle.ts_demux.proofs.slot.PidSlot.hear.Goals as goal

pub invariant_of-self-3 : goal.invariant_of-self-3
invariant_of-self-3 c =
    subst IsOpen (sym c.in_ok-sections.ensures.kept)
    (open_behind-open (still_open c.is_next-follows.result c.self.inside.section) (record { start = c.args.load.start; payload = c.split_at.result.1.now }))
