use Rattle.std.proofs.Common.{◌≡◌, length}
use Rattle.carousel_player.specs.Packing.{CanTake, packets_from}
use Rattle.carousel_player.proofs.packing.fill_packet.Given as goal

abbrev pub invariant-loop : goal.invariant-loop
invariant-loop g l = record {
  can : CanTake l.packer (g.Q.SectionQueue.sections l.packed.queue) l.packed.from;
  pid : l.packer.pid ≡ l.fn.packer.pid;
  same : packets_from l.packer (g.Q.SectionQueue.sections l.packed.queue) l.packed.from ≡ packets_from l.fn.packer (g.Q.SectionQueue.sections l.fn.packed.queue) l.fn.packed.from;
  keeps : g.Q.SectionQueue.keeps l.fn.packed.queue l.packed.queue;
}

abbrev pub decreases-loop : goal.decreases-loop
decreases-loop g l = length (g.Q.SectionQueue.sections l.packed.queue)
