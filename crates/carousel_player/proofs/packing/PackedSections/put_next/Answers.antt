use Rattle.std.proofs.Common.{sym, subst}
use Rattle.ts_packets.specs.Packer.{Begun}
use Rattle.carousel_player.specs.Packing.{IsFilled}
use Rattle.carousel_player.proofs.Steps.{puts_first}
use Rattle.carousel_player.proofs.packing.PackedSections.put_next.Goals as goal

pub returns-clause-first : goal.returns-clause-first
returns-clause-first g c =
    let old = c.args.self.now in
    let new = c.fill_packet.new.packed in
    let ss = g.Q.SectionQueue.sections old.queue in
    let left = g.Q.SectionQueue.sections new.queue in
    let filled = subst (λ (b : Begun). IsFilled b c.fill_packet.new.packer ss left old.from new.from) c.open-packer.ensures c.fill_packet.ensures.filled in
    puts_first ss left old.from new.from c.in-Some.pid c.fill_packet.new.packer c.finish_into.new.into c.pid.ensures.fit (sym c.in-Some.ensures.first) filled c.finish_into.ensures.packet
