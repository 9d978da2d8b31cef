use Rattle.std.proofs.Common.{refl, sym, subst}
use Rattle.sub_collect.specs.KeyCounts.{HaveFewKeys}
use Rattle.sub_collect.specs.Marks.{sections_taken}
use Rattle.sub_collect.proofs.MarksShown.{sections-took}
use Rattle.sub_collect.specs.Runs.{counted}
use Rattle.sub_collect.proofs.KeyCounts.{few-left}
use Rattle.sub_collect.proofs.collector.Collector.take.Goals as goal

pub returns-in-Ok-clause-stands : goal.returns-in-Ok-clause-stands
returns-in-Ok-clause-stands c = λ past stands.
    let s = counted c.args.key c.args.header.now c.args.body in
    record {
      each = c.in-Ok.ensures.stands past stands.each;
      few = subst HaveFewKeys (sym (sections-took past s)) (few-left (sections_taken past) s c.lacks_room.result c.if-lacks_room.false (c.lacks_room.ensures past s refl stands));
    }
