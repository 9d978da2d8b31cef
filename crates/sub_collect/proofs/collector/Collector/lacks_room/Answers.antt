use Rattle.std.proofs.Common.{arith, sym, subst}
use Rattle.std.proofs.lemmas.Bool.Decides.{nat_tests}
use Rattle.sub_collect.specs.Collectors.{CollectorStandsOver}
use Rattle.sub_collect.proofs.KeyCounts.{full-lacks, room-left}
use Rattle.sub_collect.proofs.collector.Collector.lacks_room.Goals as goal

pub returns-then-len-ge-MOST_KEYS : goal.returns-then-len-ge-MOST_KEYS
returns-then-len-ge-MOST_KEYS c = λ past s of_key stands.
    let kept = subst (CollectorStandsOver past) (sym c.self.view_is) stands in
    full-lacks past s c.args.key c.self.inside.slots.entries c.contains_key.result of_key c.contains_key.ensures c.len.ensures.ordered
    (grind (arith, nat_tests, c.len.ensures.len, c.if-len-ge-MOST_KEYS.true)) kept

pub returns-else-len-ge-MOST_KEYS : goal.returns-else-len-ge-MOST_KEYS
returns-else-len-ge-MOST_KEYS c = λ past s of_key stands.
    let kept = subst (CollectorStandsOver past) (sym c.self.view_is) stands in
    let few = room-left past s c.self.inside.slots.entries c.len.ensures.ordered (grind (arith, nat_tests, c.len.ensures.len, c.if-len-ge-MOST_KEYS.false)) kept in
    (λ full. absurd (let z : Prim.⊥ = grind (arith, nat_tests, full, c.if-len-ge-MOST_KEYS.false) in z), λ many. absurd (let z : Prim.⊥ = omega (arith, few, many) in z))
