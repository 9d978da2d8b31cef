use Rattle.std.proofs.Common.{Some, option_map, sym, ap, ◌∙◌, arith}
use Rattle.sub_collect.specs.Runs.{counted}
use Rattle.sub_collect.specs.Completions.{done_at}
use Rattle.sub_collect.specs.Collectors.{body_in, last_in}
use Rattle.sub_collect.specs.Slots.{held_with, told_with, needed_by, whole_by}
use Rattle.sub_collect.proofs.Putting.{needed-set}
use Rattle.sub_collect.proofs.run.Run.whole_with.Goals as goal

pub returns-then-misses : goal.returns-then-misses
returns-then-misses c =
    let header = c.args.header.now in
    let lasts = c.args.self.now.lasts in
    let held = held_with (λ n. body_in n c.args.self.now.held.entries) header.number c.args.body.now in
    let same = needed-set c.is_eit.result lasts header.number c.from.result c.args.told header.last (omega (arith, c.from.ensures)) c.from.ensures in
    sym (ap (λ o. option_map (done_at (counted c.args.key header c.args.body.now)) (whole_by held o)) (ap (λ b. needed_by b (told_with (last_in lasts) header.number c.args.told) header.last) (sym c.is_eit.ensures) ∙ sym same ∙ sym c.in_ok-needed.ensures ∙ ap (option_map (λ v. v.items)) c.in-Some.is ∙ ap Some (sym c.as_slice.ensures.value))
    ∙ ap (option_map (done_at (counted c.args.key header c.args.body.now))) (c.misses.ensures c.args.body.now c.if-misses.true))
