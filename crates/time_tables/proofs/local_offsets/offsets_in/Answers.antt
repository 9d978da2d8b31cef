use Rattle.std.proofs.Common.{◌≡◌, ◌-◌, List, length, take, drop, refl, sym, subst}
use Rattle.si_lists.proofs.Lists.{behind}
use Rattle.guide_model.specs.declared.offset.Offset.{Offset}
use Rattle.time_tables.specs.LocalOffsets.{offsets_in}
use Rattle.time_tables.proofs.Offsets.{next_entry}
use Rattle.time_tables.proofs.local_offsets.offsets_in.Goals as goal

pub loop-rest-preserved : goal.loop-rest-preserved
loop-rest-preserved c =
    let rest = c.loop-rest.rest.now in
    subst (λ (l : List Offset). offsets_in c.args.body.now ≡ behind l (offsets_in (take (length rest - 13) (drop 13 rest)))) (sym c.in_ok-push.ensures.items)
    (next_entry c.args.body.now c.loop-rest.offsets.items rest c.in-Some.offset c.in-len13-up.len_at_least c.loop-rest.invariant (c.in-Some.ensures _ _ _ _ refl refl))
