use Rattle.std.proofs.Common.{ℕ, ◌+◌, ◌-◌, ap, ◌∙◌, List, length, arith}
use Rattle.std.specs.Prelude.{slice_index}
use Rattle.section_codec.specs.Contents.{numbers_from}
use Rattle.air_model.specs.Cutting.{packets_in}
use Rattle.air_model.proofs.Cursors.{tiers_fit, begins-whole}
use Rattle.air_model.proofs.cycle.plan.Goals as goal

pub packets_between-near_packets-requires-clause-bound : goal.packets_between-near_packets-requires-clause-bound
packets_between-near_packets-requires-clause-bound c =
    let fit = tiers_fit c.args.sections.now c.count_fast-fasts.result c.count_near-nears.result c.in_ok-sizes.sizes.items c.count_fast-fasts.ensures c.count_near-nears.ensures c.in_ok-sizes.ensures in
    let l = ap length c.as_slice.ensures.value in
    omega arith

pub invariant_of-body : goal.invariant_of-body
invariant_of-body c =
    let fit = tiers_fit c.args.sections.now c.count_fast-fasts.result c.count_near-nears.result c.in_ok-sizes.sizes.items c.count_fast-fasts.ensures c.count_near-nears.ensures c.in_ok-sizes.ensures in
    record { tiers = omega arith; near_at = omega arith; far_from = omega arith; far_at = fit }

pub returns : goal.returns
returns c = begins-whole c.args.sections.now c.args.quota c.count_fast-fasts.result c.count_near-nears.result c.packets_between-near_packets.result c.in_ok-sizes.sizes.items
    c.count_fast-fasts.ensures c.count_near-nears.ensures c.in_ok-sizes.ensures
    (c.packets_between-near_packets.ensures ∙ ap (λ (s : List ℕ). packets_in (slice_index s) (numbers_from c.count_fast-fasts.result ((c.count_fast-fasts.result + c.count_near-nears.result) - c.count_fast-fasts.result))) c.as_slice.ensures.value)
