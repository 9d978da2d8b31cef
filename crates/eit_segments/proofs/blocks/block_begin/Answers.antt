use Rattle.std.proofs.Common.{ltb, arith, rules, sym}
use Rattle.std.proofs.lemmas.Bool.{ltb-true, ltb-false}
use Rattle.std.proofs.lemmas.List.Sorted.{IsPartitionPoint-from_clause, IsPartitionedBy-ltb}
use Rattle.eit_segments.specs.declared.event.EventAt.{EventAt}
use Rattle.eit_segments.specs.Placement.{start_block}
use Rattle.eit_segments.proofs.Order.{blocks_rise, place_is}
use Rattle.eit_segments.proofs.blocks.block_begin.Goals as goal

pub returns-clause-place : goal.returns-clause-place
returns-clause-place c =
    let none : EventAt = record { start = record { 0 = 0 }; seconds = 0; size = 0 } in
    let parts = IsPartitionPoint-from_clause (λ (e : EventAt). ltb (start_block e) c.args.block) c.args.events.now c.partition_point.result c.partition_point.ensures.partitioned
    (IsPartitionedBy-ltb start_block c.args.events.now c.args.block (blocks_rise c.args.events.now c.requires)) (λ a r f' t. search rules) in
    sym (place_is c.args.block c.args.events.now c.partition_point.result none c.partition_point.ensures.bound
    (λ k l. ltb-true _ _ (parts.0 k none (omega arith) l)) (λ l. ltb-false _ _ (parts.1 c.partition_point.result none (omega arith) l)))
