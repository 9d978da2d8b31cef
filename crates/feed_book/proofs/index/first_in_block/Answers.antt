use Rattle.std.proofs.Common.{ltb, arith, rules}
use Rattle.std.proofs.lemmas.Bool.{ltb-true}
use Rattle.std.proofs.lemmas.List.Sorted.{IsPartitionPoint-from_clause, IsPartitionedBy-ltb}
use Rattle.feed_book.specs.declared.index.IndexedEvent.{IndexedEvent}
use Rattle.guide_limits.specs.Events.{block_of}
use Rattle.feed_book.proofs.SearchLemmas.{blocks_rise}
use Rattle.feed_book.proofs.index.first_in_block.Goals as goal

pub returns-clause-below : goal.returns-clause-below
returns-clause-below c k d h =
    ltb-true _ _ ((IsPartitionPoint-from_clause (λ (s : IndexedEvent). ltb (block_of s.start) c.args.block) c.args.slots.now c.partition_point.result c.partition_point.ensures.partitioned
    (IsPartitionedBy-ltb (λ (s : IndexedEvent). block_of s.start) c.args.slots.now c.args.block (λ i j d l m. blocks_rise c.args.slots.now i j d c.requires l m)) (λ a r f' t. search rules)).0 k d (omega arith) h)
