use Rattle.std.proofs.Common.{◌+◌, leb, arith, rules}
use Rattle.std.proofs.lemmas.Bool.{leb-true}
use Rattle.std.proofs.lemmas.List.Sorted.{IsPartitionPoint-from_clause, IsPartitionedBy-leb}
use Rattle.feed_book.specs.declared.index.IndexedEvent.{IndexedEvent}
use Rattle.feed_book.proofs.index.first_after.Goals as goal

pub returns-clause-below : goal.returns-clause-below
returns-clause-below c k d h =
    leb-true _ _ ((IsPartitionPoint-from_clause (λ (s : IndexedEvent). leb (s.start + s.seconds) c.args.at) c.args.slots.now c.partition_point.result c.partition_point.ensures.partitioned
    (IsPartitionedBy-leb (λ (s : IndexedEvent). s.start + s.seconds) c.args.slots.now c.args.at c.requires) (λ a r f' t. search rules)).0 k d (omega arith) h)
