use Rattle.std.proofs.Common.{leb, ltb, arith, rules, sym}
use Rattle.std.proofs.lemmas.Bool.{ltb-true, ltb-false, le-leb, lt-leb}
use Rattle.std.proofs.lemmas.List.Sums.{position_or_len_is}
use Rattle.std.proofs.lemmas.List.Sorted.{IsPartitionPoint-from_clause, IsPartitionedBy-ltb}
use Rattle.feed_book.specs.declared.index.IndexedEvent.{IndexedEvent}
use Rattle.feed_book.proofs.index.place_of_start.Goals as goal

pub returns : goal.returns
returns c rises =
    let none : IndexedEvent = record { id = 0; start = 0; seconds = 0; size = 0 } in
    let parts = IsPartitionPoint-from_clause (λ (s : IndexedEvent). ltb s.start c.args.start) c.args.slots.now c.partition_point.result c.partition_point.ensures.partitioned
    (IsPartitionedBy-ltb (λ (s : IndexedEvent). s.start) c.args.slots.now c.args.start rises) (λ a r f' t. search rules) in
    sym (position_or_len_is (λ (s : IndexedEvent). leb c.args.start s.start) c.args.slots.now c.partition_point.result none c.partition_point.ensures.bound
    (λ k h. lt-leb _ _ (ltb-true _ _ (parts.0 k none (omega arith) h)))
    (λ h. le-leb _ _ (ltb-false _ _ (parts.1 c.partition_point.result none (omega arith) h))))
