use Rattle.std.proofs.Common.{leb, ltb, get_or, arith, rules, sym}
use Rattle.std.proofs.lemmas.Bool.{leb-true, leb-false, le-ltb, lt-ltb}
use Rattle.std.proofs.lemmas.List.Sorted.{IsPartitionPoint-from_clause, IsPartitionedBy-leb}
use Rattle.std.proofs.lemmas.List.Sums.{position_or_len_is}
use Rattle.eit_segments.specs.declared.event.EventAt.{EventAt}
use Rattle.eit_segments.proofs.Order.{starts_rise}
use Rattle.eit_segments.proofs.present.first_after.Goals as goal

pub returns-clause-place : goal.returns-clause-place
returns-clause-place c =
    let none : EventAt = record { start = record { 0 = 0 }; seconds = 0; size = 0 } in
    let events = c.args.events.now in
    let at = c.args.at.0 in
    let n = c.partition_point.result in
    let parts = IsPartitionPoint-from_clause (λ (e : EventAt). leb e.start.0 at) events n c.partition_point.ensures.partitioned
    (IsPartitionedBy-leb (λ (e : EventAt). e.start.0) events at (starts_rise events c.requires)) (λ a r f' t. search rules) in
    sym (position_or_len_is (λ (e : EventAt). ltb at e.start.0) events n none c.partition_point.ensures.bound
    (λ k l. le-ltb at (get_or events k none).start.0 (leb-true (get_or events k none).start.0 at (parts.0 k none (omega arith) l)))
    (λ l. lt-ltb at (get_or events n none).start.0 (leb-false (get_or events n none).start.0 at (parts.1 n none (omega arith) l))))
