use Rattle.std.proofs.Common.{◌≡◌, ℕ, ◌+◌, ◌-◌, ◌*◌, ◌++◌, List, length, flat_map, append_assoc, arith, sym, ap, ◌∙◌}
use Rattle.std.specs.List.{range_with_len}
use Rattle.eit_segments.specs.declared.piece.Piece.{Piece}
use Rattle.eit_segments.specs.Placement.{block_place}
use Rattle.eit_segments.specs.Schedule.{last_used, last_number, sections_from, segment_sections}
use Rattle.si_lists.proofs.Lists.{range_more}
use Rattle.eit_segments.proofs.Order.{runs_between, runs_few, used_less}
use Rattle.eit_segments.proofs.schedule.put_table.Goals as goal

pub overflow_sub-segment_last : goal.overflow_sub-segment_last
overflow_sub-segment_last c =
    let runs = runs_between (c.args.first + c.loop-n.n) c.loop-n.from c.block_end-to.result c.args.events.now c.requires.events.order c.loop-n.invariant.from c.block_end-to.ensures.place c.block_end-to.ensures.bound.0 in
    omega (arith, c.count_runs.ensures, ap length runs, (runs_few (c.args.first + c.loop-n.n) c.args.events.now c.requires.events.fit).0)

pub overflow_cast-segment_last : goal.overflow_cast-segment_last
overflow_cast-segment_last c =
    let runs = runs_between (c.args.first + c.loop-n.n) c.loop-n.from c.block_end-to.result c.args.events.now c.requires.events.order c.loop-n.invariant.from c.block_end-to.ensures.place c.block_end-to.ensures.bound.0 in
    omega (arith, c.count_runs.ensures, ap length runs, (runs_few (c.args.first + c.loop-n.n) c.args.events.now c.requires.events.fit).1)

pub overflow_add-segment_last : goal.overflow_add-segment_last
overflow_add-segment_last c =
    let runs = runs_between (c.args.first + c.loop-n.n) c.loop-n.from c.block_end-to.result c.args.events.now c.requires.events.order c.loop-n.invariant.from c.block_end-to.ensures.place c.block_end-to.ensures.bound.0 in
    let few = runs_few (c.args.first + c.loop-n.n) c.args.events.now c.requires.events.fit in
    omega (arith, c.count_runs.ensures, ap length runs, few.0, few.1, c.loop-n-test.true, c.last_used-used.ensures.used, used_less c.args.first 32 c.args.events.now (omega arith))

pub put_segment-requires-clause-few : goal.put_segment-requires-clause-few
put_segment-requires-clause-few c =
    let runs = runs_between (c.args.first + c.loop-n.n) c.loop-n.from c.block_end-to.result c.args.events.now c.requires.events.order c.loop-n.invariant.from c.block_end-to.ensures.place c.block_end-to.ensures.bound.0 in
    let few = runs_few (c.args.first + c.loop-n.n) c.args.events.now c.requires.events.fit in
    omega (arith, ap length runs, few.1, c.loop-n-test.true, c.last_used-used.ensures.used, used_less c.args.first 32 c.args.events.now (omega arith))

pub loop-n-preserved : goal.loop-n-preserved
loop-n-preserved c =
    let events = c.args.events.now in
    let first = c.args.first in
    let n = c.loop-n.n in
    let f = λ (segment : ℕ). segment_sections c.args.table (last_number first events) segment (first + segment) events in
    let old = c.args.pieces.now in
    let before = c.loop-n.invariant.pieces in
    let last = c.last_number-last.ensures in
    let begin = c.loop-n.invariant.from in
    let runs = runs_between (c.args.first + c.loop-n.n) c.loop-n.from c.block_end-to.result c.args.events.now c.requires.events.order c.loop-n.invariant.from c.block_end-to.ensures.place c.block_end-to.ensures.bound.0 in
    let count = c.count_runs.ensures ∙ ap length runs in
    let added : c.put_segment.new.pieces ≡ (old ++ flat_map f (range_with_len 0 n)) ++ f n =
    c.in_ok-put_segment.ensures
    ∙ (λ i. before i ++ sections_from c.args.table (last i) (8 * n + (count i - 1)) (8 * n) (begin i) (runs i)) in
    record {
      from = c.block_end-to.ensures.place ∙ ap (λ (b : ℕ). block_place b events) (let e : 1 + (first + n) ≡ first + (n + 1) = omega arith in e);
      pieces = added ∙ append_assoc old (flat_map f (range_with_len 0 n)) (f n) ∙ ap (λ (l : List Piece). old ++ l) (sym (range_more f 0 n n (omega arith)));
    }

pub returns : goal.returns
returns c =
    let events = c.args.events.now in
    let first = c.args.first in
    let f = λ (segment : ℕ). segment_sections c.args.table (last_number first events) segment (first + segment) events in
    c.loop-n.invariant.pieces
    ∙ ap (λ (k : ℕ). c.args.pieces.now ++ flat_map f (range_with_len 0 k)) (let e : c.loop-n.n ≡ last_used first 32 events + 1 = omega (arith, c.loop-n-test.false, c.loop-n.auto.n-end, c.last_used-used.ensures.used) in e)
