use Rattle.std.proofs.Common.{◌≡◌, ℕ, ◌+◌, ◌*◌, ◌/◌, ◌++◌, List, flat_map, arith, sym, ap, ◌∙◌}
use Rattle.std.specs.List.{range_with_len}
use Rattle.eit_segments.specs.declared.piece.Piece.{Piece}
use Rattle.eit_segments.specs.Schedule.{last_used, table_sections}
use Rattle.si_lists.proofs.Lists.{range_more}
use Rattle.eit_segments.proofs.schedule.segments.Goals as goal

pub loop-t-preserved : goal.loop-t-preserved
loop-t-preserved c =
    let g = λ (table : ℕ). table_sections (80 + table) (c.block_of-first.result + 32 * table) c.args.events.now in
    c.in_ok-put_table.ensures ∙ ap (λ (l : List Piece). l ++ g c.loop-t.t) c.loop-t.invariant ∙ sym (range_more g 0 c.loop-t.t c.loop-t.t (omega arith))

pub returns : goal.returns
returns c =
    let events = c.args.events.now in
    let first = c.block_of-first.result in
    let all = λ (b k : ℕ). flat_map (λ (table : ℕ). table_sections (80 + table) (b + 32 * table) events) (range_with_len 0 k) in
    let tables : c.loop-t.t ≡ last_used first 512 events / 32 + 1 = omega (arith, c.loop-t-test.false, c.loop-t.auto.t-end, c.last_used.ensures.used) in
    c.loop-t.invariant ∙ ap (all first) tables ∙ ap (λ (b : ℕ). all b (last_used b 512 events / 32 + 1)) c.block_of-first.ensures
