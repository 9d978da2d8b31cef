use Rattle.std.proofs.Common.{◌≡◌, ◌+◌, ◌<◌, ◌++◌, [], ℕ, List, length, sym, ap, ◌∙◌, arith, append-nil}
use Rattle.std.specs.Prelude.{flat_map}
use Rattle.air_model.specs.Cursor.{upto}
use Rattle.cycle_timing.specs.Planning.{in_turns, body_of}
use Rattle.cycle_timing.specs.Tiers.{tiers_of}
use Rattle.cycle_timing.proofs.Chunks.{chunks_from, for_chunk, chunks_more, chunks_last, body_begins, body_next}
use Rattle.cycle_timing.proofs.body.body_of.Goals as goal

pub loop-body-init : goal.loop-body-init
loop-body-init c = record {
  bound = c.requires.fit;
  left = ap (λ (l : List ℕ). l ++ flat_map (for_chunk c.args.sections.now (upto c.args.fasts (c.args.fasts + c.args.nears))) (chunks_from c.args.sizes.now c.packets_between-wanted.result (c.args.fasts + c.args.nears))) c.new-body.ensures.items
      ∙ body_begins c.args.sections.now c.args.sizes.now c.args.fasts c.args.nears c.packets_between-wanted.result c.packets_between-wanted.ensures;
}

pub loop-body-preserved : goal.loop-body-preserved
loop-body-preserved c =
    let i = c.loop-body.invariant in
    let sizes = c.args.sizes.now in
    let end = c.chunk_end-end.result in
    let from = c.loop-body.from in
    let e = c.chunk_end-end.ensures in
    let near = upto c.args.fasts (c.args.fasts + c.args.nears) in
    let not_all = c.if-end-sizes.false in
    let bound = e.bound in
    let less : end < length sizes = omega arith in
    record {
      bound = e.bound;
      left = body_next c.args.sections.now near (upto from end) c.loop-body.body.items c.put_chunk.new.order.items (body_of c.args.sections.now (tiers_of c.args.fasts c.args.nears sizes)) c.as_slice.result.now
          (chunks_from sizes c.packets_between-wanted.result from) (chunks_from sizes c.packets_between-wanted.result end)
          (chunks_more sizes c.packets_between-wanted.result from end e.least less (e.cut c.packets_between-wanted.result)) i.left
          (c.as_slice.ensures.value ∙ c.in_ok-put_turns.ensures ∙ ap (λ (l : List ℕ). l ++ in_turns c.args.sections.now near) c.new-near.ensures.items) c.in_ok-put_chunk.ensures;
    }

pub returns-then-end-sizes : goal.returns-then-end-sizes
returns-then-end-sizes c =
    let i = c.loop-body.invariant in
    let sizes = c.args.sizes.now in
    let end = c.chunk_end-end.result in
    let from = c.loop-body.from in
    let e = c.chunk_end-end.ensures in
    let near = upto c.args.fasts (c.args.fasts + c.args.nears) in
    let done : end ≡ length sizes = c.if-end-sizes.true in
    sym (append-nil c.put_chunk.new.order.items)
    ∙ body_next c.args.sections.now near (upto from end) c.loop-body.body.items c.put_chunk.new.order.items (body_of c.args.sections.now (tiers_of c.args.fasts c.args.nears sizes)) c.as_slice.result.now
    (chunks_from sizes c.packets_between-wanted.result from) []
    (chunks_last sizes c.packets_between-wanted.result from end i.bound done (e.cut c.packets_between-wanted.result)) i.left
    (c.as_slice.ensures.value ∙ c.in_ok-put_turns.ensures ∙ ap (λ (l : List ℕ). l ++ in_turns c.args.sections.now near) c.new-near.ensures.items) c.in_ok-put_chunk.ensures
