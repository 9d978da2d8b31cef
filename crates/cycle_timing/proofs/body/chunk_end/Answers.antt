use Rattle.std.proofs.Common.{◌≡◌, ◌+◌, ◌-◌, ◌≤◌, ◌<◌, ℕ, length, sym, ap, ◌∙◌, arith}
use Rattle.std.specs.Prelude.{slice_index}
use Rattle.air_model.specs.Cutting.{cut_from}
use Rattle.air_model.specs.Cursor.{upto}
use Rattle.cycle_timing.proofs.Chunks.{in_fronts, part_less, part_full, part_last}
use Rattle.cycle_timing.proofs.body.chunk_end.Goals as goal

pub returns-then-wants-size-clause-cut : goal.returns-then-wants-size-clause-cut
returns-then-wants-size-clause-cut c = λ least less.
    let i = c.loop-end.invariant in
    let at : c.from-size.result ≡ slice_index c.args.sizes.now c.loop-end.end = c.from-size.ensures in
    let test = c.if-wants-size.true in
    let enough : c.loop-end.wants ≤ slice_index c.args.sizes.now c.loop-end.end = omega arith in
    part_full (slice_index c.args.sizes.now) least c.args.wanted c.args.from c.loop-end.end (length c.args.sizes.now) c.loop-end.wants i.least c.loop-end-test.true enough (i.cut least)

pub loop-end-preserved : goal.loop-end-preserved
loop-end-preserved c =
    let i = c.loop-end.invariant in
    let at : c.from-size.result ≡ slice_index c.args.sizes.now c.loop-end.end = c.from-size.ensures in
    let test = c.if-wants-size.false in
    let few : slice_index c.args.sizes.now c.loop-end.end < c.loop-end.wants = omega arith in
    let end = c.loop-end.end in
    let many = length c.args.sizes.now in
    record {
      least = (let l = i.least in omega arith);
      bound = (let l = c.loop-end-test.true in omega arith);
      cut = λ least.
          part_less (slice_index c.args.sizes.now) least c.args.wanted c.args.from end many c.loop-end.wants i.least c.loop-end-test.true few (i.cut least)
          ∙ ap (λ (n : ℕ). in_fronts (upto c.args.from (end + 1)) (cut_from (slice_index c.args.sizes.now) least (c.loop-end.wants - n) (upto (end + 1) many))) (sym at);
    }

pub returns-clause-cut : goal.returns-clause-cut
returns-clause-cut c = λ least less.
    let i = c.loop-end.invariant in
    let over = c.loop-end-test.false in
    let bound = i.bound in
    let done : c.loop-end.end ≡ length c.args.sizes.now = omega arith in
    part_last (slice_index c.args.sizes.now) least c.args.wanted c.args.from c.loop-end.end (length c.args.sizes.now) c.loop-end.wants less done (i.cut least)
