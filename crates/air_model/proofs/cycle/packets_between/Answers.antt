use Rattle.std.proofs.Common.{ℕ, ◌≡◌, ◌+◌, ◌-◌, ap, arith}
use Rattle.std.specs.Prelude.{slice_index}
use Rattle.section_codec.specs.Contents.{numbers_from}
use Rattle.air_model.specs.Cutting.{packets_in}
use Rattle.air_model.proofs.Cursors.{packets-more}
use Rattle.air_model.proofs.cycle.packets_between.Goals as goal

pub loop-index-preserved : goal.loop-index-preserved
loop-index-preserved c =
    let a = c.args.from in
    let i = c.loop-index.index in
    let m = packets-more (slice_index c.args.sizes.now) a (i - a) in
    let e : packets_in (slice_index c.args.sizes.now) (numbers_from a (i + 1 - a)) ≡ packets_in (slice_index c.args.sizes.now) (numbers_from a (i - a + 1)) = ap (λ (n : ℕ). packets_in (slice_index c.args.sizes.now) (numbers_from a n)) (let h : i + 1 - a ≡ i - a + 1 = omega arith in h) in
    let at : slice_index c.args.sizes.now (a + (i - a)) ≡ slice_index c.args.sizes.now i = ap (slice_index c.args.sizes.now) (let h : a + (i - a) ≡ i = omega arith in h) in
    let t = c.loop-index.invariant.total in
    let b = c.loop-index.invariant.bound in
    record { total = omega arith; bound = omega arith }
