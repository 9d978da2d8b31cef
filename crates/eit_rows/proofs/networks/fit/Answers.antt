use Rattle.std.proofs.Common.{arith, refl, subst}
use Rattle.std.specs.List.{All}
use Rattle.std.proofs.lemmas.List.{take_all}
use Rattle.std.proofs.lemmas.List.Elements.{All-more}
use Rattle.std.proofs.lemmas.List.Sums.{sum_by-le}
use Rattle.table_bodies.specs.Nit.{stream_size}
use Rattle.eit_rows.proofs.Fitting.{IsSmallStream}
use Rattle.eit_rows.proofs.networks.fit.Goals as goal

pub loop-stream-preserved : goal.loop-stream-preserved
loop-stream-preserved c =
    All-more IsSmallStream c.args.streams.now c.loop-stream.stream-index c.stream-item.result (omega arith) c.loop-stream.invariant
    (subst IsSmallStream c.stream-item.is (c.if-not-fits_stream.ensures.fits refl, c.if-not-fits_stream.ensures.few refl))

pub returns-clause-each : goal.returns-clause-each
returns-clause-each c =
    λ done k d lt. (subst (All IsSmallStream) (take_all c.loop-stream.stream-index c.args.streams.now (omega arith)) c.loop-stream.invariant k d lt).0

pub returns-clause-within : goal.returns-clause-within
returns-clause-within c =
    λ done. let each = subst (All IsSmallStream) (take_all c.loop-stream.stream-index c.args.streams.now (omega arith)) c.loop-stream.invariant in
    let sum = sum_by-le stream_size 276 c.args.streams.now (λ k d lt. (each k d lt).1) in
    omega (arith, sum)
