use Rattle.std.proofs.Common.{take}
use Rattle.eit_rows.proofs.Fitting.{IsSmallStream}
use Rattle.std.specs.List.{All}
use Rattle.eit_rows.proofs.networks.fit.Given as goal

abbrev pub invariant-loop-stream : goal.invariant-loop-stream
invariant-loop-stream l = All IsSmallStream (take l.stream-index l.streams)
