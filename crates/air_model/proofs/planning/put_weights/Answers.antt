use Rattle.std.proofs.Common.{arith}
use Rattle.std.proofs.lemmas.List.Sums.{prefix_len-le-length}
use Rattle.air_model.specs.Air.{leads}
use Rattle.air_model.proofs.planning.put_weights.Goals as goal

pub split_at-requires : goal.split_at-requires
split_at-requires c = omega (arith, c.lead_count.ensures, prefix_len-le-length leads c.args.tables.now)
