use Rattle.ts_demux.proofs.Adding.{order_kept}
use Rattle.ts_demux.proofs.laws.order_is_kept.Goals as goal

pub returns : goal.returns
returns c = order_kept
