use Rattle.sub_collect.proofs.Whole.{whole-completes, from_zero}
use Rattle.sub_collect.proofs.Segmented.{by_segments}
use Rattle.sub_collect.proofs.laws.whole_versions_complete.Goals as goal

pub returns : goal.returns
returns c = record { whole = whole-completes; from_zero = from_zero; by_segments = by_segments }
