use Rattle.std.proofs.Common.{ℕ, ap, ◌∙◌}
use Rattle.std.specs.Prelude.{◌==◌, slice_index}
use Rattle.guide_model.specs.declared.coding.TheConstants.{PLAIN}
use Rattle.guide_model.proofs.PlainTable.{plain_at}
use Rattle.guide_model.proofs.coding.is_plain_byte.Goals as goal

pub returns : goal.returns
returns c = ap (λ (n : ℕ). slice_index PLAIN n == 1) c.from.ensures ∙ plain_at c.args.b c.ranges.b.fits
