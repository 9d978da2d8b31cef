use Rattle.std.proofs.Common.{sym}
use Rattle.si_time.proofs.ReadFacts.{has_shape-other_length}
use Rattle.si_time.proofs.digits.has_shape.Goals as goal

pub returns-then-shape-text-clause-value : goal.returns-then-shape-text-clause-value
returns-then-shape-text-clause-value c = sym (has_shape-other_length c.args.shape.now c.args.text.now c.if-shape-text.true)
