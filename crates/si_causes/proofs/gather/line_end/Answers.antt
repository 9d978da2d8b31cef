use Rattle.si_causes.proofs.LineFacts.{lf_searched}
use Rattle.si_causes.proofs.gather.line_end.Goals as goal

pub returns-clause-place : goal.returns-clause-place
returns-clause-place c = lf_searched c.args.bytes.now c.memchr.result c.memchr.ensures
