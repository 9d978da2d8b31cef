use Rattle.std.proofs.Common.{ap, sym}
use Rattle.std.proofs.Common.{length}
use Rattle.section_codec.proofs.SameContent.{is_content-apart}
use Rattle.section_codec.proofs.content.same_content.Goals as goal

pub returns-then-a-b : goal.returns-then-a-b
returns-then-a-b c = sym (is_content-apart c.args.a.now c.args.b.now (λ same. c.if-a-b.true (ap length same)))
