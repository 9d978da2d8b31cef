use Rattle.std.proofs.Common.{rules}
use Rattle.guide_model.proofs.RoundTrip.{plain_read}
use Rattle.guide_model.proofs.decoding.text_in.Goals as goal

pub returns-then-is_all_plain : goal.returns-then-is_all_plain
returns-then-is_all_plain c = plain_read c.args.bytes.now (λ t. t.now) c.utf8_in.result (search rules) c.utf8_in.ensures
