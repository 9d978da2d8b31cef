use Rattle.std.proofs.Common.{rules}
use Rattle.std.proofs.lemmas.Str.{is_utf8-from_IsUtf8}
use Rattle.guide_model.proofs.RoundTrip.{is_utf8-false}
use Rattle.guide_model.proofs.decoding.utf8_in.Goals as goal

pub returns : goal.returns
returns c = search (rules, is_utf8-from_IsUtf8, is_utf8-false)
