use Rattle.std.proofs.Common.{arith, sym}
use Rattle.descriptors.proofs.Pieces.{length-content_of}
use Rattle.descriptors.proofs.event_descriptors.genres_len.Goals as goal

pub returns-in_default-clause-size : goal.returns-in_default-clause-size
returns-in_default-clause-size c = sym (length-content_of c.args.genres.now (omega arith))
