use Rattle.std.proofs.Common.{ap, ◌∙◌}
use Rattle.guide_model.specs.Coding.{all_plain}
use Rattle.guide_model.proofs.LenFacts.{plain_front, plain_back}
use Rattle.descriptors.proofs.Pieces.{cut_pieces, cut_utf8, cut_less}
use Rattle.descriptors.proofs.event_descriptors.cut.Goals as goal

pub returns-clause-pieces : goal.returns-clause-pieces
returns-clause-pieces c =
    cut_pieces c.args.text.now c.piece_len.result c.split_at.result.0.now c.split_at.result.1.now c.utf8.text c.requires.some c.piece_len.ensures.size c.split_at.ensures.front c.split_at.ensures.back

pub returns-clause-utf8 : goal.returns-clause-utf8
returns-clause-utf8 c = cut_utf8 c.args.text.now c.piece_len.result c.split_at.result.1.now c.utf8.text c.piece_len.ensures.size c.split_at.ensures.back

pub returns-clause-less : goal.returns-clause-less
returns-clause-less c = cut_less c.args.text.now c.piece_len.result c.split_at.result.1.now c.utf8.text c.requires.some c.piece_len.ensures.size c.split_at.ensures.back

pub returns-clause-front : goal.returns-clause-front
returns-clause-front c known = ap all_plain c.split_at.ensures.front ∙ plain_front c.args.text.now c.piece_len.result (c.requires.plain known)

pub returns-clause-back : goal.returns-clause-back
returns-clause-back c known = ap all_plain c.split_at.ensures.back ∙ plain_back c.args.text.now c.piece_len.result (c.requires.plain known)
