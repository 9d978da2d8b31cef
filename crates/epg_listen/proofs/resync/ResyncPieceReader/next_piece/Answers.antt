use Rattle.std.proofs.Common.{◌∷◌, ◌++◌, []}
use Rattle.packet_finder.specs.Finding.{piece_of}
use Rattle.epg_listen.proofs.Finding.{found_piece, found_front, some_given}
use Rattle.epg_listen.proofs.resync.ResyncPieceReader.next_piece.Goals as goal

pub returns-in-Ok-Some-clause-gives : goal.returns-in-Ok-Some-clause-gives
returns-in-Ok-Some-clause-gives g c = λ bytes heard has.
    let left = g.S.Source.left in
    let before = c.args.self.now.finder in
    let after = c.next.new.self in
    let x = c.in-Ok-Some.found in
    let piece = piece_of after.packet x in
    let going = c.requires.going in
    let found = found_piece left before after bytes heard x has.0
    ((rw c.in-Ok-Some.field-0-is at c.in-Ok-Some.ensures.pieces) going has.0.rest has.0.tells)
    ((rw c.in-Ok-Some.field-0-is at c.in-Ok-Some.ensures.takes) going) ((rw c.in-Ok-Some.field-0-is at c.in-Ok-Some.ensures.counts) going)
    (λ e. (c.in-Ok-Some.ensures.stays e).0) c.in-Ok-Some.ensures.at_end in
    (found.0, (found.1, some_given heard piece), found_front left after bytes (heard ++ piece ∷ []) found.1)
