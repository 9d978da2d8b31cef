use Rattle.std.proofs.Common.{◌∷◌, ◌++◌, []}
use Rattle.packet_finder.specs.Pieces.{Piece.Packet}
use Rattle.epg_listen.specs.Giving.{HasRead}
use Rattle.epg_listen.proofs.Reading.{read_packet, read_end, read_stop, read_front}
use Rattle.epg_listen.proofs.piece_reader.PacketReaderPieceReader.next_piece.Goals as goal

pub returns-in-Ok-Some-clause-gives : goal.returns-in-Ok-Some-clause-gives
returns-in-Ok-Some-clause-gives g c = λ bytes heard has.
    let left = g.S.Source.left in
    let after = c.next.new.self in
    let going = c.requires.going in
    let read = read_packet left c.args.self.now after bytes heard c.in-Ok-Some.number has
    ((rw c.in-Ok-Some.field-0-is at c.in-Ok-Some.ensures.takes) going) ((rw c.in-Ok-Some.field-0-is at c.in-Ok-Some.ensures.counts) going) in
    (read.0, read.1, read_front left after bytes (heard ++ Packet after.packet ∷ []) read.1)

pub returns-in-Ok-None-clause-gives : goal.returns-in-Ok-None-clause-gives
returns-in-Ok-None-clause-gives g c = λ bytes heard has.
    read_end g.S.Source.left c.args.self.now c.next.new.self bytes heard has
    ((rw c.in-Ok-None.field-0-is at c.in-Ok-None.ensures.packets) c.requires.going has.rest has.tells)

pub returns-in-Err-clause-gives : goal.returns-in-Err-clause-gives
returns-in-Err-clause-gives g c = λ bytes heard has.
    let left = g.S.Source.left in
    let after = c.next.new.self in
    let going = c.requires.going in
    read_stop left c.args.self.now after bytes heard c.in-Err.stop (HasRead left after bytes) has
    (c.in-Err.ensures.packets going has.rest has.tells) (c.in-Err.ensures.takes going) (c.in-Err.ensures.counts going)
