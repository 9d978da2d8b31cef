use Rattle.std.proofs.Common.{ap, sym, ◌∙◌, List, ℕ, length}
use Rattle.packet_finder.specs.Pieces.{Piece}
use Rattle.packet_finder.specs.Laws.{packets_of}
use Rattle.epg_listen.proofs.Reading.{packets_back}
use Rattle.epg_listen.proofs.piece_reader.PacketReaderPieceReader.packet_count.Goals as goal

pub returns : goal.returns
returns g c = λ bytes heard has.
    c.number.ensures ∙ has.number
    ∙ sym (ap (λ (l : List Piece). length (packets_of l)) has.heard_are ∙ ap (λ (l : List (List ℕ)). length l) (packets_back has.packets))
