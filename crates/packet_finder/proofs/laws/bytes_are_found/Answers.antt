use Rattle.packet_finder.proofs.PieceBytes.{bytes_are}
use Rattle.packet_finder.proofs.laws.bytes_are_found.Goals as goal

pub returns : goal.returns
returns c = bytes_are
