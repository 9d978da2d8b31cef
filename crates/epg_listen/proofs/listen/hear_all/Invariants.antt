use Rattle.std.proofs.Common.{◌≤◌, List, ℕ, []}
use Rattle.std.specs.Io.KnownBytes.{Appends}
use Rattle.packet_finder.specs.Pieces.{Piece}
use Rattle.epg_listen.specs.Lines.{heard_of, heard_text}
use Rattle.epg_listen.proofs.listen.hear_all.Given as goal

abbrev pub invariant-loop-found : goal.invariant-loop-found
invariant-loop-found g l =
    record {
      going : g.P.PieceReader.going l.pieces;
      same : g.P.PieceReader.same l.fn.pieces l.pieces;
      read_later : g.P.PieceReader.faults l.fn.pieces ≤ g.P.PieceReader.faults l.pieces;
      report_later : g.R.Sink.faults l.fn.report ≤ g.R.Sink.faults l.report;
      told : (bytes : List ℕ) → g.P.PieceReader.gave l.fn.pieces bytes [] →
          (heard : List Piece) × g.P.PieceReader.gave l.pieces bytes heard
          × g.L.Listener.stands l.listener (heard_of g.L.Listener.strict heard)
          × Appends (g.R.Sink.written l.fn.report) (g.R.Sink.written l.report) (heard_text g.L.Listener.strict heard);
    }

abbrev pub decreases-loop-found : goal.decreases-loop-found
decreases-loop-found g l = g.P.PieceReader.to_come l.pieces
