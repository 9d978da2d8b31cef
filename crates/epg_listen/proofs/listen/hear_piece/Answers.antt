use Rattle.std.proofs.Common.{◌∷◌, ◌++◌, []}
use Rattle.packet_finder.specs.Finding.{piece_of}
use Rattle.epg_listen.specs.Lines.{after, heard_of}
use Rattle.epg_listen.proofs.JunkFacts.{junk_reports, junk_too_many}
use Rattle.epg_listen.proofs.listen.hear_piece.Goals as goal

pub returns-in-Junk-clause-reports : goal.returns-in-Junk-clause-reports
returns-in-Junk-clause-reports g c = λ bytes heard gave numbered stands.
    junk_reports g.L.Listener.strict (heard_of g.L.Listener.strict heard) heard (g.P.PieceReader.last c.args.pieces.now) c.args.found c.in-Junk.count c.packet_count.result
    (g.R.Sink.written c.args.report.now) (g.R.Sink.written c.pass_over.new.report) c.pass_over.result c.in-Junk.is
    (c.packet_count.ensures bytes (heard ++ piece_of (g.P.PieceReader.last c.args.pieces.now) c.args.found ∷ []) gave)
    (c.pass_over.ensures.reports (heard_of g.L.Listener.strict heard))

pub returns-in-Junk-clause-too_many : goal.returns-in-Junk-clause-too_many
returns-in-Junk-clause-too_many g c = λ h stands.
    junk_too_many (after g.L.Listener.strict h (piece_of (g.P.PieceReader.last c.args.pieces.now) c.args.found)) c.args.found c.in-Junk.count c.pass_over.result c.in-Junk.is
    (c.pass_over.ensures.too_many (after g.L.Listener.strict h (piece_of (g.P.PieceReader.last c.args.pieces.now) c.args.found)))
