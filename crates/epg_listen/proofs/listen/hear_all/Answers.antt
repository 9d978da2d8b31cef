use Rattle.std.proofs.Common.{◌++◌, ◌∷◌, [], arith}
use Rattle.si_causes.proofs.CauseFacts.{Appends-nothing}
use Rattle.packet_finder.specs.Finding.{piece_of}
use Rattle.epg_listen.specs.Lines.{heard_of}
use Rattle.epg_listen.proofs.ListenFacts.{reported_more, stands_more, heard_line, heard_end, heard_stop, no_read_cause}
use Rattle.epg_listen.proofs.listen.hear_all.Goals as goal

pub loop-found-init : goal.loop-found-init
loop-found-init g c = record {
  going = c.requires.going;
  same = g.met.P.PieceReader.same_at_once c.args.pieces.now;
  read_later = omega arith;
  report_later = omega arith;
  told = λ bytes gave. ([], gave, c.requires.unheard, Appends-nothing (g.R.Sink.written c.args.report.now));
}

pub loop-found-preserved : goal.loop-found-preserved
loop-found-preserved g c =
    let i = c.loop-found.invariant in
    let strict = g.L.Listener.strict in
    let piece = piece_of (g.P.PieceReader.last c.next_piece.new.self) c.in-Ok-Some.found in
    record {
      going = c.in-Ok-Some.ensures.going;
      same = g.met.P.PieceReader.same_later c.args.pieces.now c.loop-found.pieces c.next_piece.new.self i.same c.in-Ok-Some.ensures.same;
      read_later = omega (arith, i.read_later, c.in-Ok-Some.ensures.later);
      report_later = omega (arith, i.report_later, c.in_default.ensures.later);
      told = λ bytes gave.
          let t = i.told bytes gave in
          let gives = (rw c.in-Ok-Some.field-0-is at c.in-Ok-Some.ensures.gives) bytes t.0 t.1 in (
            t.0 ++ piece ∷ [],
            gives.1,
            stands_more strict (g.L.Listener.stands c.hear_piece.new.listener) t.0 piece (c.in_default.ensures.stands (heard_of strict t.0) t.2),
            reported_more strict t.0 piece (g.R.Sink.written c.args.report.now) (g.R.Sink.written c.loop-found.report) (g.R.Sink.written c.hear_piece.new.report) t.3
                (c.in_default.ensures.reports bytes t.0 gives.1 gives.0 t.2),
          );
    }

pub returns-in-Err-hear_piece-clause-heard : goal.returns-in-Err-hear_piece-clause-heard
returns-in-Err-hear_piece-clause-heard g c = λ bytes gave.
    let strict = g.L.Listener.strict in
    let last = g.P.PieceReader.last c.next_piece.new.self in
    let t = c.loop-found.invariant.told bytes gave in
    let gives = (rw c.in-Ok-Some.field-0-is at c.in-Ok-Some.ensures.gives) bytes t.0 t.1 in
    heard_line g.P.PieceReader.resync strict c.in-Err-hear_piece.stop bytes (g.P.PieceReader.left c.next_piece.new.self) (g.L.Listener.stands c.hear_piece.new.listener) t.0 last c.in-Ok-Some.found
    (g.R.Sink.written c.args.report.now) (g.R.Sink.written c.loop-found.report) (g.R.Sink.written c.hear_piece.new.report)
    gives.2 gives.0 t.3
    (c.in-Err-hear_piece.ensures.reports bytes t.0 gives.1 gives.0 t.2)
    (g.met.L.Listener.few c.loop-found.listener (heard_of strict t.0) t.2)
    (c.in-Err-hear_piece.ensures.too_many (heard_of strict t.0) t.2)

pub returns-in-Ok-None-clause-heard : goal.returns-in-Ok-None-clause-heard
returns-in-Ok-None-clause-heard g c = λ bytes gave.
    let strict = g.L.Listener.strict in
    let t = c.loop-found.invariant.told bytes gave in
    heard_end g.P.PieceReader.resync strict bytes (g.P.PieceReader.left c.next_piece.new.self) t.0 (g.L.Listener.stands c.loop-found.listener) (g.R.Sink.written c.args.report.now) (g.R.Sink.written c.loop-found.report)
    ((rw c.in-Ok-None.field-0-is at c.in-Ok-None.ensures.gives) bytes t.0 t.1) t.3 t.2 (g.met.L.Listener.few c.loop-found.listener (heard_of strict t.0) t.2)

pub returns-in-Err-clause-heard : goal.returns-in-Err-clause-heard
returns-in-Err-clause-heard g c = λ bytes gave.
    let strict = g.L.Listener.strict in
    let t = c.loop-found.invariant.told bytes gave in
    heard_stop g.P.PieceReader.resync strict c.in-Err.stop bytes (g.P.PieceReader.left c.next_piece.new.self) (g.P.PieceReader.gave c.next_piece.new.self bytes) (g.P.PieceReader.last c.next_piece.new.self) t.0 (g.L.Listener.stands c.loop-found.listener)
    (g.R.Sink.written c.args.report.now) (g.R.Sink.written c.loop-found.report) (c.in-Err.ensures.gives bytes t.0 t.1) t.3 (g.met.L.Listener.few c.loop-found.listener (heard_of strict t.0) t.2)

pub returns-in-Err-hear_piece-clause-read_cause : goal.returns-in-Err-hear_piece-clause-read_cause
returns-in-Err-hear_piece-clause-read_cause g c =
    no_read_cause (g.P.PieceReader.faults c.args.pieces.now) (g.P.PieceReader.faults c.next_piece.new.self) c.in-Err-hear_piece.stop c.in-Err-hear_piece.ensures.no_read
