use Rattle.std.proofs.Common.{◌≡◌, ◌++◌, ◌∷◌, [], drop, false, true, arith}
use Rattle.guide_receiver.specs.Heard.{ReceiverStandsFor}
use Rattle.guide_receiver.specs.Dones.{dones_by}
use Rattle.air_monitor.specs.Heard.{AppendsFrontOf, HearsBy, lines_at}
use Rattle.air_monitor.proofs.Outcomes.{ok_both, err_then}
use Rattle.air_monitor.proofs.Lines.{from_join, front_from, sync_of}
use Rattle.air_monitor.proofs.listener.hear_from.Goals as goal

pub returns-clause-ok : goal.returns-clause-ok
returns-clause-ok c past is h sync =
    let join = c.args.join in
    let packet = c.args.packet.now in
    let heard = drop join past in
    let old = c.args.dones.now in
    let new = c.hear_at.new.dones in
    let receiver = c.hear_at.new.receiver in
    let le = c.if-number-join.false in
    let begins = sync_of join past packet (omega (arith, le)) sync in
    ok_both c.hear_at.result (ReceiverStandsFor (heard ++ packet ∷ []) receiver) (new ≡ old ++ lines_at c.args.number (dones_by heard packet)) (HearsBy false join (drop join (past ++ packet ∷ [])) receiver new)
    (λ stands more. from_join join past packet c.args.number old new receiver is (omega (arith, le)) h.1 stands more)
    (c.hear_at.ensures.stands heard h.0 begins) (c.hear_at.ensures.shown heard h.0 begins)

pub returns-clause-memory : goal.returns-clause-memory
returns-clause-memory c past is h =
    let join = c.args.join in
    let packet = c.args.packet.now in
    let heard = drop join past in
    let old = c.args.dones.now in
    let new = c.hear_at.new.dones in
    let receiver = c.hear_at.new.receiver in
    let le = c.if-number-join.false in
    err_then c.hear_at.result (AppendsFrontOf old new (lines_at c.args.number (dones_by heard packet))) (HearsBy true join (drop join (past ++ packet ∷ [])) receiver new)
    (λ front. front_from join past packet c.args.number old new receiver is (omega (arith, le)) h.1 front)
    (c.hear_at.ensures.memory heard h.0)
