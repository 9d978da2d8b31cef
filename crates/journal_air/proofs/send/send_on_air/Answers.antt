use Rattle.std.proofs.Common.{subst}
use Rattle.version_book.specs.Airings.{AiredTables}
use Rattle.desk_core.specs.Lean.{stood_for}
use Rattle.journal_air.specs.OnAir.{SentCycle}
use Rattle.journal_air.specs.Tallied.{CountedCycle}
use Rattle.journal_air.proofs.AirFacts.{on_air_services, airing_is}
use Rattle.journal_air.proofs.send.send_on_air.Goals as goal

pub send_cycle-requires-clause-services : goal.send_cycle-requires-clause-services
send_cycle-requires-clause-services g c =
    let (journal, stands) = c.requires.lean in
    on_air_services (stood_for journal c.args.desk.now) c.mux.result.now c.in_ok-airing.airing c.mux.ensures.value (c.in_ok-airing.ensures.airing journal stands)

pub returns-clause-sent : goal.returns-clause-sent
returns-clause-sent g c = λ journal xs stands at_end.
    subst (λ (a : AiredTables). SentCycle xs a c.send_cycle.new.player (g.A.Sink.written c.args.air.now) (g.A.Sink.written c.send_cycle.new.air) c.send_cycle.result)
    (airing_is (stood_for journal c.args.desk.now) c.in_ok-airing.airing c.mux.result.now c.args.player.now.form (c.in_ok-airing.ensures.airing journal stands) c.mux.ensures.value) (c.send_cycle.ensures.sent xs at_end)

pub returns-clause-counted : goal.returns-clause-counted
returns-clause-counted g c = λ journal stands.
    subst (λ (a : AiredTables). CountedCycle a c.args.player.now c.send_cycle.new.player c.send_cycle.result)
    (airing_is (stood_for journal c.args.desk.now) c.in_ok-airing.airing c.mux.result.now c.args.player.now.form (c.in_ok-airing.ensures.airing journal stands) c.mux.ensures.value) c.send_cycle.ensures.counted

pub returns-clause-alike : goal.returns-clause-alike
returns-clause-alike g c = record { form = c.send_cycle.ensures.form; rate = c.send_cycle.ensures.rate }
