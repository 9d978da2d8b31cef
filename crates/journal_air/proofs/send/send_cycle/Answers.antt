use Rattle.std.proofs.Common.{sym, ap, ◌∙◌, subst}
use Rattle.version_book.specs.Airings.{AiredTables}
use Rattle.cycle_player.specs.Tallies.{tallied_at}
use Rattle.guide_limits.specs.Limits.{IsGuideWithin}
use Rattle.publication.specs.Tables.{HasServicesOf}
use Rattle.desk_core.specs.declared.airing.Airing.{Airing}
use Rattle.journal_air.proofs.AirFacts.{airing_sent, cycle_sent, cycle_cut}
use Rattle.journal_air.proofs.send.send_cycle.Goals as goal

pub build-requires-clause-services : goal.build-requires-clause-services
build-requires-clause-services g c = subst (λ (a : Airing). HasServicesOf c.args.mux.now a.guide) (sym c.airing.view_is) c.requires.services

pub build-requires-clause-within : goal.build-requires-clause-within
build-requires-clause-within g c = subst (λ (a : Airing). IsGuideWithin a.guide) (sym c.airing.view_is) c.requires.within

pub returns-in-Ok-clause-sent : goal.returns-in-Ok-clause-sent
returns-in-Ok-clause-sent g c = λ xs at_end.
    let begun = c.in_ok-swap.ensures.begun xs at_end in
    let on : Airing = record { number = c.airing.inside.number; moment = c.airing.inside.moment; guide = c.airing.inside.guide.guide } in
    let same = airing_sent c.args.mux.now c.args.player.now.form on c.args.airing.now c.in_ok-tables.tables.list c.airing.view_is c.in_ok-tables.ensures.tables in
    let sent = c.in-Ok.ensures.done xs begun.0 begun.0.packets begun.3 in
    cycle_sent _ xs begun.0 _ _ c.play_cycle.new.self (g.A.Sink.written c.args.air.now) (g.A.Sink.written c.play_cycle.new.sink) c.play_cycle.ensures.rate begun.1 begun.2 same sent.0 sent.1

pub returns-in-Err-clause-sent : goal.returns-in-Err-clause-sent
returns-in-Err-clause-sent g c = λ xs at_end.
    let begun = c.in_ok-swap.ensures.begun xs at_end in
    let on : Airing = record { number = c.airing.inside.number; moment = c.airing.inside.moment; guide = c.airing.inside.guide.guide } in
    let same = airing_sent c.args.mux.now c.args.player.now.form on c.args.airing.now c.in_ok-tables.tables.list c.airing.view_is c.in_ok-tables.ensures.tables in
    cycle_cut _ xs begun.0 _ _ c.play_cycle.new.self (g.A.Sink.written c.args.air.now) (g.A.Sink.written c.play_cycle.new.sink) c.play_cycle.ensures.rate begun.1 begun.2 same
    (c.in-Err.ensures.failed xs begun.0 begun.0.packets begun.3)

pub returns-in-Ok-clause-counted : goal.returns-in-Ok-clause-counted
returns-in-Ok-clause-counted g c = λ past.
    let on : Airing = record { number = c.airing.inside.number; moment = c.airing.inside.moment; guide = c.airing.inside.guide.guide } in
    let same = airing_sent c.args.mux.now c.args.player.now.form on c.args.airing.now c.in_ok-tables.tables.list c.airing.view_is c.in_ok-tables.ensures.tables in
    c.play_cycle.ensures.tally ∙ c.in_ok-swap.ensures.tally past ∙ ap (λ (a : AiredTables). tallied_at c.args.player.now.rate past a c.args.player.now.tally) same

pub returns-in-Err-clause-counted : goal.returns-in-Err-clause-counted
returns-in-Err-clause-counted g c = λ past.
    let on : Airing = record { number = c.airing.inside.number; moment = c.airing.inside.moment; guide = c.airing.inside.guide.guide } in
    let same = airing_sent c.args.mux.now c.args.player.now.form on c.args.airing.now c.in_ok-tables.tables.list c.airing.view_is c.in_ok-tables.ensures.tables in
    c.play_cycle.ensures.tally ∙ c.in_ok-swap.ensures.tally past ∙ ap (λ (a : AiredTables). tallied_at c.args.player.now.rate past a c.args.player.now.tally) same
