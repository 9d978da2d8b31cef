use Rattle.std.proofs.Common.{◌≡◌, ◌++◌, ◌∷◌, [], OnOk, ap, sym, ◌∙◌, subst}
use Rattle.desk_core.specs.declared.airing.Airing.{Airing}
use Rattle.desk_core.specs.Desks.{DeskState}
use Rattle.desk_core.specs.Lean.{stood_for}
use Rattle.version_book.specs.Airings.{AiredTables}
use Rattle.version_book.specs.Book.{aired}
use Rattle.air_audit.specs.CycleChecking.{StandsAt, form_of}
use Rattle.publication.specs.Tables.{HasServicesOf}
use Rattle.journal_air.specs.OnAir.{airing_on}
use Rattle.journal_air.proofs.AirFacts.{airing_is, airing_sent, on_air_services}
use Rattle.epg_play.proofs.RestFacts.{stood_is}
use Rattle.epg_audit.proofs.cycles.begin_cycle.Goals as goal

pub build-requires-clause-services : goal.build-requires-clause-services
build-requires-clause-services c =
    let (journal, stands) = c.requires.lean in
    subst (λ (a : Airing). HasServicesOf c.mux.result.now a.guide) (sym c.airing.view_is)
    (on_air_services (stood_for journal c.args.desk.now) c.mux.result.now c.in_ok-airing.airing c.mux.ensures.value (c.in_ok-airing.ensures.airing journal stands))

pub returns-clause-begun : goal.returns-clause-begun
returns-clause-begun c = λ state at airings accepted stands.
    let form = form_of c.args.checker.now in
    let desk = stood_for state.entries c.args.desk.now in
    let on : Airing = record { number = c.airing.inside.number; moment = c.airing.inside.moment; guide = c.airing.inside.guide.guide } in
    let same : aired c.in_ok-tables.tables.list on.moment.0 form ≡ airing_on state form = airing_sent c.mux.result.now form on c.in_ok-airing.airing c.in_ok-tables.tables.list c.airing.view_is c.in_ok-tables.ensures.tables
    ∙ airing_is desk c.in_ok-airing.airing c.mux.result.now form (c.in_ok-airing.ensures.airing state.entries at.journal) c.mux.ensures.value
    ∙ ap (λ (d : DeskState). airing_on d form) (stood_is state c.args.desk.now at) in
    subst (λ (a : AiredTables). OnOk c.swap.result
    (StandsAt (airings ++ a ∷ []) accepted c.swap.new.self)) same
    (c.swap.ensures.swapped airings accepted stands)
