use Rattle.std.proofs.Common.{List, ◌++◌, ◌∷◌, []}
use Rattle.version_book.specs.Airings.{AiredTables}
use Rattle.journal_air.specs.OnAir.{airing_on}
use Rattle.air_audit.specs.TimedAirs.{seen}
use Rattle.air_audit.specs.CycleChecking.{form_of}
use Rattle.epg_audit.proofs.Following.{follows_begun}
use Rattle.epg_audit.proofs.cycles.check_on_air.Goals as goal

pub returns-clause-checks : goal.returns-clause-checks
returns-clause-checks g c = λ state at rate nulls start past given.
    let aired : List AiredTables =
    past ++ airing_on state (form_of c.args.checker.now) ∷ [] in
    c.check_cycle.ensures.checks rate nulls start aired
    (follows_begun rate nulls g.F.Source.left start c.args.packets.now c.args.packets.now past aired
    c.args.checker.now c.begin_cycle.new.checker c.args.passed.now given
    (c.in-Ok.ensures.kind rate nulls given.is_of)
    (c.in-Ok.ensures.begun state at past (seen nulls given.packets) given.stands))
