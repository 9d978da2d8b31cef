use Rattle.std.proofs.Common.{◌+◌, ◌∷◌, [], take, get_or, map, ap, ◌∙◌}
use Rattle.std.proofs.lemmas.List.{take_more, map-append}
use Rattle.guide_screen.specs.Needs.{want_table}
use Rattle.guide_screen.proofs.Lists.{needs-next}
use Rattle.guide_screen.proofs.needs.put_tables.Goals as goal

pub loop-table-preserved : goal.loop-table-preserved
loop-table-preserved c content keeps =
    let tables = c.args.tables.now in
    let i = c.loop-table.table-index in
    let want = want_table c.args.sdt c.args.service in
    needs-next content (map want (take i tables)) (want (get_or tables i 0) ∷ [])
    (map want (take (i + 1) tables)) c.args.needs.now.items c.loop-table.needs.items c.put_table.new.needs.items
    (ap (map want) (take_more tables i 0 c.loop-table-test.true) ∙ map-append want (take i tables) (get_or tables i 0 ∷ []))
    (c.loop-table.invariant content keeps) (c.in_ok-put_table.ensures content keeps)
