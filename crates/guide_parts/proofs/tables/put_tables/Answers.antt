use Rattle.guide_screen.proofs.Lists.{list-next}
use Rattle.guide_parts.specs.PartScreen.{events_held}
use Rattle.guide_parts.proofs.tables.put_tables.Goals as goal

pub loop-table-preserved : goal.loop-table-preserved
loop-table-preserved c part keeps =
    list-next (events_held part c.args.home c.args.service) c.args.tables.now c.loop-table.table-index 0
    c.args.events.now.items c.loop-table.events.items c.put_table.new.events.items
    c.loop-table-test.true (c.loop-table.invariant part keeps) (c.in_ok-put_table.ensures part keeps)
