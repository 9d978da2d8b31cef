use Rattle.std.proofs.Common.{◌++◌, ap, ◌∙◌}
use Rattle.section_codec.specs.Contents.{Content}
use Rattle.guide_screen.specs.View.{sections}
use Rattle.guide_screen.specs.Reading.{events_in}
use Rattle.guide_screen.specs.Screen.{events_at}
use Rattle.guide_screen.proofs.Lists.{list-next}
use Rattle.guide_screen.proofs.schedule.put_tables.Goals as goal

pub loop-table-preserved : goal.loop-table-preserved
loop-table-preserved c content keeps =
    list-next (events_at content c.args.sdt c.args.service) c.args.tables.now c.loop-table.table-index 0
    c.args.events.now.items c.loop-table.events.items c.put_events.new.out.items
    c.loop-table-test.true (c.loop-table.invariant content keeps)
    (c.in_ok-put_events.ensures
    ∙ ap (λ (x : Content). c.loop-table.events.items ++ events_in x)
    (c.sections_of-sections.ensures content keeps ∙ ap (λ k. sections (content k)) c.eit_key.ensures))
