use Rattle.desk_checkpoint.specs.Text.{put_text}
use Rattle.desk_checkpoint.proofs.TextFacts.{next_piece}
use Rattle.desk_checkpoint.proofs.text.put_events.Goals as goal

pub loop-event-preserved : goal.loop-event-preserved
loop-event-preserved c =
    next_piece (put_text c.args.feed c.args.service) c.args.out.now.items c.loop-event.out.items c.put_event.new.out.items c.args.events.now
    c.loop-event.event-index c.event-item.result c.loop-event-test.true c.event-item.is c.loop-event.invariant c.in_ok-put_event.ensures
