use Rattle.std.proofs.Common.{◌++◌, ◌∙◌, ℕ, ap}
use Rattle.mux_model.specs.Fed.{fed_services}
use Rattle.desk_checkpoint.specs.Text.{edits_of, feed_steps, service_text, steps_text}
use Rattle.desk_checkpoint.proofs.TextFacts.{next_piece}
use Rattle.desk_checkpoint.proofs.text.put_services.Goals as goal

pub loop-guide-preserved : goal.loop-guide-preserved
loop-guide-preserved c =
    let guide = c.guide-item.result in
    next_piece (service_text c.args.clears (fed_services c.args.mux.now)) c.args.out.now.items c.loop-guide.out.items c.put_service.new.out.items c.args.guides.now
    c.loop-guide.guide-index guide c.loop-guide-test.true c.guide-item.is c.loop-guide.invariant
    (c.in_ok-put_service.ensures ∙ ap (λ (feed : ℕ). c.loop-guide.out.items ++ steps_text (feed_steps feed (edits_of c.args.clears guide))) c.feed_of.ensures)
