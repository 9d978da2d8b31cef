use Rattle.std.proofs.Common.{ap, rules}
use Rattle.command_words.specs.Commands.{texts}
use Rattle.epg_report.specs.Told.{asked, told}
use Rattle.epg_live.specs.Views.{plan_of}
use Rattle.epg_live.proofs.LiveRunFacts.{live_met}
use Rattle.epg_live.proofs.run.run_files.Goals as goal

pub returns-clause-run : goal.returns-clause-run
returns-clause-run g c =
    live_met g.S.Source.left g.S.Source.faults c.args.input.now c.in_ok-lines.lines.source.now c.in_ok-live._source.now _ (texts c.args.words.now.feeds.items) (plan_of c.args.words.now)
    (asked g.O.Opener.files g.O.Opener.tried g.O.Opener.faults g.O.Opener.read_faults c.args.opener.now c.run_described.new.opener)
    (told g.A.Sink.written g.A.Sink.faults c.args.air.now c.run_described.new.air) c.in_ok-live.live
    (ap (λ r. r.source.now) c.in_ok-lines.ensures) (search rules) c.in_ok-live.ensures.met
