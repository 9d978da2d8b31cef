use Rattle.std.proofs.Common.{sym, subst}
use Rattle.std.specs.Prelude.{Bool}
use Rattle.command_words.specs.Commands.{options_said}
use Rattle.epg_report.specs.Told.{gave, told}
use Rattle.epg_listen.specs.Hearing.{HasHeard, EndsHeard}
use Rattle.epg_listen.proofs.ListenRunFacts.{heard_run}
use Rattle.epg_listen.proofs.run.run_with.Goals as goal

pub returns : goal.returns
returns g c =
    let words = c.args.words in
    let heard = c.hear_input-heard in
    let stands = g.L.Listener.stands heard.new.listener in
    let written = g.R.Sink.written in
    let faults = g.R.Sink.faults in
    let same = sym c.requires.strict in
    record {
      run = heard_run (options_said words) (gave g.S.Source.left g.S.Source.faults c.args.input.now heard.new.input) (written c.args.report.now) (written heard.new.report) (written c.end_report.new.report)
          (faults c.args.report.now) (faults heard.new.report) (faults c.end_report.new.report) stands heard.result c.end_report.result
          (λ bytes tells. subst (λ (s : Bool). HasHeard words.resync s bytes (g.S.Source.left heard.new.input) stands (written c.args.report.now) (written heard.new.report) heard.result) same (heard.ensures.heard bytes tells))
          heard.ensures.end heard.ensures.read_cause heard.ensures.report_cause heard.ensures.later c.end_report.ensures.later
          (subst (λ (s : Bool). EndsHeard (options_said words) s stands heard.result (told written faults heard.new.report c.end_report.new.report) c.end_report.result) same c.end_report.ensures.ends);
    }
