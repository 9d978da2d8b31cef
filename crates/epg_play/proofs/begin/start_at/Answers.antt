use Rattle.std.proofs.Common.{Option, ap, ◌∙◌, subst}
use Rattle.si_causes.specs.Opening.{Files, GivesFile}
use Rattle.epg_report.proofs.Asking.{given_file}
use Rattle.epg_play.proofs.BeginFacts.{begins_at}
use Rattle.epg_play.proofs.begin.start_at.Goals as goal

pub returns-clause-begins : goal.returns-clause-begins
returns-clause-begins g c = λ files has.
    let path = c.args.path.now in
    let left = g.O.From.Source.left c.in-Ok.source in
    let file = given_file files path left (subst (λ (o : Option Files). GivesFile o path left) has c.in-Ok.ensures.content) in
    begins_at path files c.args.mux file.0 c.read_start-begun.result file.2
    (c.read_start-begun.ensures.begins file.0 (ap (λ r. g.O.From.Source.left r.source) c.in-Ok-open_to.ensures ∙ file.1))
