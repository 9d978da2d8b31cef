use Rattle.std.proofs.Common.{◌≡◌, Bool, sym, ap, ◌∙◌, subst, rules}
use Rattle.std.specs.Io.KnownBytes.{IsAtEnd}
use Rattle.si_causes.specs.Causes.{Rose}
use Rattle.epg_report.specs.declared.status.Status.TheVariants.{Done, ReadFault}
use Rattle.epg_report.specs.declared.status.Origin.TheVariants.{Input}
use Rattle.epg_report.specs.Told.{gave, told}
use Rattle.epg_play.specs.Courses.{PlayedNew}
use Rattle.epg_play.specs.Script.{limit_for}
use Rattle.epg_play.proofs.CourseRuns.{NewRun, fold_memory, folded_run, ran_new}
use Rattle.epg_play.proofs.PlayRuns.{play_memory, play_run}
use Rattle.epg_play.proofs.run.run_play_as.Goals as goal

pub returns : goal.returns
returns g c =
    let limit = limit_for c.args.how.long in
    let played = c.play_new-played in
    let air = told g.A.Sink.written g.A.Sink.faults c.args.air.now played.new.air in
    let report = told g.R.Sink.written g.R.Sink.faults c.args.report.now c.finish.new.report in
    let same : c.input-2-1.given.0 ≡ played.new.lines.source.now = search rules in
    let old : c.in-Ok.lines.source.now ≡ c.args.input.now = ap (λ r. r.source.now) c.in-Ok.ensures in
    let within : c.in-Ok.lines.limit ≡ limit = ap (λ r. r.limit) c.in-Ok.ensures ∙ c.script_limit-limit.ensures.value in
    let input = gave g.S.Source.left g.S.Source.faults c.args.input.now c.input-2-1.given.0 in
    let run = ran_new limit c.args.how.fold input air report played.result c.finish.result
    (λ text tells. subst (λ s. PlayedNew c.args.how.fold limit text (g.S.Source.left s) air.old air.new played.result) (sym same)
    (subst (λ l. PlayedNew c.args.how.fold l text (g.S.Source.left played.new.lines.source.now) air.old air.new played.result) within (played.ensures.played text (ap g.S.Source.left old ∙ tells))))
    played.ensures.known
    (subst (λ s. played.result.met ≡ Done → IsAtEnd (g.S.Source.left s)) (sym same) played.ensures.met.end)
    (subst (λ s. played.result.met ≡ ReadFault Input → Rose (g.S.Source.faults c.args.input.now) (g.S.Source.faults s)) (sym same)
    (subst (λ s. played.result.met ≡ ReadFault Input → Rose (g.S.Source.faults s) (g.S.Source.faults played.new.lines.source.now)) old played.ensures.met.input_cause))
    played.ensures.met.air_cause
    c.finish.ensures in
    record {
      play = λ plain. play_run limit input air report c.finish.result (subst (λ (fold : Bool). NewRun limit fold input air report c.finish.result) plain run);
      fold = λ folds. folded_run limit input air report c.finish.result (subst (λ (fold : Bool). NewRun limit fold input air report c.finish.result) folds run);
    }

pub returns-in_default : goal.returns-in_default
returns-in_default g c = record {
  play = λ plain. play_memory (limit_for c.args.how.long) _ _ _ c.out_of_memory.result c.out_of_memory.ensures.status;
  fold = λ folds. fold_memory (limit_for c.args.how.long) _ _ _ c.out_of_memory.result c.out_of_memory.ensures.status;
}
