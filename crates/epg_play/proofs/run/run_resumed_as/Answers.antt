use Rattle.std.proofs.Common.{◌≡◌, sym, ap, ◌∙◌, refl, subst, rules}
use Rattle.std.specs.Io.KnownBytes.{IsAtEnd}
use Rattle.si_causes.specs.Causes.{Rose}
use Rattle.epg_report.specs.declared.status.Status.TheVariants.{Done, ReadFault}
use Rattle.epg_report.specs.declared.status.Origin.TheVariants.{Input}
use Rattle.epg_report.specs.Told.{asked, told}
use Rattle.epg_play.specs.Courses.{PlayedResumed}
use Rattle.epg_play.specs.Script.{limit_for}
use Rattle.epg_play.proofs.CourseRuns.{resume_memory, resume_run}
use Rattle.epg_play.proofs.run.run_resumed_as.Goals as goal

pub returns : goal.returns
returns g c =
    let limit = limit_for c.args.how.long in
    let played = c.play_from-played in
    let opener = asked g.O.Opener.files g.O.Opener.tried g.O.Opener.faults g.O.Opener.read_faults c.args.opener.now played.new.opener in
    let air = told g.A.Sink.written g.A.Sink.faults c.args.air.now played.new.air in
    let report = told g.R.Sink.written g.R.Sink.faults c.args.report.now c.finish.new.report in
    let same : c.input-2-1.given.0 ≡ played.new.lines.source.now = search rules in
    let old : c.in-Ok.lines.source.now ≡ c.args.input.now = ap (λ r. r.source.now) c.in-Ok.ensures in
    let within : c.in-Ok.lines.limit ≡ limit = ap (λ r. r.limit) c.in-Ok.ensures ∙ c.script_limit-limit.ensures.value in
    record {
      run = resume_run limit c.args.path.now c.args.how.fold opener _ air report played.result c.finish.result
          (λ text tells files has. subst (λ s. PlayedResumed c.args.how.fold limit c.args.path.now files text (g.S.Source.left s) opener air.old air.new played.result) (sym same)
          (subst (λ l. PlayedResumed c.args.how.fold l c.args.path.now files text (g.S.Source.left played.new.lines.source.now) opener air.old air.new played.result) within
          (played.ensures.played text (ap g.S.Source.left old ∙ tells) files has)))
          played.ensures.known played.ensures.asked
          (subst (λ s. played.result.met ≡ Done → IsAtEnd (g.S.Source.left s)) (sym same) played.ensures.met.end)
          (subst (λ s. played.result.met ≡ ReadFault Input → Rose (g.S.Source.faults c.args.input.now) (g.S.Source.faults s)) (sym same)
          (subst (λ s. played.result.met ≡ ReadFault Input → Rose (g.S.Source.faults s) (g.S.Source.faults played.new.lines.source.now)) old played.ensures.met.input_cause))
          played.ensures.open_cause played.ensures.read_cause played.ensures.met.air_cause
          c.finish.ensures;
    }

pub returns-in_default : goal.returns-in_default
returns-in_default g c = record { run = resume_memory (limit_for c.args.how.long) c.args.path.now c.args.how.fold _ _ _ _ c.out_of_memory.result c.out_of_memory.ensures.status refl }
